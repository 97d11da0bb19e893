use Rattle.std.proofs.Common.{rules, arith}
use Rattle.std.proofs.lemmas.Fmt.{length-decimal-le}
use Rattle.sim_run_listing.proofs.Heads.{ended}
use Rattle.sim_run_listing.proofs.head.Head.set_all_digits.Goals as goal

pub write_digits-self-inside-requires : goal.write_digits-self-inside-requires
write_digits-self-inside-requires c = (length-decimal-le 20 c.args.time (omega arith) (search rules) (search rules), omega arith)

pub invariant_of-self : goal.invariant_of-self
invariant_of-self c =
    let digits = c.write_digits-self-inside.ensures in
    (omega arith, c.self.invariant.1, c.self.invariant.2, ended _ 20 32 _ _ _ digits.start (search rules) digits.written, c.requires)
