use Rattle.std.proofs.Common.{◌≡◌, ◌/◌, ◌%◌, ap, ◌∙◌, arith}
use Rattle.std.proofs.lemmas.Fmt.{length-decimal-le}
use Rattle.sim_run_listing.proofs.LastDigits.{high_digits}
use Rattle.sim_run_listing.proofs.head.Head.set_high_digits.Goals as goal

pub write_digits-self-inside-requires : goal.write_digits-self-inside-requires
write_digits-self-inside-requires c = (length-decimal-le 14 (c.args.time / 1000000) (omega arith) (omega arith) (omega arith), omega arith)

pub invariant_of-self : goal.invariant_of-self
invariant_of-self c =
    let digits = c.write_digits-self-inside.ensures in
    let earlier : c.self.inside.time ≡ c.args.self.now.time = ap (λ s. s.time) c.self.view_is in
    let same : c.self.inside.time % 1000000 ≡ c.args.time % 1000000 = ap (λ n. n % 1000000) earlier ∙ c.requires.same in
    let text = high_digits _ c.self.inside.start c.args.time c.self.inside.time c.self.inside.bytes _ c.self.invariant.0 c.self.told c.self.invariant.3
    c.requires.long.0 c.ranges.time.fits (omega arith) (omega arith) same digits.start digits.written in
    (omega arith, c.self.invariant.1, c.self.invariant.2, text, c.self.invariant.4 ∙ same)
