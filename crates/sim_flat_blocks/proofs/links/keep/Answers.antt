use Rattle.std.proofs.Common.{sym, arith}
use Rattle.sim_flat_blocks.proofs.KeptLinks.{put_listed, put_kept}
use Rattle.sim_flat_blocks.proofs.links.keep.Goals as goal

pub returns-then-place-len-clause-kept : goal.returns-then-place-len-clause-kept
returns-then-place-len-clause-kept c ports = sym (put_listed c.args.first.now.items c.args.others.now.entries ports c.args.place c.args.link (omega arith))

pub returns-clause-kept : goal.returns-clause-kept
returns-clause-kept c ports =
    sym (put_kept c.args.first.now.items c.args.others.now.entries c.insert.new.self.entries ports c.args.place c.args.link (omega arith)
    c.in_ok-insert.ensures.updates.0)
