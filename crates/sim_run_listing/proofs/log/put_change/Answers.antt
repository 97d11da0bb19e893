use Rattle.std.proofs.Common.{map, rules}
use Rattle.sim_run_listing.proofs.Gathering.{gathers_held}
use Rattle.sim_run_listing.proofs.ShortNames.{line_known}
use Rattle.sim_run_listing.proofs.log.put_change.Goals as goal

pub returns-then-gather_short-clause-ok : goal.returns-then-gather_short-clause-ok
returns-then-gather_short-clause-ok g c =
    gathers_held (g.W.Write.contents c.args.out.now) c.args.block.now _ c.gather_short.new.self
    (line_known (map g.N.Named.name_of c.args.names.now) c.args.known.now c.args.change.0 c.in-Some.name.now c.args.head.now.text c.args.block.now
    c.gather_short.new.self c.args.change.1 c.requires.known (search rules) (search rules))
