use Rattle.std.proofs.Common.{take, map}
use Rattle.std.specs.Prelude.{flat_map}
use Rattle.sim_run_listing.specs.Writing.{Gathers}
use Rattle.sim_run_listing.specs.Listing.{line_of}
use Rattle.sim_run_listing.proofs.listing.put_changes.Given as goal

abbrev pub invariant-loop-change : goal.invariant-loop-change
invariant-loop-change g l = Gathers (g.W.Write.contents l.initial.out) l.initial.block (g.W.Write.contents l.out) l.block
    (flat_map (line_of l.fn.head.text (map g.N.Named.name_of l.fn.names)) (take l.change-index l.fn.changes))
