use Rattle.std.proofs.Common.{take, map}
use Rattle.std.specs.Prelude.{flat_map}
use Rattle.sim_run_listing.specs.Writing.{Gathers}
use Rattle.sim_run_listing.specs.Listing.{lines_of}
use Rattle.sim_run_listing.proofs.listing.put_records.Given as goal

abbrev pub invariant-loop-each : goal.invariant-loop-each
invariant-loop-each g l = Gathers (g.W.Write.contents l.initial.out) l.initial.block (g.W.Write.contents l.out) l.block
    (flat_map (lines_of (map g.N.Named.name_of l.fn.names)) (take l.each-index l.fn.records))
