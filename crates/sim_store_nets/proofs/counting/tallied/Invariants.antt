use Rattle.std.proofs.Common.{◌≡◌, map, take}
use Rattle.sim_store_nets.specs.Nets.{tally_of}
use Rattle.sim_store_nets.proofs.counting.tallied.Given as goal

abbrev pub invariant-loop-net : goal.invariant-loop-net
invariant-loop-net l = l.rows.items ≡ map (tally_of l.driving) (take l.net l.sources)
