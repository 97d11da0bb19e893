use Rattle.std.proofs.Common.{◌≡◌, take, map}
use Rattle.sim_store_nets.specs.Nets.{row_from, sources_of}
use Rattle.sim_store_nets.proofs.values.first_values.Given as goal

abbrev pub invariant-loop-net : goal.invariant-loop-net
invariant-loop-net l = l.values.items ≡ map (row_from l.driving) (sources_of (take l.net-index l.nets))
