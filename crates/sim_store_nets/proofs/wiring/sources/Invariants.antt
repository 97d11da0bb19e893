use Rattle.std.proofs.Common.{◌≡◌, take}
use Rattle.sim_store_nets.specs.Nets.{sources_of}
use Rattle.sim_store_nets.proofs.wiring.sources.Given as goal

abbrev pub invariant-loop-net : goal.invariant-loop-net
invariant-loop-net l = l.rows ≡ sources_of (take l.net-index l.design.nets)
