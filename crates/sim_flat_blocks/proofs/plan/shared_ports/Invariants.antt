use Rattle.std.proofs.Common.{◌≡◌, map, take}
use Rattle.sim_flat_blocks.specs.Plans.{block_ports}
use Rattle.sim_flat_blocks.proofs.plan.shared_ports.Given as goal

abbrev pub invariant-loop-each : goal.invariant-loop-each
invariant-loop-each l = l.found.items ≡ map block_ports (take l.each-index l.declared)
