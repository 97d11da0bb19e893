use Rattle.std.proofs.Common.{◌≡◌, map, take}
use Rattle.sim_flat_blocks.specs.Plans.{port, seen}
use Rattle.sim_flat_blocks.proofs.objects.each_port.Given as goal

abbrev pub invariant-loop-each : goal.invariant-loop-each
invariant-loop-each l = l.found.items ≡ map (port (seen l.region)) (take l.each-index l.ports)
