use Rattle.std.proofs.Common.{◌≡◌, ◌++◌, map, take}
use Rattle.sim_flat_blocks.specs.Plans.{object, seen}
use Rattle.sim_flat_blocks.proofs.objects.add_signals.Given as goal

abbrev pub invariant-loop-name : goal.invariant-loop-name
invariant-loop-name l = l.found.items ≡ l.fn.found.items ++ map (object (seen l.region) l.mark l.first) (take l.name-index l.names)
