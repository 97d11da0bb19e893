use Rattle.std.proofs.Common.{◌≡◌, ◌++◌, drop}
use Rattle.sim_flat_blocks.specs.Plans.{seen, signals_of}
use Rattle.sim_flat_blocks.proofs.objects.signals.Given as goal

abbrev pub invariant-loop-each : goal.invariant-loop-each
invariant-loop-each l = l.found.items ++ signals_of (seen l.region) (drop l.each-index l.declarations) ≡ signals_of (seen l.region) l.declarations
