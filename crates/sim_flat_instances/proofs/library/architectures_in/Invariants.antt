use Rattle.std.proofs.Common.{◌≡◌, ◌++◌, drop}
use Rattle.sim_flat_instances.specs.Libraries.{bodies_at, architectures_in}
use Rattle.sim_flat_instances.proofs.library.architectures_in.Given as goal

abbrev pub invariant-loop-unit : goal.invariant-loop-unit
invariant-loop-unit l = bodies_at l.architectures.items ++ architectures_in (drop l.unit-index l.units) ≡ architectures_in l.units
