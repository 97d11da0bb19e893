use Rattle.std.proofs.Common.{◌≡◌, [], drop}
use Rattle.sim_flat_scope.specs.Faults.{earliest}
use Rattle.sim_flat_instances.specs.Libraries.{bodies_at}
use Rattle.sim_flat_check.specs.Architectures.{names_faults}
use Rattle.sim_flat_check.proofs.architectures.check_names.Given as goal

abbrev pub invariant-loop-architecture : goal.invariant-loop-architecture
invariant-loop-architecture l =
    earliest l.first (names_faults l.library l.known (bodies_at (drop l.architecture-index l.architectures)))
    ≡ earliest l.fn.first (names_faults l.library [] (bodies_at l.architectures))
