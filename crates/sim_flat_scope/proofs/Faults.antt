-- The first of several faults can be found piece by piece.
use Rattle.std.proofs.Common.{◌≡◌, List, [], ◌∷◌, ◌++◌, Option, refl}
use Rattle.sim_flat_scope.specs.declared.fault.Fault.{Fault}
use Rattle.sim_flat_scope.specs.Faults.{earliest, sooner}

-- the first of two lists is that of the second, once that of the first is known
pub of_both : (known : Option Fault) (fs gs : List Fault) → earliest known (fs ++ gs) ≡ earliest (earliest known fs) gs
unfolding earliest
of_both known [] gs = refl
of_both known (f ∷ fs) gs = of_both (sooner known f) fs gs
