-- An assignment without delay replaces all pending transactions.
use Rattle.std.proofs.Common.{ℕ, suc, ◌+◌, ◌-◌, if◌then◌else◌, ◌≤◌, ◌≡◌, ◌∙◌, nat_lt, Bool, false, List, [], ◌∷◌, ◌++◌, ap, arith, refl}
use Rattle.std.proofs.lemmas.Bool.Decides.{nat_tests}
use Rattle.sim_logic.specs.declared.logic.Logic.{Logic}
use Rattle.sim_standard.specs.declared.delay.Delay.TheVariants.{Inertial}
use Rattle.sim_standard.specs.Drivers.{Transaction}
use Rattle.sim_standard.specs.Editing.{before, edited, marked_of}
use Rattle.sim_wave.specs.Rising.{RisesFrom}

none_before : (time from : ℕ) (old : List Transaction) → time ≤ from → RisesFrom from old → before time old ≡ []
none_before time from [] le rises = refl
none_before time from (x ∷ xs) le rises =
    let first : from ≤ x.0 = rises.0 in
    let later : nat_lt x.0 time ≡ false = grind (arith, nat_tests) in
    ap (λ (b : Bool). if b then x ∷ before time xs else before time xs) later ∙ none_before time (suc x.0) xs (omega arith) rises.1

pub replaced : (old : List Transaction) (now : ℕ) (value : Logic) → RisesFrom now old → edited old now (Inertial 0) ((0, value) ∷ []) ≡ (now, value) ∷ []
replaced old now value rises =
    let same : now + 0 ≡ now = omega arith in
    let none : before (now + 0) old ≡ [] = none_before (now + 0) now old (omega arith) rises in
    ap (λ (xs : List Transaction). marked_of (now + 0 - 0) value xs ++ (now + 0, value) ∷ []) none
    ∙ ap (λ (t : ℕ). (t, value) ∷ []) same
