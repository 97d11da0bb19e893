-- A loop that records the faults of each item in turn.
use Rattle.std.proofs.Common.{◌≡◌, ℕ, ◌+◌, ◌<◌, List, ◌∷◌, ◌++◌, length, drop, get_or, Option, ap, sym, ◌∙◌}
use Rattle.std.proofs.lemmas.List.{drop_more}
use Rattle.sim_flat_scope.specs.declared.fault.Fault.{Fault}
use Rattle.sim_flat_scope.specs.Faults.{earliest}
use Rattle.sim_flat_scope.proofs.Faults.{of_both}

-- the rest of a list, one item further
pub opened : {X : Type 0} (xs : List X) (i : ℕ) (x : X) → i < length xs → x ≡ get_or xs i x → x ∷ drop (i + 1) xs ≡ drop i xs
opened xs i x below is = ap (λ y. y ∷ drop (i + 1) xs) is ∙ sym (drop_more xs i x below)

-- one iteration, if the faults of a list are those of its items
pub one_more : {X : Type 0} (faults : List X → List Fault) (each : X → List Fault) → ((x : X) (xs : List X) → faults (x ∷ xs) ≡ each x ++ faults xs)
    → (xs : List X) (i : ℕ) (x : X) → i < length xs → x ≡ get_or xs i x → (known more start : Option Fault)
    → more ≡ earliest known (each x) → earliest known (faults (drop i xs)) ≡ start → earliest more (faults (drop (i + 1) xs)) ≡ start
one_more {X} faults each cons xs i x below is known more start step so_far =
    let rest : List X = drop (i + 1) xs in
    ap (λ (f : Option Fault). earliest f (faults rest)) step
    ∙ (sym (of_both known (each x) (faults rest))
    ∙ (ap (earliest known) (sym (cons x rest) ∙ ap faults (opened xs i x below is)) ∙ so_far))
