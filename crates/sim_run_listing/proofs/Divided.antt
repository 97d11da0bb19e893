-- A line whose name is a path in pieces and a simple name.
use Rattle.std.proofs.Common.{◌≡◌, ℕ, List, [], ◌∷◌, ◌++◌, sym, ap, ◌∙◌, append_assoc}
use Rattle.std.specs.Prelude.{codes}
use Rattle.std.specs.List.{concat}
use Rattle.std.proofs.lemmas.List.Concat.{concat_is}
use Rattle.sim_logic.specs.declared.logic.Logic.{Logic}
use Rattle.sim_logic.specs.Logic.{byte_of}
use Rattle.sim_run_listing.specs.Listing.{joined, pieces_of}

-- the end of a line, after the name
abbrev after_name : Logic → List ℕ
after_name value = joined (codes " " ∷ (byte_of value ∷ []) ∷ codes "\n" ∷ [])

pub line_is : (head : List ℕ) (path : List (List ℕ)) (simple_name : List ℕ) (value : Logic)
    → head ++ (joined path ++ pieces_of [] ([] ++ simple_name) value) ≡ pieces_of head (concat path ++ simple_name) value
line_is head path simple_name value = ap (λ (l : List ℕ). head ++ l)
    (ap (λ (l : List ℕ). l ++ (simple_name ++ after_name value)) (sym (concat_is path))
    ∙ sym (append_assoc (concat path) simple_name (after_name value)))
