-- Variables are alike if they have the same types in the same order.
use Rattle.std.proofs.Common.{◌≡◌, ◌<◌, ℕ, List, Bool, true, length, get_or, map, sym, ap, ◌∙◌}
use Rattle.std.proofs.lemmas.List.{get_or-map}
use Rattle.sim_flat_design.specs.declared.held.Held.{Held}
use Rattle.sim_exec_statements.specs.Ready.{holds_bit}

-- variables that are alike are alike at each index
pub alike_at : (xs ys : List Held) (i : ℕ) (x y : Held) → i < length xs → i < length ys → map holds_bit xs ≡ map holds_bit ys
    → holds_bit (get_or xs i x) ≡ holds_bit (get_or ys i y)
alike_at xs ys i x y l m e =
    sym (get_or-map holds_bit xs i x true l) ∙ (ap (λ (bs : List Bool). get_or bs i true) e ∙ get_or-map holds_bit ys i y true m)
