-- Answers have the numbers of their orders.
use Rattle.std.proofs.Common.{◌≡◌, ◌++◌, [], ◌∷◌, ℕ, List, map, ap, sym, ◌∙◌}
use Rattle.std.proofs.lemmas.List.{append_assoc, map-append}

-- one more answer, to the next order
pub one_more : {A B : Type 0} (f : A → ℕ) (g : B → ℕ) (old : List ℕ) (before after : List A) (done : List B) (next : B)
    → map f before ≡ old ++ map g done → map f after ≡ map f before ++ g next ∷ [] → map f after ≡ old ++ map g (done ++ next ∷ [])
one_more f g old before after done next so_far more =
    more ∙ (ap (λ (ns : List ℕ). ns ++ g next ∷ []) so_far ∙ (append_assoc old (map g done) (g next ∷ [])
    ∙ ap (λ (ns : List ℕ). old ++ ns) (sym (map-append g done (next ∷ [])))))
