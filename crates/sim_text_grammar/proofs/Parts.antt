-- A reader in parts: some consecutive steps of a reader are a reader of their own, from whose answer the others continue.
use Rattle.std.proofs.Common.{◌≡◌, refl, Ok, Err, [], ◌∷◌}
use Rattle.sim_text_tokens.specs.declared.kind.Kind.{Kind}
use Rattle.sim_text_tree.specs.Input.{Input}
use Rattle.sim_text_grammar.specs.Readers.{ParseResult, Parser, and_then, ◌>>◌, pure, left, many_from, same_kind, separated, take_token}

-- The first step of a part is the first of the whole.
pub within : {A B C : Type 0} {f : A → Parser C} (x : ParseResult A) (g : A → Parser B) (h : B → Parser C)
    → ((a : A) (i : Input) → f a i ≡ and_then (g a i) h) → and_then x f ≡ and_then (and_then x g) h
within (Ok p) g h goes_on = goes_on p.0 p.1
within (Err e) g h goes_on = refl

-- The last step of a part is followed by the rest of the whole.
pub beyond : {A C : Type 0} {f h : A → Parser C} (x : ParseResult A) → ((a : A) (i : Input) → f a i ≡ h a i) → and_then x f ≡ and_then x h
beyond (Ok p) goes_on = goes_on p.0 p.1
beyond (Err e) goes_on = refl

-- A list is its first item, and then the further items from there.
pub halves : {A : Type 0} (x : Kind) (item : Parser A) (i : Input) → separated x item i
    ≡ and_then (and_then (item i) (λ a. pure (a ∷ []))) (λ found i. many_from (λ y. same_kind y x) (take_token >> item) (left i) found i)
unfolding separated
halves x item i = within (item i) _ _ (λ a i. refl)
