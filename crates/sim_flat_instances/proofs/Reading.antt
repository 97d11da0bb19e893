-- The item that `get` of a list returns.
use Rattle.std.proofs.Common.{ℕ, ◌≡◌, ◌<◌, ◌≤◌, List, length, get_or, slice_get, Option, Some, None, Bor, refl, sym}
use Rattle.std.specs.Option.{option_copied, MatchOption, IfSome}
use Rattle.std.specs.List.{HoldsAt}
use Rattle.std.proofs.lemmas.Option.{slice_get_past, slice_get_read}

pub got : {X : Type 0} (r : Option (Bor X)) (xs : List X) (i : ℕ)
    → MatchOption r (length xs ≤ i) (λ (x : Bor X). (i < length xs) × HoldsAt (λ (y : X). x.now ≡ y) xs i)
    → IfSome r (λ (x : Bor X). x.now ≡ get_or xs i x.now) → option_copied r ≡ slice_get xs i
got None xs i m j = sym (slice_get_past xs i m)
got (Some x) xs i m j = sym (slice_get_read xs (length xs) i x.now refl m.0 j)
