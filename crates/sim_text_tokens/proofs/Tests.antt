-- Facts about tests.
use Rattle.std.proofs.Common.{◌≡◌, Bool, true, false, ◌&&◌, ◌||◌, List, [], ◌∷◌, Some, refl}
use Rattle.std.specs.List.{list_all}
use Rattle.std.specs.Str.{bytes_eq}
use Rattle.sim_text_tokens.specs.declared.kind.Kind.{Kind}
use Rattle.sim_text_tokens.specs.Pieces.{Text, kind_in}

pub by_cases : {P : Type 0} (b : Bool) → (b ≡ true → P) → (b ≡ false → P) → P
by_cases true f g = f refl
by_cases false f g = g refl

pub and_both : (a b : Bool) → (a && b) ≡ true → (a ≡ true) × (b ≡ true)
and_both true b h = (refl, h)
and_both false b h = absurd cc

pub or_true : (a b : Bool) → b ≡ true → (a || b) ≡ true
or_true true b h = refl
or_true false b h = h

-- a kind found in a table whose kinds all pass a test passes it too
pub kind_passes : (test : Kind → Bool) (table : List (Text × Kind)) (bytes : Text) (k : Kind) → list_all (λ (e : Text × Kind). test e.1) table ≡ true
    → kind_in table bytes ≡ Some k → test k ≡ true
kind_passes test [] bytes k all h = absurd cc
kind_passes test (e ∷ table) bytes k all h = by_cases (bytes_eq e.0 bytes)
    (λ t. let found : Some e.1 ≡ Some k = rw t at h in
    let same : e.1 ≡ k = cc in
    rw (← same) (and_both (test e.1) _ all).0)
    (λ f. kind_passes test table bytes k (and_both (test e.1) _ all).1 (rw f at h))
