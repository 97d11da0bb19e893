-- The architecture of the top is in the library: its block exists.
use Rattle.std.proofs.Common.{ℕ, ◌≡◌, ◌+◌, ◌<◌, List, [], ◌∷◌, length, suc, Bool, true, false, Option, Some, None, arith}
use Rattle.std.specs.Option.{option_or}
use Rattle.sim_text_tree.specs.declared.unit.Architecture.{Architecture}
use Rattle.sim_flat_instances.specs.Libraries.{last_architecture, is_of}
use Rattle.sim_flat_instances.specs.Places.{last_place, where_at}

here : (b : Bool) (at n p : ℕ) → where_at b at ≡ Some p → p < at + suc n
here true at n p h = let e : at ≡ p = cc in omega arith
here false at n p h = cc

by_rest : (b : Bool) (at n p : ℕ) (rest : Option ℕ) → (rest ≡ Some p → p < at + 1 + n) → option_or rest (where_at b at) ≡ Some p
    → p < at + suc n
by_rest b at n p (Some q) inner h = let less : p < at + 1 + n = inner h in omega arith
by_rest b at n p None inner h = here b at n p h

last_within : {X : Type 0} (test : X → Bool) (at : ℕ) (xs : List X) (p : ℕ) → last_place test at xs ≡ Some p → p < at + length xs
unfolding last_place
last_within test at [] p h = cc
last_within test at (x ∷ xs) p h = by_rest (test x) at (length xs) p (last_place test (at + 1) xs) (last_within test (at + 1) xs p) h

pub architecture_within : (architectures : List Architecture) (name : List ℕ) (p : ℕ) → last_architecture architectures name ≡ Some p
    → p < length architectures
unfolding last_architecture
architecture_within architectures name p h = let less : p < 0 + length architectures = last_within (is_of name) 0 architectures p h in omega arith
