-- Loops that search for the first or the last position of an item.
use Rattle.std.proofs.Common.{ℕ, ◌≡◌, ◌+◌, ◌<◌, ◌≤◌, List, [], ◌∷◌, length, get_or, drop}
use Rattle.std.proofs.Common.{Bool, true, false, Option, Some, None, refl, ap, sym, ◌∙◌, suc, arith}
use Rattle.std.proofs.lemmas.List.{drop_all, drop_more}
use Rattle.std.specs.Option.{option_or, IfSome}
use Rattle.sim_flat_scope.specs.Ports.{Port}
use Rattle.sim_flat_instances.specs.Interfaces.{is_named, port_place}
use Rattle.sim_flat_instances.specs.Places.{where_at, first_place, last_place}

pub or_again : (a b c : Option ℕ) → option_or (option_or a b) c ≡ option_or a (option_or b c)
or_again None b c = refl
or_again (Some x) b c = refl

pub or_none : (a : Option ℕ) → option_or a None ≡ a
or_none None = refl
or_none (Some x) = refl

-- the rest of a list, one item further
pub opened : {X : Type 0} (xs : List X) (i : ℕ) (x : X) → i < length xs → x ≡ get_or xs i x → x ∷ drop (i + 1) xs ≡ drop i xs
opened xs i x below is = ap (λ y. y ∷ drop (i + 1) xs) is ∙ sym (drop_more xs i x below)

module _ {X : Type 0} (test : X → Bool) (xs : List X) (i : ℕ) (x : X) (below : i < length xs) (is : x ≡ get_or xs i x) (known more all : Option ℕ) where
  -- one iteration of the search for the first position
  pub first_step : option_or known (first_place test i (drop i xs)) ≡ all → more ≡ option_or known (where_at (test x) i)
      → option_or more (first_place test (i + 1) (drop (i + 1) xs)) ≡ all
  unfolding first_place
  first_step so_far step = rw step
      (or_again known (where_at (test x) i) (first_place test (i + 1) (drop (i + 1) xs))
      ∙ (ap (λ (rest : List X). option_or known (first_place test i rest)) (opened xs i x below is) ∙ so_far))

  -- one iteration of the search for the last position
  pub last_step : option_or (last_place test i (drop i xs)) known ≡ all → more ≡ option_or (where_at (test x) i) known
      → option_or (last_place test (i + 1) (drop (i + 1) xs)) more ≡ all
  unfolding last_place
  last_step so_far step = rw step
      (sym (or_again (last_place test (i + 1) (drop (i + 1) xs)) (where_at (test x) i) known)
      ∙ (ap (λ (rest : List X). option_or (last_place test i rest) known) (opened xs i x below is) ∙ so_far))

module _ {X : Type 0} (test : X → Bool) (xs : List X) (i : ℕ) (done : length xs ≤ i) (known all : Option ℕ) where
  -- the first position, at the end of the search
  pub first_done : option_or known (first_place test i (drop i xs)) ≡ all → known ≡ all
  unfolding first_place
  first_done so_far = sym (or_none known) ∙ (ap (λ (rest : List X). option_or known (first_place test i rest)) (sym (drop_all i xs done)) ∙ so_far)

  -- the last position, at the end of the search
  pub last_done : option_or (last_place test i (drop i xs)) known ≡ all → known ≡ all
  unfolding last_place
  last_done so_far = ap (λ (rest : List X). option_or (last_place test i rest) known) (sym (drop_all i xs done)) ∙ so_far

-- a first position is within the list
by_test : (b : Bool) (at n p : ℕ) (rest : Option ℕ) → (rest ≡ Some p → p < at + 1 + n) → option_or (where_at b at) rest ≡ Some p → p < at + suc n
by_test true at n p rest inner h = let e : at ≡ p = cc in omega arith
by_test false at n p rest inner h = let less : p < at + 1 + n = inner h in omega arith

first_within : {X : Type 0} (test : X → Bool) (at : ℕ) (xs : List X) (p : ℕ) → first_place test at xs ≡ Some p → p < at + length xs
unfolding first_place
first_within test at [] p h = cc
first_within test at (x ∷ xs) p h = by_test (test x) at (length xs) p (first_place test (at + 1) xs) (first_within test (at + 1) xs p) h

pub place_within : (o : Option ℕ) (ports : List Port) (n : List ℕ) → o ≡ port_place ports n → IfSome o (λ p. p < length ports)
unfolding port_place
place_within None ports n h = tt
place_within (Some p) ports n h = let less : p < 0 + length ports = first_within (is_named n) 0 ports p (sym h) in omega arith
