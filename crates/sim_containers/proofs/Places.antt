-- Numbers as bits of words.
use Rattle.std.proofs.Common.{ℕ, ◌+◌, ◌*◌, ◌/◌, ◌%◌, ◌<◌, ◌≤◌, ◌≡◌, ◌≢◌, eqb, Bool, true, false, not, List, length, get_or, refl, ap, sym, ◌∙◌}
use Rattle.std.proofs.Common.{arith, inl, inr, ◌⊎◌}
use Rattle.std.proofs.lemmas.Bool.Decides.{nat_tests}
use Rattle.std.proofs.lemmas.List.{get_or_past}
use Rattle.std.proofs.lemmas.Nat.{div-mul-add, mod-mul-add}
use Rattle.sim_containers.specs.Words.{has, has_bit, uses, AreTops, IsNext, NoneFrom}
use Rattle.sim_containers.proofs.Bits.{none_of_zero}

-- a number by its word and its bit
pub at_place : (words : List ℕ) (place i : ℕ) → i < 64 → has words (place * 64 + i) ≡ has_bit (get_or words place 0) i
at_place words place i l =
    let d : (place * 64 + i) / 64 ≡ place = div-mul-add place 64 i l in
    let r : (place * 64 + i) % 64 ≡ i = mod-mul-add place 64 i l in
    λ k. has_bit (get_or words (d k) 0) (r k)

pub in_word : (words : List ℕ) (m place : ℕ) → m / 64 ≡ place → has words m ≡ has_bit (get_or words place 0) (m % 64)
in_word words m place e = ap (λ (k : ℕ). has_bit (get_or words k 0) (m % 64)) e

-- a word without bits
pub unused : (words : List ℕ) (n : ℕ) → get_or words (n / 64) 0 ≡ 0 → has words n ≡ false
unused words n z = ap (λ (w : ℕ). has_bit w (n % 64)) z ∙ none_of_zero (n % 64)

pub empty_word : (words : List ℕ) (k : ℕ) → uses words k ≡ false → get_or words k 0 ≡ 0
empty_word words k e = go (eqb (get_or words k 0) 0) refl e
  where
    go : (b : Bool) → eqb (get_or words k 0) 0 ≡ b → not b ≡ false → get_or words k 0 ≡ 0
    go true q e = grind (arith, nat_tests)
    go false q e = cc

pub used_word : (words : List ℕ) (k : ℕ) → uses words k ≡ true → 0 < get_or words k 0
used_word words k e = go (eqb (get_or words k 0) 0) refl e
  where
    go : (b : Bool) → eqb (get_or words k 0) 0 ≡ b → not b ≡ true → 0 < get_or words k 0
    go true q e = cc
    go false q e = let some : get_or words k 0 ≢ 0 = grind (arith, nat_tests) in omega arith

pub used_within : (words : List ℕ) (k : ℕ) → uses words k ≡ true → k < length words
used_within words k e = go (side k (length words))
  where
    side : (i n : ℕ) → (i < n) ⊎ (n ≤ i)
    side i n = grind arith

    go : (k < length words) ⊎ (length words ≤ k) → k < length words
    go (inl l) = l
    go (inr le) = let some = used_word words k e in let none = get_or_past words k 0 le in omega arith

-- no number before a later word
none_before : (words : List ℕ) (from place : ℕ) → NoneFrom (has_bit (get_or words (from / 64) 0)) (from % 64) → ((k : ℕ) → from / 64 + 1 ≤ k
    → k < place → uses words k ≡ false)
    → (m : ℕ) → from ≤ m → m / 64 < place → has words m ≡ false
none_before words from place rest empty m ge lt = go (side (m / 64) (from / 64) (omega (arith, ge)))
  where
    side : (i n : ℕ) → n ≤ i → (i ≡ n) ⊎ (n + 1 ≤ i)
    side i n le = grind arith

    go : (m / 64 ≡ from / 64) ⊎ (from / 64 + 1 ≤ m / 64) → has words m ≡ false
    go (inl e) = in_word words m (from / 64) e ∙ rest (m % 64) (omega (arith, ge, e))
    go (inr later) = unused words m (empty_word words (m / 64) (empty (m / 64) later lt))

-- the first number is in a later word
pub first_there : (words : List ℕ) (from place z : ℕ) → NoneFrom (has_bit (get_or words (from / 64) 0)) (from % 64)
    → IsNext (uses words) (from / 64 + 1) place → z < 64
    → has_bit (get_or words place 0) z ≡ true → ((i : ℕ) → i < z → has_bit (get_or words place 0) i ≡ false) → IsNext (has words) from (place * 64 + z)
first_there words from place z rest is l here before =
    let later : from / 64 + 1 ≤ place = is.further in
    record {
      further = omega arith;
      passes = at_place words place z l ∙ here;
      first = λ m ge lt. go m ge lt (side (m / 64) place);
    }
  where
    side : (i n : ℕ) → (i < n) ⊎ (n ≤ i)
    side i n = grind arith

    go : (m : ℕ) → from ≤ m → m < place * 64 + z → (m / 64 < place) ⊎ (place ≤ m / 64) → has words m ≡ false
    go m ge lt (inl earlier) = none_before words from place rest is.first m ge earlier
    go m ge lt (inr le) = in_word words m place (omega (arith, lt, le)) ∙ before (m % 64) (omega (arith, lt, le))

pub none_there : (words : List ℕ) (from : ℕ) → NoneFrom (has_bit (get_or words (from / 64) 0)) (from % 64) → NoneFrom (uses words) (from / 64 + 1)
    → NoneFrom (has words) from
none_there words from rest empty m ge = none_before words from (m / 64 + 1) rest (λ k le lt. empty k le) m ge (omega arith)

-- the tops find the same word as the words
pub next_by_tops : (words tops : List ℕ) (from place : ℕ) → AreTops words tops → IsNext (has tops) from place → IsNext (uses words) from place
next_by_tops words tops from place same is = record {
  further = is.further;
  passes = sym (same place) ∙ is.passes;
  first = λ m ge lt. sym (same m) ∙ is.first m ge lt;
}

pub none_by_tops : (words tops : List ℕ) (from : ℕ) → AreTops words tops → NoneFrom (has tops) from → NoneFrom (uses words) from
none_by_tops words tops from same none m ge = sym (same m) ∙ none m ge
