-- The bits of one word.
use Rattle.std.proofs.Common.{ℕ, ◌+◌, ◌-◌, ◌/◌, ◌%◌, ◌^◌, ◌<◌, ◌≤◌, ◌≡◌, eqb, Bool, true, false, ap, sym, ◌∙◌, arith, inl, inr, ◌⊎◌}
use Rattle.std.proofs.Math.Nat.{div-div-eq-div-mul}
use Rattle.std.proofs.lemmas.Bool.Decides.{nat_tests}
use Rattle.std.proofs.lemmas.Nat.{pow-add}
use Rattle.std.proofs.lemmas.Nat.Bits.{bit_at-zero, bit_at_above}
use Rattle.std.specs.Int.{bit_at}
use Rattle.sim_containers.specs.Words.{has_bit, IsNext, NoneFrom}

pub one_bit : (b : ℕ) → b ≡ 1 → eqb b 1 ≡ true
one_bit b e = grind (arith, nat_tests)

pub zero_bit : (b : ℕ) → b ≡ 0 → eqb b 1 ≡ false
zero_bit b e = grind (arith, nat_tests)

-- a test does not give both answers
pub not_both : (b : Bool) → b ≡ false → b ≡ true → ⊥
not_both true p q = cc
not_both false p q = cc

pub none_of_zero : (i : ℕ) → has_bit 0 i ≡ false
none_of_zero i = zero_bit (bit_at 0 i) (bit_at-zero i)

-- a word shifted down
pub moved : (word k i : ℕ) → has_bit (word / 2 ^ k) i ≡ has_bit word (k + i)
moved word k i =
    ap (λ (n : ℕ). eqb (n % 2) 1) (div-div-eq-div-mul word (2 ^ k) (2 ^ i) ∙ ap (λ (p : ℕ). word / p) (sym (pow-add 2 k i)))

pub at_distance : (word k i : ℕ) → k ≤ i → has_bit word i ≡ has_bit (word / 2 ^ k) (i - k)
at_distance word k i le = let e : i ≡ k + (i - k) = omega arith in ap (has_bit word) e ∙ sym (moved word k (i - k))

-- no bit is left of it
pub none_left : (word from : ℕ) → word / 2 ^ from ≡ 0 → NoneFrom (has_bit word) from
none_left word from empty m le =
    at_distance word from m le ∙ (ap (λ (w : ℕ). has_bit w (m - from)) empty ∙ none_of_zero (m - from))

within_word : (word i : ℕ) → word < 2 ^ 64 → has_bit word i ≡ true → (i < 64) ⊎ (64 ≤ i) → i < 64
within_word word i fits here (inl l) = l
within_word word i fits here (inr le) = absurd (not_both (has_bit word i) (zero_bit (bit_at word i) (bit_at_above word 64 i fits le)) here)

-- the least bit of what is left of it
pub first_left : (word from z : ℕ) → word < 2 ^ 64 → has_bit (word / 2 ^ from) z ≡ true → ((i : ℕ) → i < z → has_bit (word / 2 ^ from) i ≡ false)
    → (from + z < 64) × IsNext (has_bit word) from (from + z)
first_left word from z fits here before =
    let at : has_bit word (from + z) ≡ true = sym (moved word from z) ∙ here in (
      within_word word (from + z) fits at (side (from + z)),
      record {
        further = omega arith;
        passes = at;
        first = λ m le lt. at_distance word from m le ∙ before (m - from) (omega (arith, le, lt));
      },
    )
  where
    side : (i : ℕ) → (i < 64) ⊎ (64 ≤ i)
    side i = grind arith
