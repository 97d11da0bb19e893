-- Numbers as bits, 64 in each word.
-- Implementation only: what `simulate` promises does not rest on this file.
use Rattle.std.specs.Prelude.{ℕ, ◌≡◌, ◌≢◌, ◌<◌, ◌≤◌, ◌/◌, ◌%◌, ◌==◌, Bool, true, false, not, List, slice_index}
use Rattle.std.specs.Int.{bit_at}

-- whether a bit of a word is set
abbrev pub has_bit : ℕ → ℕ → Bool
has_bit word i = bit_at word i == 1

-- whether the words represent a number
abbrev pub has : List ℕ → ℕ → Bool
has words n = has_bit (slice_index words (n / 64)) (n % 64)

-- whether a word has a bit set
abbrev pub uses : List ℕ → ℕ → Bool
uses words k = not (slice_index words k == 0)

-- The tops say which words have a bit set.
abbrev pub AreTops : List ℕ → List ℕ → Type 0
AreTops words tops = (k : ℕ) → has tops k ≡ uses words k

-- No number from this one on passes the test.
abbrev pub NoneFrom : (ℕ → Bool) → ℕ → Type 0
NoneFrom test from = (m : ℕ) → from ≤ m → test m ≡ false

-- This is the first number from `from` on that passes the test.
pub record IsNext (test : ℕ → Bool) (from n : ℕ) : Type 0 where
  pub further : from ≤ n
  pub passes : test n ≡ true
  pub first : (m : ℕ) → from ≤ m → m < n → test m ≡ false

-- This number passes the test, and no other does.
pub record IsOnly (test : ℕ → Bool) (n : ℕ) : Type 0 where
  pub passes : test n ≡ true
  pub others : (m : ℕ) → m ≢ n → test m ≡ false
