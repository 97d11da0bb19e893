-- A set of numbers below a bound: for each number, whether it is a member.
-- Implementation only: what `simulate` promises does not rest on this file.
use Rattle.std.specs.Prelude.{All, ◌==◌, [], true, replicate, ℕ, ◌≡◌, ◌<◌, ◌≤◌, ◌+◌, ◌*◌, ◌/◌, ◌^◌, ◌&&◌, ◌||◌, suc, ⊤, Bool}
use Rattle.std.specs.Prelude.{false, not, List, ◌∷◌, length, map, filter}
use Rattle.std.specs.Prelude.{slice_index, slice_index_or}
use Rattle.std.specs.List.{range_with_len}
use Rattle.sim_containers.specs.Words.{has, AreTops}

-- whether a number is a member
abbrev pub is_in : List Bool → ℕ → Bool
is_in set n = slice_index_or set n false

-- whether a number is a member of one set and not of another
abbrev pub is_beside : List Bool → List Bool → ℕ → Bool
is_beside set others n = is_in set n && not (is_in others n)

-- the members, in ascending order
abbrev pub members : List Bool → List ℕ
members set = filter (is_in set) (range_with_len 0 (length set))

-- the set that words represent
abbrev pub set_of : List ℕ → ℕ → List Bool
set_of words count = map (has words) (range_with_len 0 count)

-- Bits: the words have a bit for each number below the bound, the tops a bit for each word. No bit is set from `end` on, nor in a later word.
pub record IsBitSet (words tops : List ℕ) (count end : ℕ) : Type 0 where
  pub room : length words ≡ count / 64 + 1
  pub tops_room : length tops ≡ count / 4096 + 1
  pub used : AreTops words tops
  pub within : end ≤ count
  pub none : (n : ℕ) → end ≤ n → has words n ≡ false
  pub empty : (k : ℕ) → end ≤ k * 64 → slice_index words k ≡ 0
  pub fits : count < 2 ^ 64

-- by stamps: the members are those with the current stamp
abbrev pub stamped : ℕ → List ℕ → List Bool
stamped now stamps = map (λ (s : ℕ). s == now) stamps

-- No stamp is later than the current one, which differs from that of a number that was never added.
pub record AreStamps (now : ℕ) (stamps : List ℕ) : Type 0 where
  pub begun : 0 < now
  pub past : All (λ (s : ℕ). s ≤ now) stamps

-- Either the list has the members, in order, and the bits none, or the bits have them and the list none. The list has room for all numbers. No number from
-- `end` on is a member.
pub record IsListed (set bits : List Bool) (list : List ℕ) (capacity : ℕ) (is_listed : Bool) (end : ℕ) : Type 0 where
  pub listed : is_listed ≡ true → list ≡ members set
  pub clear : is_listed ≡ true → bits ≡ replicate (length set) false
  pub marked : is_listed ≡ false → bits ≡ set
  pub unlisted : is_listed ≡ false → list ≡ []
  pub room : length set ≤ capacity
  pub within : end ≤ length set
  pub none : (n : ℕ) → end ≤ n → is_in set n ≡ false
  pub fits : length set < 2 ^ 64

-- ---- held as a list of its members

-- whether a number is among these
abbrev pub is_among : List ℕ → ℕ → Bool
is_among [] n = false
is_among (m ∷ ms) n = (m == n) || is_among ms n

-- the set of these numbers, as far as they are below a bound
unfoldable pub set_with : List ℕ → ℕ → List Bool
set_with numbers bound = map (is_among numbers) (range_with_len 0 bound)

-- The numbers rise, from one on, and are below a bound.
abbrev pub RiseWithin : ℕ → ℕ → List ℕ → Type 0
RiseWithin from bound [] = ⊤
RiseWithin from bound (n ∷ ns) = (from ≤ n) × (n < bound) × RiseWithin (suc n) bound ns

-- Lists of which this is said rise and are below a bound.
abbrev pub AreRising : List (List ℕ) → ℕ → List Bool → Type 0
AreRising rows bound rises = (n : ℕ) → slice_index_or rises n false ≡ true → RiseWithin 0 bound (slice_index_or rows n [])

-- The list has the members of the set of its numbers, in order, and room for all numbers below the bound.
pub record IsListOf (numbers : List ℕ) (capacity bound : ℕ) : Type 0 where
  pub listed : numbers ≡ members (set_with numbers bound)
  pub room : bound ≤ capacity
