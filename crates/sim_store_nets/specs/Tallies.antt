-- How many sources of a net have each value, so that a change of one source needs no look at the others (IEEE 1076-2008, 4.6, 14.7.3.3).
-- Implementation only: what `simulate` promises does not rest on this file.
use Rattle.std.specs.Prelude.{ℕ, zero, suc, ◌≡◌, ◌<◌, ◌==◌, ◌||◌, ◌&&◌, leb, Bool, true, false, if◌then◌else◌, List, [], ◌∷◌, length, slice_index_or, slice_set}
use Rattle.sim_logic.specs.declared.logic.Logic.{Logic}
use Rattle.sim_logic.specs.declared.logic.Logic.TheVariants.{U, X, Zero, One, Z, W, L, H, Dash}
use Rattle.sim_logic.specs.Tables.{column_of}
use Rattle.sim_flat_design.specs.declared.design.Source.{Source}
use Rattle.sim_flat_design.specs.declared.design.Source.TheVariants as source

-- ---- one net

-- how many of these values are this one
abbrev pub times : Logic → List Logic → ℕ
times v [] = 0
times v (x ∷ xs) = if column_of x == column_of v then suc (times v xs) else times v xs

-- the count of a value
abbrev pub count_at : List ℕ → Logic → ℕ
count_at counts v = slice_index_or counts (column_of v) 0

-- whether a count is not zero
abbrev pub is_positive : ℕ → Bool
is_positive zero = false
is_positive (suc n) = true

-- These are the counts of the values; without values, there may be none.
pub record IsTally (values : List Logic) (counts : List ℕ) : Type 0 where
  pub counted : (v : Logic) → count_at counts v ≡ times v values
  pub sized : 0 < length values → length counts ≡ 9

-- the resolution of values, by which of them there are ('Z' changes nothing)
abbrev pub resolution_of : Bool → Bool → Bool → Bool → Bool → Bool → Bool → Bool → Logic
resolution_of has_u has_x has_dash has_zero has_one has_w has_l has_h =
    if has_u then U else
    (if has_x then X else
    (if has_dash then X else
    (if has_zero then (if has_one then X else Zero) else
    (if has_one then One else
    (if has_w then W else
    (if has_l then (if has_h then W else L) else
    (if has_h then H else Z)))))))

-- the same, by their counts
abbrev pub resolution_by : List ℕ → Logic
resolution_by counts =
    resolution_of (is_positive (count_at counts U)) (is_positive (count_at counts X)) (is_positive (count_at counts Dash))
    (is_positive (count_at counts Zero)) (is_positive (count_at counts One)) (is_positive (count_at counts W))
    (is_positive (count_at counts L)) (is_positive (count_at counts H))

-- ---- all nets

-- the values of the sources of each net that has many, none of other nets; and of each driver the places among them, by net and source
pub record TallyLists : Type 0 where
  pub rows : List (List Logic)
  pub places : List (List (ℕ × ℕ))

-- whether a net with these sources has many
abbrev pub is_many : List Source → Bool
is_many row = leb 16 (length row)

-- the sources of which values are kept
abbrev pub many : List Source → List Source
many row = if is_many row then row else []

-- the source at a place
abbrev pub source_at : List Source → ℕ → Source
source_at row p = slice_index_or row p (source.Constant U)

-- whether a place is among these
abbrev pub is_placed : List (ℕ × ℕ) → ℕ → ℕ → Bool
is_placed [] n p = false
is_placed (x ∷ places) n p = ((x.0 == n) && (x.1 == p)) || is_placed places n p

-- the lists with this value at a place
abbrev pub set_one : ℕ × ℕ → Logic → List (List Logic) → List (List Logic)
set_one place v rows = slice_set rows place.0 (slice_set (slice_index_or rows place.0 []) place.1 v)

-- the lists with this value at each of these places
abbrev pub set_all : List (ℕ × ℕ) → Logic → List (List Logic) → List (List Logic)
set_all [] v rows = rows
set_all (x ∷ places) v rows = set_all places v (set_one x v rows)

-- the lists once a driver has this value
abbrev pub noted : TallyLists → ℕ → Logic → TallyLists
noted t driver v = record { rows = set_all (slice_index_or t.places driver []) v t.rows; places = t.places }
