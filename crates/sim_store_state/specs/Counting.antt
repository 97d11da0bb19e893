-- How changes are counted, net by net.
-- Implementation only: what `simulate` promises does not rest on this file.
use Rattle.std.specs.Prelude.{ℕ, ◌≡◌, ◌+◌, ◌<◌, ◌^◌, List, [], ◌∷◌, length, filter, slice_index_or}
use Rattle.sim_logic.specs.declared.logic.Logic.{Logic}
use Rattle.sim_standard.specs.Agreement.{is_of}
use Rattle.sim_standard.specs.Records.{changes_from}
use Rattle.sim_store_nets.specs.Nets.{changed_to}

-- the change of a net to this value, if it had another one before
abbrev pub change_of : ℕ → Logic → Logic → List (ℕ × Logic)
change_of net value before = changes_from net (changed_to value before ∷ [])

-- Of each net this number of changes can be counted.
abbrev pub AreCountable : ℕ → List ℕ → Type 0
AreCountable changes totals = (n : ℕ) → slice_index_or totals n 0 + changes < 2 ^ 64

-- These changes were counted.
pub record AreCounted (changes : List (ℕ × Logic)) (totals totals' : List ℕ) : Type 0 where
  pub sized : length totals' ≡ length totals
  pub counted : (n : ℕ) → n < length totals → slice_index_or totals' n 0 ≡ slice_index_or totals n 0 + length (filter (is_of n) changes)
