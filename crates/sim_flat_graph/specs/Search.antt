-- A search for all numbers that are reached: each is visited once, in the order in which they are found.
-- Implementation only: what `simulate` promises does not rest on this file.
use Rattle.std.specs.Prelude.{ℕ, zero, suc, List, [], ◌∷◌, ◌++◌, Bool, true, false, if◌then◌else◌, Option, Some, None, length, replicate, slice_get}
use Rattle.std.specs.Prelude.{get_or, slice_set}
use Rattle.sim_flat_graph.specs.Graph.{Graph, successors}

-- the numbers found, and their order
pub record Found : Type 0 where
  pub marks : List Bool
  pub order : List ℕ

-- one more, unless it is already found
unfoldable pub noted : Found → ℕ → Found
noted f n = if get_or f.marks n false then f else record { marks = slice_set f.marks n true; order = f.order ++ n ∷ [] }

unfoldable pub all_noted : Found → List ℕ → Found
all_noted f [] = f
all_noted f (n ∷ ns) = all_noted (noted f n) ns

-- the start
abbrev pub begun : Graph → ℕ → Found
begun g from = noted (record { marks = replicate (length g) false; order = [] }) from

-- the numbers to which a number that was found leads
abbrev pub successors_of : Graph → Option ℕ → List ℕ
successors_of g None = []
successors_of g (Some n) = successors g n

-- the search after this many numbers were visited
unfoldable pub searched : Graph → ℕ → ℕ → Found
searched g from zero = begun g from
searched g from (suc k) = all_noted (searched g from k) (successors_of g (slice_get (searched g from k).order k))
