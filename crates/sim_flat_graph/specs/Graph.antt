-- The blocks to which the blocks of a hierarchy lead (IEEE 1076-2008, 14.2).
use Rattle.std.specs.Prelude.{ℕ, ◌+◌, ◌==◌, ◌<◌, List, [], ◌∷◌, ◌++◌, if◌then◌else◌, length, slice_index_or}
use Rattle.std.specs.List.{All, Contains}
use Rattle.sim_flat_blocks.specs.declared.parts.Instance.{Instance}
use Rattle.sim_flat_blocks.specs.declared.parts.Block.{Block}
use Rattle.sim_flat_blocks.specs.Blocks.{no_block}

-- for each block, by number, the numbers of the blocks of its instances
abbrev pub Graph : Type 0
Graph = List (List ℕ)

-- the blocks of instances
unfoldable pub blocks_of : List Instance → List ℕ
blocks_of [] = []
blocks_of (i ∷ is) = i.block ∷ blocks_of is

unfoldable pub graph_of : List Block → Graph
graph_of [] = []
graph_of (b ∷ bs) = blocks_of b.instances ∷ graph_of bs

-- the block with this number
abbrev pub block_at : List Block → ℕ → Block
block_at blocks n = slice_index_or blocks n no_block

-- the numbers to which a number leads
abbrev pub successors : Graph → ℕ → List ℕ
successors g n = slice_index_or g n []

-- `to` is reached from itself, and from any number that leads to one from which it is reached.
pub data Reaches (g : Graph) (to : ℕ) : ℕ → Type 0 where
  Here : Reaches g to to
  Along : (from next : ℕ) → Contains (successors g from) next → Reaches g to next → Reaches g to from

-- All numbers are in range.
abbrev pub IsWhole : Graph → Type 0
IsWhole g = All (λ ns. All (λ n. n < length g) ns) g

-- ---- the reverse graph

-- the number `from`, once for each occurrence of `to` in a list
unfoldable pub each_time : ℕ → ℕ → List ℕ → List ℕ
each_time from to [] = []
each_time from to (n ∷ ns) = if n == to then from ∷ each_time from to ns else each_time from to ns

-- the numbers, counted from `at`, that lead to `to`
unfoldable pub leading : ℕ → ℕ → Graph → List ℕ
leading to at [] = []
leading to at (ns ∷ g) = each_time at to ns ++ leading to (at + 1) g
