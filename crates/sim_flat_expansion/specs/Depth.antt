-- Chains of instances, each in the block of the previous one.
use Rattle.std.specs.Prelude.{ℕ, zero, suc, ◌||◌, List, [], ◌∷◌, Bool, true, false, slice_index_or}
use Rattle.std.specs.List.{list_any}
use Rattle.sim_flat_blocks.specs.declared.parts.Instance.{Instance}
use Rattle.sim_flat_blocks.specs.declared.parts.Block.{Block}
use Rattle.sim_flat_blocks.specs.Blocks.{block_of}

-- whether a block has a chain of this many instances below it
unfoldable pub has_chain : List Block → ℕ → Block → Bool
has_chain blocks zero b = true
has_chain blocks (suc k) b = list_any (λ (i : Instance). has_chain blocks k (block_of blocks i)) b.instances

-- ---- as the code finds it: a table with an answer for each block, level by level
abbrev pub chain_at : List Bool → ℕ → Bool
chain_at table n = slice_index_or table n false

unfoldable pub any_at : List Bool → List Instance → Bool
any_at table [] = false
any_at table (i ∷ is) = chain_at table i.block || any_at table is

unfoldable pub first_table : List Block → List Bool
first_table [] = []
first_table (b ∷ bs) = true ∷ first_table bs

unfoldable pub next_table : List Bool → List Block → List Bool
next_table table [] = []
next_table table (b ∷ bs) = any_at table b.instances ∷ next_table table bs

unfoldable pub table_at : List Block → ℕ → List Bool
table_at blocks zero = first_table blocks
table_at blocks (suc k) = next_table (table_at blocks k) blocks
