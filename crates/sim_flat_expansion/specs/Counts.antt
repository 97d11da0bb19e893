-- Numbers of nets, processes, drivers and instances below a block, found without expanding it.
use Rattle.std.specs.Prelude.{ℕ, zero, suc, ◌+◌, ◌-◌, min, List, [], ◌∷◌, length, slice_index_or}
use Rattle.sim_flat_design.specs.Designs.{most}
use Rattle.sim_flat_expansion.specs.declared.counts.Kind.{Kind}
use Rattle.sim_flat_expansion.specs.declared.counts.Kind.TheVariants.{Nets, Processes, Drivers, Instances}
use Rattle.sim_flat_blocks.specs.declared.parts.BlockProcess.{BlockProcess}
use Rattle.sim_flat_blocks.specs.declared.parts.Instance.{Instance}
use Rattle.sim_flat_blocks.specs.declared.parts.Block.{Block}
use Rattle.sim_flat_blocks.specs.Links.{unlinked}
use Rattle.sim_flat_blocks.specs.Blocks.{targets_of}
use Rattle.sim_flat_expansion.specs.Flat.{occurrences_of, flat}

-- the number of a kind in the flat design; the top is not an instance
unfoldable pub number : Kind → List Block → ℕ → ℕ
number Nets blocks top = length (flat blocks top).nets
number Processes blocks top = length (flat blocks top).processes
number Drivers blocks top = length (flat blocks top).drivers
number Instances blocks top = length (occurrences_of blocks top) - 1

-- counting stops above the limit
abbrev pub capped : ℕ → ℕ
capped n = min n (most + 1)

abbrev pub sum : ℕ → ℕ → ℕ
sum a b = capped (capped a + capped b)

-- the number that a block has by itself, without its ports
abbrev pub own_number : Kind → Block → ℕ
own_number Nets b = length b.signals
own_number Processes b = length b.processes
own_number Drivers b = length (targets_of b.processes)
own_number Instances b = 0

-- the number that an instance adds to its block
abbrev pub step_number : Kind → Instance → ℕ
step_number Nets i = unlinked i.links
step_number Processes i = 0
step_number Drivers i = 0
step_number Instances i = 1

-- the number that the top adds: each of its ports is a net
abbrev pub top_added : Kind → Block → ℕ
top_added Nets b = length b.ports
top_added Processes b = 0
top_added Drivers b = 0
top_added Instances b = 0

-- ---- as the code counts: a table with the number of each block, level by level
unfoldable pub targets_counted : List BlockProcess → ℕ → ℕ
targets_counted [] n = n
targets_counted (t ∷ ts) n = targets_counted ts (sum n (length t.targets))

abbrev pub own_counted : Kind → Block → ℕ
own_counted Nets b = capped (length b.signals)
own_counted Processes b = capped (length b.processes)
own_counted Drivers b = targets_counted b.processes 0
own_counted Instances b = 0

abbrev pub step_counted : Kind → Instance → ℕ
step_counted Nets i = capped (unlinked i.links)
step_counted Processes i = 0
step_counted Drivers i = 0
step_counted Instances i = 1

abbrev pub top_counted : Kind → Block → ℕ
top_counted kind b = capped (top_added kind b)

unfoldable pub instances_counted : Kind → List ℕ → List Instance → ℕ → ℕ
instances_counted kind table [] n = n
instances_counted kind table (i ∷ is) n = instances_counted kind table is (sum (sum n (step_counted kind i)) (slice_index_or table i.block 0))

-- the same in two parts: what the instances add to their block, and the numbers of their blocks
unfoldable pub steps_counted : Kind → List Instance → ℕ → ℕ
steps_counted kind [] n = n
steps_counted kind (i ∷ is) n = steps_counted kind is (sum n (step_counted kind i))

unfoldable pub blocks_counted : List ℕ → List Instance → ℕ → ℕ
blocks_counted table [] n = n
blocks_counted table (i ∷ is) n = blocks_counted table is (sum n (slice_index_or table i.block 0))

-- the number of each block, without the blocks of its instances
unfoldable pub alone : Kind → List Block → List ℕ
alone kind [] = []
alone kind (b ∷ bs) = steps_counted kind b.instances (own_counted kind b) ∷ alone kind bs

-- with the blocks of its instances, from the block at this position
unfoldable pub level_counted : List ℕ → List ℕ → ℕ → List Block → List ℕ
level_counted table alone n [] = []
level_counted table alone n (b ∷ bs) = blocks_counted table b.instances (slice_index_or alone n 0) ∷ level_counted table alone (n + 1) bs

unfoldable pub first_table : Kind → List Block → List ℕ
first_table kind [] = []
first_table kind (b ∷ bs) = own_counted kind b ∷ first_table kind bs

unfoldable pub next_table : Kind → List ℕ → List Block → List ℕ
next_table kind table [] = []
next_table kind table (b ∷ bs) = instances_counted kind table b.instances (own_counted kind b) ∷ next_table kind table bs

unfoldable pub table_at : Kind → List Block → ℕ → List ℕ
table_at kind blocks zero = first_table kind blocks
table_at kind blocks (suc k) = next_table kind (table_at kind blocks k) blocks
