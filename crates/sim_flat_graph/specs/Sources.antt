-- Unresolved signals and ports with more than one source (IEEE 1076-2008, 6.4.2.3).
use Rattle.std.specs.Prelude.{ℕ, ◌≡◌, ◌+◌, ◌==◌, ◌<◌, nat_lt, min, List, [], ◌∷◌, ◌++◌, Bool, true, false, if◌then◌else◌, Option, Some, slice_get}
use Rattle.std.specs.Prelude.{slice_set, get_or}
use Rattle.sim_flat_blocks.specs.declared.links.Link.{Link}
use Rattle.sim_flat_blocks.specs.declared.links.Link.TheVariants.{To, Constant, Open}
use Rattle.sim_flat_blocks.specs.declared.parts.Object.{Object}
use Rattle.sim_flat_blocks.specs.declared.parts.Port.{Port}
use Rattle.sim_flat_blocks.specs.declared.parts.Instance.{Instance}
use Rattle.sim_flat_blocks.specs.declared.parts.Block.{Block}
use Rattle.sim_flat_blocks.specs.Blocks.{block_of, link_at, objects, size, targets_of}
use Rattle.sim_flat_graph.specs.Graph.{graph_of, block_at, Reaches}
use Rattle.sim_flat_graph.specs.Least.{least_of}

-- the port or signal of which a port is a source, if there is one
abbrev pub target_of_port : Port → Link → List ℕ
target_of_port p (To n) = if p.drives then n ∷ [] else []
target_of_port p (Constant value) = []
target_of_port p Open = []

-- the ports and signals of which ports, from a position, are sources
unfoldable pub targets_of_ports : List Link → ℕ → List Port → List ℕ
targets_of_ports links at [] = []
targets_of_ports links at (p ∷ ps) = target_of_port p (link_at links at) ++ targets_of_ports links (at + 1) ps

unfoldable pub targets_of_instances : List Block → List Instance → List ℕ
targets_of_instances blocks [] = []
targets_of_instances blocks (i ∷ is) = targets_of_ports i.links 0 (block_of blocks i).ports ++ targets_of_instances blocks is

-- the target of each source in a block, by position: of each driver, and then of each port of an instance that is a source
unfoldable pub source_targets : List Block → Block → List ℕ
source_targets blocks b = targets_of b.processes ++ targets_of_instances blocks b.instances

-- the number of times that a number is in a list
unfoldable pub times : ℕ → List ℕ → ℕ
times n [] = 0
times n (m ∷ ms) = if m == n then 1 + times n ms else times n ms

-- the number of sources of the port or signal at a position
abbrev pub source_count : List Block → Block → ℕ → ℕ
source_count blocks b place = times place (source_targets blocks b)

-- An unresolved port or signal of a block reached from the top has more than one source. It is declared at `at`.
pub record HasManySources (blocks : List Block) (top at : ℕ) : Type 0 where
  pub block : ℕ
  pub reached : Reaches (graph_of blocks) block top
  pub place : ℕ
  pub object : Object
  pub is : slice_get (objects (block_at blocks block)) place ≡ Some object
  pub unresolved : object.resolved ≡ false
  pub several : 1 < source_count blocks (block_at blocks block) place
  pub declared : object.name.at ≡ at

-- ---- as the code finds them: counting stops at two

-- one more source of the port or signal at a position
unfoldable pub noted : List ℕ → ℕ → List ℕ
noted counts place = slice_set counts place (min 1 (get_or counts place 0) + 1)

unfoldable pub all_noted : List ℕ → List ℕ → List ℕ
all_noted counts [] = counts
all_noted counts (n ∷ ns) = all_noted (noted counts n) ns

-- where an object with this count is declared, if it is unresolved and the count is above one
abbrev pub declared_place : Object → ℕ → List ℕ
declared_place o count = if o.resolved then [] else (if nat_lt 1 count then o.name.at ∷ [] else [])

-- where such objects are declared, with counts from a position
unfoldable pub places_of : List ℕ → ℕ → List Object → List ℕ
places_of counts place [] = []
places_of counts place (o ∷ os) = declared_place o (get_or counts place 0) ++ places_of counts (place + 1) os

-- It is the least of the known place and those of such objects in a block.
pub record IsLeastIn (blocks : List Block) (b : Block) (known found : Option ℕ) : Type 0 where
  pub counts : List ℕ
  pub counted : (n : ℕ) → n < size b → get_or counts n 0 ≡ min 2 (source_count blocks b n)
  pub least : found ≡ least_of known (places_of counts 0 (objects b))

-- The same with one more block, if it is marked.
abbrev pub IsLeastOn : Bool → List Block → Block → Option ℕ → Option ℕ → Type 0
IsLeastOn true blocks b known found = IsLeastIn blocks b known found
IsLeastOn false blocks b known found = found ≡ known
