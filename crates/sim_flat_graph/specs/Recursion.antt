-- Recursive instances, whose blocks contain themselves (IEEE 1076-2008, 14.2).
use Rattle.std.specs.Prelude.{ℕ, ◌≡◌, ◌↔◌, nat_lt, List, [], ◌∷◌, Bool, true, false, if◌then◌else◌, Option, Some, None, get_or}
use Rattle.std.specs.List.{Contains}
use Rattle.sim_flat_blocks.specs.declared.parts.Instance.{Instance}
use Rattle.sim_flat_blocks.specs.declared.parts.Block.{Block}
use Rattle.sim_flat_graph.specs.Graph.{Graph, graph_of, block_at, Reaches}
use Rattle.sim_flat_graph.specs.Least.{least_of}

-- An instance in a block reached from the top, whose own block leads back to that one. Its component or entity is named at `at`.
pub record IsRecursive (blocks : List Block) (top at : ℕ) : Type 0 where
  pub block : ℕ
  pub reached : Reaches (graph_of blocks) block top
  pub instance : Instance
  pub among : Contains (block_at blocks block).instances instance
  pub back : Reaches (graph_of blocks) block instance.block
  pub named : instance.at ≡ at

-- ---- as the code finds them

-- the places of instances whose blocks pass a test
unfoldable pub places_of : (ℕ → Bool) → List Instance → List ℕ
places_of test [] = []
places_of test (i ∷ is) = if test i.block then i.at ∷ places_of test is else places_of test is

-- whether a block is marked
abbrev pub marked : List Bool → ℕ → Bool
marked marks n = get_or marks n false

-- whether a place precedes the known one
abbrev pub is_before : Option ℕ → ℕ → Bool
is_before None at = true
is_before (Some m) at = nat_lt at m

-- whether an instance names its component or entity before the known place
abbrev pub is_earlier : Option ℕ → Instance → Bool
is_earlier known i = is_before known i.at

-- It is the least of the known place and the places of instances whose blocks lead back to this one.
pub record IsLeastBack (back : Graph) (number : ℕ) (instances : List Instance) (known found : Option ℕ) : Type 0 where
  pub marks : List Bool
  pub reached : (n : ℕ) → (get_or marks n false ≡ true) ↔ Reaches back n number
  pub least : found ≡ least_of known (places_of (marked marks) instances)

-- The same with one more block, if it is marked.
abbrev pub IsLeastOn : Bool → Graph → ℕ → List Instance → Option ℕ → Option ℕ → Type 0
IsLeastOn true back number instances known found = IsLeastBack back number instances known found
IsLeastOn false back number instances known found = found ≡ known
