-- Properties of a design without faults: its nets have the values of their ports and signals (IEEE 1076-2008, 14.7.3). And a property of
-- each architecture: the positions in its region are those in its block.
use Rattle.std.specs.Prelude.{ℕ, ◌≡◌, List, [], map, Option, Some, None, option_map, slice_get, slice_index_or}
use Rattle.sim_logic.specs.declared.logic.Logic.{Logic}
use Rattle.sim_logic.specs.Resolution.{resolved}
use Rattle.sim_logic.specs.Sources.{SourceTree, nested}
use Rattle.sim_flat_design.specs.declared.design.Source.{Source}
use Rattle.sim_flat_design.specs.declared.design.Source.TheVariants as source
use Rattle.sim_flat_design.specs.Designs.{Net, Design}
use Rattle.sim_text_tree.specs.declared.unit.Architecture.{Architecture}
use Rattle.sim_flat_scope.specs.declared.scope.Meaning.{Meaning}
use Rattle.sim_flat_scope.specs.declared.scope.Meaning.TheVariants as m
use Rattle.sim_flat_scope.specs.Scopes.{Region}
use Rattle.sim_flat_scope.specs.Regions.{architecture_region}
use Rattle.sim_flat_instances.specs.Libraries.{Library}
use Rattle.sim_flat_blocks.specs.Plans.{ports_named}
use Rattle.sim_flat_blocks.specs.declared.parts.Object.{Object}
use Rattle.sim_flat_blocks.specs.declared.parts.Block.{Block}
use Rattle.sim_flat_blocks.specs.Blocks.{no_block, objects}
use Rattle.sim_flat_expansion.specs.Flat.{drivers_at, gather, nets_at, port_trees, processes_at, occurrences_of, tree_of}
use Rattle.sim_flat_expansion.specs.Hierarchy.{Own, Occurrence, own_at, occurrences}

-- the source tree of a port or signal that is a net
abbrev pub tree : List Block → List Occurrence → Occurrence → Own → SourceTree
tree blocks all s x = tree_of blocks all (port_trees blocks all s.levels) s.path s.block x.place x.object

-- the source trees of the nets of the flat design, net by net
abbrev pub trees : List Block → ℕ → List SourceTree
trees blocks top =
    let all = occurrences_of blocks top in
    gather (λ s. map (tree blocks all s) (own_at s)) all

-- the value of a source, where driver n has the value `driving n`
abbrev pub source_value : (ℕ → Logic) → Source → Logic
source_value driving (source.Driver n) = driving n
source_value driving (source.Constant value) = value

-- The sources of a net, resolved as one list, give the value of its source tree, in which each port is resolved by itself, for all
-- values of the drivers.
abbrev pub HasValueOf : SourceTree → Net → Type 0
HasValueOf t n = (driving : ℕ → Logic) → resolved (map (source_value driving) n.sources) ≡ nested driving t

-- ---- the same with another number of levels of instances, of which the top is the first

-- the occurrences to this number of levels
abbrev pub occurrences_to : ℕ → List Block → ℕ → List Occurrence
occurrences_to levels blocks top = occurrences blocks levels [] (slice_index_or blocks top no_block)

-- the source trees of their nets
abbrev pub trees_to : ℕ → List Block → ℕ → List SourceTree
trees_to levels blocks top =
    let all = occurrences_to levels blocks top in
    gather (λ s. map (tree blocks all s) (own_at s)) all

-- their flat design
abbrev pub flat_to : ℕ → List Block → ℕ → Design
flat_to levels blocks top =
    let all = occurrences_to levels blocks top in
    record { nets = gather (nets_at blocks all) all; processes = gather (processes_at all) all; drivers = gather (drivers_at all) all }

-- ---- names and positions

-- the region of an architecture of a library
abbrev pub region_of : Library → Architecture → Region
region_of l a = architecture_region (ports_named l a.entity.text) a.declarations a.statements

-- the position of a port or signal, from its meaning
abbrev pub place_of : Option Meaning → Option ℕ
place_of (Some (m.Port place mode type)) = Some place
place_of (Some (m.Signal place type)) = Some place
place_of _ = None

-- the name of the port or signal at a position of a block
abbrev pub name_at : Block → ℕ → Option (List ℕ)
name_at b place = option_map (λ (x : Object). x.name.text) (slice_get (objects b) place)
