-- The walk over the hierarchy, which passes on the net and the flat sources of each port and signal.
-- Implementation only: what `simulate` promises does not rest on this file.
use Rattle.std.specs.Prelude.{ℕ, zero, suc, ◌+◌, List, [], ◌∷◌, ◌++◌, Bool, if◌then◌else◌, length, slice_index_or, slice_set, replicate}
use Rattle.sim_logic.specs.declared.logic.Logic.{Logic}
use Rattle.sim_flat_design.specs.declared.design.DriverOf.{DriverOf}
use Rattle.sim_flat_design.specs.declared.design.Source.{Source}
use Rattle.sim_flat_design.specs.declared.design.Source.TheVariants as source
use Rattle.sim_flat_design.specs.Designs.{Net, Design}
use Rattle.sim_flat_blocks.specs.declared.links.Link.{Link}
use Rattle.sim_flat_blocks.specs.declared.links.Link.TheVariants.{To, Constant, Open}
use Rattle.sim_flat_blocks.specs.declared.parts.Object.{Object}
use Rattle.sim_flat_blocks.specs.declared.parts.Port.{Port}
use Rattle.sim_flat_blocks.specs.declared.parts.BlockProcess.{BlockProcess}
use Rattle.sim_flat_blocks.specs.declared.parts.Instance.{Instance}
use Rattle.sim_flat_blocks.specs.declared.parts.Block.{Block}
use Rattle.sim_flat_expansion.specs.declared.processes.PartialDesign.{PartialDesign}
use Rattle.sim_flat_blocks.specs.Blocks.{size, block_of, no_block, link_at, below, driver_of, process_of, constant_at, levels}

-- ---- the net of each port and signal, and the number of nets so far
abbrev pub object_net_expanded : List ℕ → Link → ℕ → ℕ × ℕ
object_net_expanded outer (To m) nets = (slice_index_or outer m 0, nets)
object_net_expanded outer (Constant value) nets = (nets, nets + 1)
object_net_expanded outer Open nets = (nets, nets + 1)

-- the nets of this many more ports and signals
unfoldable pub object_nets_expanded : List ℕ → List Link → ℕ → List ℕ → ℕ → List ℕ × ℕ
object_nets_expanded outer links zero object_nets nets = (object_nets, nets)
object_nets_expanded outer links (suc k) object_nets nets =
    let x = object_net_expanded outer (link_at links (length object_nets)) nets in
    object_nets_expanded outer links k (object_nets ++ x.0 ∷ []) x.1

-- the nets of a block, given what is already expanded
unfoldable pub block_object_nets : List ℕ → List Link → Block → PartialDesign → List ℕ × PartialDesign
block_object_nets outer links b f =
    let x = object_nets_expanded outer links (size b) [] f.nets in
    (x.0, record { nets = x.1; processes = f.processes; drivers = f.drivers })

-- ---- flat sources, one list for each port and signal
abbrev pub FlatSources : Type 0
FlatSources = List (List Source)

-- more flat sources of the port or signal at this position
unfoldable pub added : FlatSources → ℕ → List Source → FlatSources
added flat_sources n more = slice_set flat_sources n (slice_index_or flat_sources n [] ++ more)

-- ---- processes and their drivers
unfoldable pub targets_expanded : List ℕ → Block → ℕ → List ℕ → FlatSources → List DriverOf → FlatSources × List DriverOf
targets_expanded object_nets b process [] flat_sources drivers = (flat_sources, drivers)
targets_expanded object_nets b process (n ∷ ns) flat_sources drivers =
    targets_expanded object_nets b process ns (added flat_sources n (source.Driver (length drivers) ∷ [])) (drivers ++ driver_of object_nets b process n ∷ [])

unfoldable pub processes_expanded : List ℕ → Block → List BlockProcess → FlatSources → PartialDesign → FlatSources × PartialDesign
processes_expanded object_nets b [] flat_sources f = (flat_sources, f)
processes_expanded object_nets b (t ∷ ts) flat_sources f =
    let x = targets_expanded object_nets b (length f.processes) t.targets flat_sources f.drivers in
    processes_expanded object_nets b ts x.0 (record {
      nets = f.nets;
      processes = f.processes ++ process_of object_nets
          (length f.drivers) t ∷ [];
      drivers = x.1;
    })

-- ---- flat sources go to a net, or to a port or signal of the enclosing architecture

-- the flat sources, or a constant if there are none
abbrev pub finished : Logic → List Source → List Source
finished value [] = source.Constant value ∷ []
finished value (s ∷ ss) = s ∷ ss

abbrev pub object_expanded : List ℕ → Link → Bool → Object → List Source → List Net → FlatSources → List Net × FlatSources
object_expanded prefix (To m) drives o flat_sources nets outer = (nets, if drives then added outer m flat_sources else outer)
object_expanded prefix (Constant value) drives o flat_sources nets outer = (nets ++ record { name = prefix ++ o.name.text; sources = flat_sources } ∷ [], outer)
object_expanded prefix Open drives o flat_sources nets outer = (nets ++ record { name = prefix ++ o.name.text; sources = flat_sources } ∷ [], outer)

abbrev pub flat_sources_at : Link → Object → FlatSources → ℕ → List Source
flat_sources_at link o own n = finished (constant_at link o.default) (slice_index_or own n [])

unfoldable pub ports_expanded : List ℕ → List Link → FlatSources → ℕ → List Port → List Net → FlatSources → List Net × FlatSources
ports_expanded prefix links own n [] nets outer = (nets, outer)
ports_expanded prefix links own n (p ∷ ps) nets outer =
    let x = object_expanded prefix (link_at links n) p.drives p.object (flat_sources_at (link_at links n) p.object own n) nets outer in
    ports_expanded prefix links own (n + 1) ps x.0 x.1

unfoldable pub signals_expanded : List ℕ → FlatSources → ℕ → List Object → List Net → List Net
signals_expanded prefix own n [] nets = nets
signals_expanded prefix own n (o ∷ os) nets =
    signals_expanded prefix own (n + 1) os (nets ++ record { name = prefix ++ o.name.text; sources = finished o.default (slice_index_or own n []) } ∷ [])

-- the nets and flat sources of a block: its ports, and then its signals
abbrev pub objects_expanded : List ℕ → List Link → FlatSources → Block → FlatSources → List Net × FlatSources
objects_expanded prefix links own b outer =
    let x = ports_expanded prefix links own 0 b.ports [] outer in
    (signals_expanded prefix own (length b.ports) b.signals x.0, x.1)

-- ---- the walk: the parameter expands one instance's block
abbrev pub Walk : Type 0
Walk = List ℕ → List Link → List ℕ → Block → FlatSources → PartialDesign → List Net × FlatSources × PartialDesign

module _ (one : Walk) (blocks : List Block) where
  abbrev pub instance_expanded : List ℕ → List ℕ → Instance → FlatSources → PartialDesign → List Net × FlatSources × PartialDesign
  instance_expanded object_nets prefix i flat_sources f = one (below prefix i.label.text) i.links object_nets (block_of blocks i) flat_sources f

  unfoldable pub instances_expanded : List ℕ → List ℕ → List Instance → List Net → FlatSources → PartialDesign → List Net × FlatSources × PartialDesign
  instances_expanded object_nets prefix [] nets flat_sources f = (nets, flat_sources, f)
  instances_expanded object_nets prefix (i ∷ is) nets flat_sources f =
      let x = instance_expanded object_nets prefix i flat_sources f in
      instances_expanded object_nets prefix is (nets ++ x.0) x.1 x.2

  -- the processes of a block, and then its instances
  abbrev pub occupants_expanded : List ℕ → List ℕ → Block → PartialDesign → List Net × FlatSources × PartialDesign
  occupants_expanded prefix object_nets b f =
      let p = processes_expanded object_nets b b.processes (replicate (size b) []) f in
      instances_expanded object_nets prefix b.instances [] p.0 p.1

  -- the contents of a block, given the nets of its ports and signals
  unfoldable pub inside_expanded : List ℕ → List Link → List ℕ → Block → FlatSources → PartialDesign → List Net × FlatSources × PartialDesign
  inside_expanded prefix links object_nets b around f =
      let x = occupants_expanded prefix object_nets b f in
      let s = objects_expanded prefix links x.1 b around in
      (s.0 ++ x.0, s.1, x.2)

-- a block and the instances in it, to this many levels
unfoldable pub block_expanded : List Block → ℕ → Walk
block_expanded blocks zero prefix links outer b around f = ([], around, f)
block_expanded blocks (suc k) prefix links outer b around f =
    let h = block_object_nets outer links b f in
    inside_expanded (block_expanded blocks k) blocks prefix links h.0 b around h.1

-- the design of the hierarchy under this block
unfoldable pub expanded : List Block → ℕ → Design
expanded blocks top =
    let x = block_expanded blocks levels [] [] [] (slice_index_or blocks top no_block) [] (record { nets = 0; processes = []; drivers = [] }) in
    record { nets = x.0; processes = x.2.processes; drivers = x.2.drivers }
