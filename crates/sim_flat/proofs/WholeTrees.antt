-- If no chain of instances is longer than the levels, the trees and the design are those of the whole hierarchy: with more levels the occurrences
-- are the same, each with more levels below it, and so is everything derived from them.
use Rattle.std.proofs.Common.{◌≡◌, ℕ, zero, suc, ◌+◌, ◌-◌, ◌≤◌, ◌||◌, List, [], ◌∷◌, ◌++◌}
use Rattle.std.proofs.Common.{Bool, true, false, map, slice_index_or, refl, ap, sym, ◌∙◌, subst, arith}
use Rattle.std.specs.List.{list_any}
use Rattle.sim_logic.specs.Sources.{SourceTree, flat_sources}
use Rattle.sim_flat_design.specs.Limits.{Limits}
use Rattle.sim_flat_design.specs.Designs.{Design}
use Rattle.sim_flat_blocks.specs.declared.links.Link.{Link}
use Rattle.sim_flat_blocks.specs.declared.parts.Object.{Object}
use Rattle.sim_flat_blocks.specs.declared.parts.Port.{Port}
use Rattle.sim_flat_blocks.specs.declared.parts.Instance.{Instance}
use Rattle.sim_flat_blocks.specs.declared.parts.Block.{Block}
use Rattle.sim_flat_blocks.specs.Blocks.{block_of, levels, no_block, size}
use Rattle.sim_flat_expansion.specs.Depth.{has_chain}
use Rattle.sim_flat_expansion.specs.Hierarchy.{Path, Occurrence, PathStep, Own, before, driver_count, net_object, inner, net_count, net_number, own_at}
use Rattle.sim_flat_expansion.specs.Hierarchy.{process_count, occurrences}
use Rattle.sim_flat_expansion.specs.Flat.{drivers_at, flat, gather, object_nets_at, object_nets_from, nets_at, of_instances, of_ports}
use Rattle.sim_flat_expansion.specs.Flat.{net, port_trees, prefix, processes_at, occurrences_of, source_of, tree_of}
use Rattle.sim_flat_expansion.proofs.Sound.{Each, each_append, each_map}
use Rattle.sim_flat.specs.declared.top.Top.{Top}
use Rattle.sim_flat.specs.Hierarchies.{IsFlat}
use Rattle.sim_flat.specs.Laws.{flat_to, occurrences_to, trees, trees_to}
use Rattle.sim_flat.specs.Laws as laws

-- ---- chains
-- no chain of this length begins with one of these
abbrev NoneLong : List Block → ℕ → List Instance → Type 0
NoneLong blocks k is = Each (λ (i : Instance). has_chain blocks k (block_of blocks i) ≡ false) is

none_of : {X : Type 0} (f : X → Bool) (xs : List X) → list_any f xs ≡ false → Each (λ x. f x ≡ false) xs
none_of f [] h = tt
none_of f (x ∷ xs) h = by_bit (f x) refl h (none_of f xs)
  where
    by_bit : (b : Bool) → f x ≡ b → (b || list_any f xs) ≡ false → (list_any f xs ≡ false → Each (λ y. f y ≡ false) xs)
        → Each (λ y. f y ≡ false) (x ∷ xs)
    by_bit true e g rest = cc
    by_bit false e g rest = (e, rest g)

short_below : (blocks : List Block) (k : ℕ) (b : Block) → has_chain blocks (suc k) b ≡ false → NoneLong blocks k b.instances
unfolding has_chain
short_below blocks k b h = none_of (λ (i : Instance). has_chain blocks k (block_of blocks i)) b.instances h

one_more : (m k : ℕ) → m + suc k ≡ suc (m + k)
one_more m k = omega arith

-- ---- occurrences with more levels below them
abbrev raised : ℕ → Occurrence → Occurrence
raised m s = record { path = s.path; block = s.block; levels = m + s.levels }

map_append : {X Y : Type 0} (f : X → Y) (xs ys : List X) → map f (xs ++ ys) ≡ map f xs ++ map f ys
map_append f [] ys = refl
map_append f (x ∷ xs) ys = ap (λ zs. f x ∷ zs) (map_append f xs ys)

module _ (blocks : List Block) (m : ℕ) where
  abbrev AreRaised : ℕ → Type 0
  AreRaised k = (p : Path) (b : Block) → has_chain blocks k b ≡ false → occurrences blocks (m + k) p b ≡ map (raised m) (occurrences blocks k p b)

  inner_raised : (k : ℕ) → AreRaised k → (p : Path) (j : ℕ) (is : List Instance) → NoneLong blocks k is
      → inner (occurrences blocks (m + k)) blocks p j is ≡ map (raised m) (inner (occurrences blocks k) blocks p j is)
  unfolding inner
  inner_raised k h p j [] none = refl
  inner_raised k h p j (i ∷ is) none =
      let s : PathStep = record { instance = i; place = j } in
      let here = occurrences blocks k (s ∷ p) (block_of blocks i) in
      let rest = inner (occurrences blocks k) blocks p (j + 1) is in
      rw (h (s ∷ p) (block_of blocks i) none.0, inner_raised k h p (j + 1) is none.1) (sym (map_append (raised m) here rest))

  occurrences_raised : (k : ℕ) → AreRaised k
  unfolding occurrences has_chain
  occurrences_raised zero p b none = cc
  occurrences_raised (suc k) p b none =
      rw (one_more m k)
      (ap (λ (ss : List Occurrence). record { path = p; block = b; levels = m + k } ∷ ss)
      (inner_raised k (occurrences_raised k) p 0 b.instances (short_below blocks k b none)))

-- below each occurrence no chain is longer than the allowed levels
abbrev IsCut : List Block → Occurrence → Type 0
IsCut blocks s = has_chain blocks (suc s.levels) s.block ≡ false

module _ (blocks : List Block) where
  inner_cut : (k : ℕ) → ((p : Path) (b : Block) → has_chain blocks k b ≡ false → Each (IsCut blocks) (occurrences blocks k p b)) → (p : Path) (j : ℕ)
      (is : List Instance) → NoneLong blocks k is → Each (IsCut blocks) (inner (occurrences blocks k) blocks p j is)
  unfolding inner
  inner_cut k h p j [] none = tt
  inner_cut k h p j (i ∷ is) none =
      let s : PathStep = record { instance = i; place = j } in
      each_append (IsCut blocks) (occurrences blocks k (s ∷ p) (block_of blocks i)) (inner (occurrences blocks k) blocks p (j + 1) is)
      (h (s ∷ p) (block_of blocks i) none.0) (inner_cut k h p (j + 1) is none.1)

  occurrences_cut : (k : ℕ) (p : Path) (b : Block) → has_chain blocks k b ≡ false → Each (IsCut blocks) (occurrences blocks k p b)
  unfolding occurrences
  occurrences_cut zero p b none = tt
  occurrences_cut (suc k) p b none = (none, inner_cut k (occurrences_cut k) p 0 b.instances (short_below blocks k b none))

-- ---- the occurrences before a path
before_raised : (count : Occurrence → ℕ) (m : ℕ) → ((s : Occurrence) → count (raised m s) ≡ count s) → (ss : List Occurrence) (p : Path)
    → before count (map (raised m) ss) p ≡ before count ss p
unfolding before
before_raised count m same [] p = refl
before_raised count m same (s ∷ ss) p = rw (same s, before_raised count m same ss p) refl

-- ---- source trees
of_ports_same : (one other : ℕ → Object → SourceTree) → ((n : ℕ) (o : Object) → one n o ≡ other n o)
    → (links : List Link) (m n : ℕ) (ps : List Port)
    → of_ports one links m n ps ≡ of_ports other links m n ps
unfolding of_ports
of_ports_same one other same links m n [] = refl
of_ports_same one other same links m n (p ∷ ps) = rw (same n p.object, of_ports_same one other same links m (n + 1) ps) refl

module _ (blocks : List Block) (all some : List Occurrence) (m : ℕ) (same : (p : Path) → before driver_count all p ≡ before driver_count some p) where
  abbrev ArePortsSame : ℕ → Type 0
  ArePortsSame k = (p : Path) (b : Block) → has_chain blocks k b ≡ false → (links : List Link) (n : ℕ)
      → port_trees blocks all (m + k) p b links n ≡ port_trees blocks some k p b links n

  instances_same : (k : ℕ) → ArePortsSame k → (p : Path) (n j : ℕ) (is : List Instance) → NoneLong blocks k is
      → of_instances (port_trees blocks all (m + k)) blocks p n j is ≡ of_instances (port_trees blocks some k) blocks p n j is
  unfolding of_instances
  instances_same k h p n j [] none = refl
  instances_same k h p n j (i ∷ is) none =
      let s : PathStep = record { instance = i; place = j } in
      rw (h (s ∷ p) (block_of blocks i) none.0 i.links n, instances_same k h p n (j + 1) is none.1) refl

  tree_same : (k : ℕ) → ArePortsSame k → (p : Path) (b : Block) → NoneLong blocks k b.instances → (n : ℕ) (o : Object)
      → tree_of blocks all (port_trees blocks all (m + k)) p b n o ≡ tree_of blocks some (port_trees blocks some k) p b n o
  tree_same k h p b none n o = rw (same p, instances_same k h p n 0 b.instances none) refl

  ports_same : (k : ℕ) → ArePortsSame k
  unfolding port_trees has_chain
  ports_same zero p b none links n = cc
  ports_same (suc k) p b none links n =
      rw (one_more m k)
      (of_ports_same (tree_of blocks all (port_trees blocks all (m + k)) p b) (tree_of blocks some (port_trees blocks some k) p b)
      (tree_same k (ports_same k) p b (short_below blocks k b none)) links n 0 b.ports)

  tree_raised : (s : Occurrence) → IsCut blocks s → (x : Own) → laws.tree blocks all (raised m s) x ≡ laws.tree blocks some s x
  tree_raised s cut x = tree_same s.levels (ports_same s.levels) s.path s.block (short_below blocks s.levels s.block cut) x.place x.object

-- ---- occurrence by occurrence
gather_raised : {Y : Type 0} (m : ℕ) (f g : Occurrence → List Y) (ss : List Occurrence) → Each (λ s. f (raised m s) ≡ g s) ss
    → gather f (map (raised m) ss) ≡ gather g ss
gather_raised m f g [] each = refl
gather_raised m f g (s ∷ ss) each = rw (each.0, gather_raised m f g ss each.1) refl

map_same : {X Y : Type 0} (f g : X → Y) (xs : List X) → ((x : X) → f x ≡ g x) → map f xs ≡ map g xs
map_same f g [] same = refl
map_same f g (x ∷ xs) same = rw (same x, map_same f g xs same) refl

object_nets_same : (all some : List Occurrence) → ((p : Path) → before net_count all p ≡ before net_count some p) → (p : Path) (n k : ℕ)
    → object_nets_from all p n k ≡ object_nets_from some p n k
unfolding object_nets_from net_number
object_nets_same all some same p n zero = refl
object_nets_same all some same p n (suc k) = rw (same (net_object p n).path, object_nets_same all some same p (n + 1) k) refl

module _ (blocks : List Block) (top : ℕ) (short : has_chain blocks levels (slice_index_or blocks top no_block) ≡ false) (m : ℕ) where
  abbrev few : List Occurrence
  few = occurrences_to levels blocks top

  abbrev many : List Occurrence
  many = map (raised m) few

  found : occurrences_to (m + levels) blocks top ≡ many
  found = occurrences_raised blocks m levels [] (slice_index_or blocks top no_block) short

  cut : Each (IsCut blocks) few
  cut = occurrences_cut blocks levels [] (slice_index_or blocks top no_block) short

  drivers_before : (p : Path) → before driver_count many p ≡ before driver_count few p
  drivers_before p = before_raised driver_count m (λ s. refl) few p

  processes_before : (p : Path) → before process_count many p ≡ before process_count few p
  processes_before p = before_raised process_count m (λ s. refl) few p

  nets_before : (p : Path) → before net_count many p ≡ before net_count few p
  nets_before p = before_raised net_count m (λ s. refl) few p

  one_tree : (s : Occurrence) → IsCut blocks s → (x : Own) → laws.tree blocks many (raised m s) x ≡ laws.tree blocks few s x
  one_tree s h x = tree_raised blocks many few m drivers_before s h x

  all_trees : trees_to (m + levels) blocks top ≡ trees_to levels blocks top
  all_trees =
      rw found (gather_raised m (λ (s : Occurrence). map (laws.tree blocks many s) (own_at s)) (λ (s : Occurrence). map (laws.tree blocks few s) (own_at s)) few
      (each_map (IsCut blocks) (λ (s : Occurrence). map (laws.tree blocks many (raised m s)) (own_at s) ≡ map (laws.tree blocks few s) (own_at s))
      (λ s h. map_same (laws.tree blocks many (raised m s)) (laws.tree blocks few s) (own_at s) (one_tree s h)) few cut))

  one_net : (s : Occurrence) → IsCut blocks s → nets_at blocks many (raised m s) ≡ nets_at blocks few s
  one_net s h =
      map_same (net blocks many (raised m s)) (net blocks few s) (own_at s)
      (λ x. ap (λ (t : SourceTree). record { name = prefix s.path ++ x.object.name.text; sources = map source_of (flat_sources t) }) (one_tree s h x))

  object_nets : (s : Occurrence) → object_nets_at many s ≡ object_nets_at few s
  object_nets s = object_nets_same many few nets_before s.path 0 (size s.block)

  one_process : (s : Occurrence) → processes_at many (raised m s) ≡ processes_at few s
  one_process s = rw (object_nets s, drivers_before s.path) refl

  one_driver : (s : Occurrence) → drivers_at many (raised m s) ≡ drivers_at few s
  one_driver s = rw (object_nets s, processes_before s.path) refl

  all_nets : gather (nets_at blocks many) many ≡ gather (nets_at blocks few) few
  all_nets =
      gather_raised m (nets_at blocks many) (nets_at blocks few) few
      (each_map (IsCut blocks) (λ (s : Occurrence). nets_at blocks many (raised m s) ≡ nets_at blocks few s) one_net few cut)

  all_processes : gather (processes_at many) many ≡ gather (processes_at few) few
  all_processes =
      gather_raised m (processes_at many) (processes_at few) few
      (each_map (IsCut blocks) (λ (s : Occurrence). processes_at many (raised m s) ≡ processes_at few s) (λ s h. one_process s) few cut)

  all_drivers : gather (drivers_at many) many ≡ gather (drivers_at few) few
  all_drivers =
      gather_raised m (drivers_at many) (drivers_at few) few
      (each_map (IsCut blocks) (λ (s : Occurrence). drivers_at many (raised m s) ≡ drivers_at few s) (λ s h. one_driver s) few cut)

  whole_design : flat_to (m + levels) blocks top ≡ flat_to levels blocks top
  whole_design = rw (found, all_nets, all_processes, all_drivers) refl

-- ---- any larger number of levels
split : (n : ℕ) → levels ≤ n → n - levels + levels ≡ n
split n le = omega arith

pub trees_whole : (limits : Limits) (blocks : List Block) (top : Top) (design : Design) → IsFlat limits blocks top design → (n : ℕ) → levels ≤ n
    → trees_to n blocks top.block ≡ trees blocks top.block
unfolding occurrences_of
trees_whole limits blocks top design f n le =
    subst (λ (k : ℕ). trees_to k blocks top.block ≡ trees_to levels blocks top.block) (split n le)
    (all_trees blocks top.block f.fits.depth (n - levels))

pub design_whole : (limits : Limits) (blocks : List Block) (top : Top) (design : Design) → IsFlat limits blocks top design → (n : ℕ) → levels ≤ n
    → flat_to n blocks top.block ≡ design
unfolding flat occurrences_of
design_whole limits blocks top design f n le =
    subst (λ (k : ℕ). flat_to k blocks top.block ≡ flat_to levels blocks top.block) (split n le)
    (whole_design blocks top.block f.fits.depth (n - levels)) ∙ sym f.is
