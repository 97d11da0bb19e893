-- If no unresolved port or signal has many sources, no name of type std_ulogic in a source tree has more than one source: the sources of a
-- name in the tree are its drivers and the ports of instances that drive it, which are those counted.
use Rattle.std.proofs.Common.{◌≡◌, ℕ, zero, suc, ◌+◌, ◌==◌, ◌&&◌, ◌≤◌, List, [], ◌∷◌, ◌++◌, Bool, true, false, Some, length}
use Rattle.std.proofs.Common.{map, slice_get, refl, sym, ◌∙◌, subst, arith, length-append, if◌then◌else◌}
use Rattle.std.specs.List.{Contains}
use Rattle.sim_logic.specs.Sources.{SourceTree, Sources, count_of, AllowsSources, IsResolvable, AreResolvable}
use Rattle.sim_flat_blocks.specs.declared.links.Link.{Link}
use Rattle.sim_flat_blocks.specs.declared.links.Link.TheVariants.{To, Constant, Open}
use Rattle.sim_flat_blocks.specs.declared.parts.Object.{Object}
use Rattle.sim_flat_blocks.specs.declared.parts.Port.{Port}
use Rattle.sim_flat_blocks.specs.declared.parts.Instance.{Instance}
use Rattle.sim_flat_blocks.specs.declared.parts.Block.{Block}
use Rattle.sim_flat_blocks.specs.Blocks.{block_of, link_at, objects, targets_of}
use Rattle.sim_flat_expansion.specs.Hierarchy.{Path, Occurrence, PathStep, before, driver_count}
use Rattle.sim_flat_expansion.specs.Flat.{driving, with_drivers, with_ports, type_of, leads_to, of_ports, of_instances, tree_of, port_trees}
use Rattle.sim_flat_expansion.proofs.Sound.{Each}
use Rattle.sim_flat_graph.specs.Graph.{Graph, graph_of, block_at, successors, Reaches, blocks_of}
use Rattle.sim_flat_graph.specs.Sources.{target_of_port, targets_of_ports, targets_of_instances, source_targets, times, source_count}
use Rattle.sim_flat_graph.proofs.Lists.{by_order, first_in, later_in}
use Rattle.sim_flat_graph.proofs.Recursions.{successors_are}
use Rattle.sim_flat_graph.proofs.Searches.{one_step}
use Rattle.sim_flat.specs.Hierarchies.{IsResolved}

-- ---- counting
drivers_counted : (ns : List ℕ) (more : Sources) → count_of (with_drivers ns more) ≡ length ns + count_of more
drivers_counted [] more = omega arith
drivers_counted (n ∷ ns) more = let ih = drivers_counted ns more in omega arith

ports_counted : (ts : List SourceTree) → count_of (with_ports ts) ≡ length ts
ports_counted [] = refl
ports_counted (t ∷ ts) = let ih = ports_counted ts in omega arith

longer_if : {X : Type 0} (b : Bool) (x : X) (xs : List X) (k : ℕ) → length xs ≡ k → length (if b then x ∷ xs else xs) ≡ (if b then 1 + k else k)
longer_if true x xs k e = omega arith
longer_if false x xs k e = e

more_if : (b : Bool) (j k n : ℕ) → n ≡ j + k → (if b then 1 + n else n) ≡ (if b then 1 + j else j) + k
more_if true j k n e = omega arith
more_if false j k n e = e

times_both : (m : ℕ) (xs ys : List ℕ) → times m (xs ++ ys) ≡ times m xs + times m ys
unfolding times
times_both m [] ys = omega arith
times_both m (x ∷ xs) ys = more_if (x == m) (times m xs) (times m ys) (times m (xs ++ ys)) (times_both m xs ys)

driving_counted : (n i : ℕ) (ts : List ℕ) → length (driving n i ts) ≡ times n ts
unfolding driving times
driving_counted n i [] = refl
driving_counted n i (t ∷ ts) = by_bit (t == n) (driving_counted n (i + 1) ts)
  where
    by_bit : (b : Bool) → length (driving n (i + 1) ts) ≡ times n ts
        → length (if b then i ∷ driving n (i + 1) ts else driving n (i + 1) ts) ≡ (if b then 1 + times n ts else times n ts)
    by_bit b e = longer_if b i (driving n (i + 1) ts) (times n ts) e

times_more : (m n : ℕ) (ns : List ℕ) → times m (n ∷ ns) ≡ (if n == m then 1 + times m ns else times m ns)
unfolding times
times_more m n ns = refl

-- a port that may be a source of the one at place m, and those after it
port_counted : (m : ℕ) (p : Port) (l : Link) (t : SourceTree) (ts : List SourceTree) (ns : List ℕ) → length ts ≡ times m ns
    → length (if p.drives && leads_to m l then t ∷ ts else ts) ≡ times m (target_of_port p l ++ ns)
port_counted m p (To n) t ts ns e = by_bit p.drives
  where
    by_bit : (b : Bool) → length (if b && (n == m) then t ∷ ts else ts) ≡ times m ((if b then n ∷ [] else []) ++ ns)
    by_bit true = longer_if (n == m) t ts (times m ns) e ∙ sym (times_more m n ns)
    by_bit false = e
port_counted m p (Constant value) t ts ns e = by_bit p.drives
  where
    by_bit : (b : Bool) → length (if b && false then t ∷ ts else ts) ≡ times m ns
    by_bit true = e
    by_bit false = e
port_counted m p Open t ts ns e = by_bit p.drives
  where
    by_bit : (b : Bool) → length (if b && false then t ∷ ts else ts) ≡ times m ns
    by_bit true = e
    by_bit false = e

of_ports_counted : (one : ℕ → Object → SourceTree) (links : List Link) (m n : ℕ) (ps : List Port)
    → length (of_ports one links m n ps) ≡ times m (targets_of_ports links n ps)
unfolding of_ports targets_of_ports times
of_ports_counted one links m n [] = refl
of_ports_counted one links m n (p ∷ ps) =
    port_counted m p (link_at links n) (one n p.object) (of_ports one links m (n + 1) ps) (targets_of_ports links (n + 1) ps)
    (of_ports_counted one links m (n + 1) ps)

module _ (blocks : List Block) (all : List Occurrence) where
  -- below the last level there are none
  port_trees_counted : (k : ℕ) (p : Path) (b : Block) (links : List Link) (m : ℕ)
      → length (port_trees blocks all k p b links m) ≤ times m (targets_of_ports links 0 b.ports)
  unfolding port_trees
  port_trees_counted zero p b links m = omega arith
  port_trees_counted (suc k) p b links m =
      let e = of_ports_counted (tree_of blocks all (port_trees blocks all k) p b) links m 0 b.ports in omega arith

  of_instances_counted : (k : ℕ) (p : Path) (m j : ℕ) (is : List Instance)
      → length (of_instances (port_trees blocks all k) blocks p m j is) ≤ times m (targets_of_instances blocks is)
  unfolding of_instances targets_of_instances
  of_instances_counted k p m j [] = omega arith
  of_instances_counted k p m j (i ∷ is) =
      let s : PathStep = record { instance = i; place = j } in
      let here = port_trees blocks all k (s ∷ p) (block_of blocks i) i.links m in
      let one = port_trees_counted k (s ∷ p) (block_of blocks i) i.links m in
      let rest = of_instances_counted k p m (j + 1) is in
      let a = length-append here (of_instances (port_trees blocks all k) blocks p m (j + 1) is) in
      let t = times_both m (targets_of_ports i.links 0 (block_of blocks i).ports) (targets_of_instances blocks is) in
      omega arith

  -- the sources of the object at a position
  abbrev sources : ℕ → Path → Block → ℕ → Sources
  sources k p b n =
      with_drivers (driving n (before driver_count all p) (targets_of b.processes))
      (with_ports (of_instances (port_trees blocks all k) blocks p n 0 b.instances))

  sources_counted : (k : ℕ) (p : Path) (b : Block) (n : ℕ) → count_of (sources k p b n) ≤ source_count blocks b n
  unfolding source_targets
  sources_counted k p b n =
      let ds = driving n (before driver_count all p) (targets_of b.processes) in
      let ts = of_instances (port_trees blocks all k) blocks p n 0 b.instances in
      let c = drivers_counted ds (with_ports ts) in
      let d = driving_counted n (before driver_count all p) (targets_of b.processes) in
      let e = ports_counted ts in
      let i = of_instances_counted k p n 0 b.instances in
      let t = times_both n (targets_of b.processes) (targets_of_instances blocks b.instances) in
      omega arith

-- ---- if the numbers of sources are allowed
drivers_may : (ns : List ℕ) (more : Sources) → AreResolvable more → AreResolvable (with_drivers ns more)
drivers_may [] more h = h
drivers_may (n ∷ ns) more h = drivers_may ns more h

ports_may : (xs ys : List SourceTree) → AreResolvable (with_ports xs) → AreResolvable (with_ports ys) → AreResolvable (with_ports (xs ++ ys))
ports_may [] ys h g = g
ports_may (x ∷ xs) ys h g = (h.0, ports_may xs ys h.1 g)

type_allows : (resolved : Bool) (count : ℕ) → (resolved ≡ false → count ≤ 1) → AllowsSources (type_of resolved) count
type_allows true count h = tt
type_allows false count h = h refl

-- a property of the object at each position, where positions are counted from n
abbrev pub Placed : (ℕ → Object → Type 0) → ℕ → List Object → Type 0
Placed P n os = (i : ℕ) (o : Object) → slice_get os i ≡ Some o → P (n + i) o

pub placed_first : (P : ℕ → Object → Type 0) (n : ℕ) (o : Object) (os : List Object) → Placed P n (o ∷ os) → P n o
placed_first P n o os h = subst (λ (k : ℕ). P k o) (let e : n + 0 ≡ n = omega arith in e) (h 0 o refl)

pub placed_rest : (P : ℕ → Object → Type 0) (n : ℕ) (o : Object) (os : List Object) → Placed P n (o ∷ os) → Placed P (n + 1) os
placed_rest P n o os h i x is = subst (λ (k : ℕ). P k x) (let e : n + suc i ≡ n + 1 + i = omega arith in e) (h (suc i) x is)

pub placed_all : (P : ℕ → Object → Type 0) (os : List Object) → ((i : ℕ) (o : Object) → slice_get os i ≡ Some o → P i o) → Placed P 0 os
placed_all P os h i o is = subst (λ (k : ℕ). P k o) (let e : i ≡ 0 + i = omega arith in e) (h i o is)

of_ports_may : (one : ℕ → Object → SourceTree) (links : List Link) (m n : ℕ) (ps : List Port) (os : List Object)
    → Placed (λ k o. IsResolvable (one k o)) n (map (λ (p : Port). p.object) ps ++ os) → AreResolvable (with_ports (of_ports one links m n ps))
unfolding of_ports
of_ports_may one links m n [] os h = tt
of_ports_may one links m n (p ∷ ps) os h =
    by_bit (p.drives && leads_to m (link_at links n)) (placed_first (λ k o. IsResolvable (one k o)) n p.object (map (λ (q : Port). q.object) ps ++ os) h)
    (of_ports_may one links m (n + 1) ps os (placed_rest (λ k o. IsResolvable (one k o)) n p.object (map (λ (q : Port). q.object) ps ++ os) h))
  where
    by_bit : (b : Bool) → IsResolvable (one n p.object) → AreResolvable (with_ports (of_ports one links m (n + 1) ps))
        → AreResolvable (with_ports (if b then one n p.object ∷ of_ports one links m (n + 1) ps else of_ports one links m (n + 1) ps))
    by_bit true t ts = (t, ts)
    by_bit false t ts = ts

-- ---- block by block: the blocks of instances in a reached block are reached
abbrev pub Reached : List Block → ℕ → ℕ → Type 0
Reached blocks top c = Reaches (graph_of blocks) c top

each_successor : (g : Graph) (top c : ℕ) → Reaches g c top → (is : List Instance) → ((n : ℕ) → Contains (blocks_of is) n → Contains (successors g c) n)
    → Each (λ (i : Instance). Reaches g i.block top) is
unfolding blocks_of
each_successor g top c reached [] h = tt
each_successor g top c reached (i ∷ is) h = (
  one_step g c i.block top reached (h i.block (first_in i.block (blocks_of is))),
  each_successor g top c reached is (λ n among. h n (later_in i.block n (blocks_of is) among)),
)

pub instances_reached : (blocks : List Block) (top c : ℕ) → Reached blocks top c
    → Each (λ (i : Instance). Reached blocks top i.block) (block_at blocks c).instances
instances_reached blocks top c reached =
    each_successor (graph_of blocks) top c reached (block_at blocks c).instances
    (λ n among. subst (λ (ns : List ℕ). Contains ns n) (sym (successors_are blocks c)) among)

module _ (blocks : List Block) (all : List Occurrence) (top : ℕ) (resolved : IsResolved blocks top) where
  -- no port or signal of a reached block has more sources than allowed
  sources_allowed : (k : ℕ) (p : Path) (c : ℕ) → Reached blocks top c → (n : ℕ) (o : Object) → slice_get (objects (block_at blocks c)) n ≡ Some o
      → AllowsSources (type_of o.resolved) (count_of (sources blocks all k p (block_at blocks c) n))
  sources_allowed k p c reached n o is =
      let counted = sources_counted blocks all k p (block_at blocks c) n in
      type_allows o.resolved (count_of (sources blocks all k p (block_at blocks c) n))
      (λ unresolved. by_order 1 (source_count blocks (block_at blocks c) n)
      (λ several. absurd (resolved o.name.at (record {
        block = c;
        reached = reached;
        place = n;
        object = o;
        is = is;
        unresolved = unresolved;
        several = several;
        declared = refl;
      })))
      (λ few. omega arith))

  abbrev PortsMay : ℕ → Type 0
  PortsMay k = (p : Path) (c : ℕ) → Reached blocks top c → (links : List Link) (m : ℕ)
      → AreResolvable (with_ports (port_trees blocks all k p (block_at blocks c) links m))

  instances_may : (k : ℕ) → PortsMay k → (p : Path) (m j : ℕ) (is : List Instance) → Each (λ (i : Instance). Reached blocks top i.block) is
      → AreResolvable (with_ports (of_instances (port_trees blocks all k) blocks p m j is))
  unfolding of_instances
  instances_may k h p m j [] each = tt
  instances_may k h p m j (i ∷ is) each =
      let s : PathStep = record { instance = i; place = j } in
      ports_may (port_trees blocks all k (s ∷ p) (block_of blocks i) i.links m) (of_instances (port_trees blocks all k) blocks p m (j + 1) is)
      (h (s ∷ p) i.block each.0 i.links m) (instances_may k h p m (j + 1) is each.1)

  tree_may : (k : ℕ) → PortsMay k → (p : Path) (c : ℕ) → Reached blocks top c → (n : ℕ) (o : Object)
      → slice_get (objects (block_at blocks c)) n ≡ Some o → IsResolvable (tree_of blocks all (port_trees blocks all k) p (block_at blocks c) n o)
  tree_may k h p c reached n o is =
      let b = block_at blocks c in (
        sources_allowed k p c reached n o is,
        drivers_may (driving n (before driver_count all p) (targets_of b.processes))
            (with_ports (of_instances (port_trees blocks all k) blocks p n 0 b.instances))
            (instances_may k h p n 0 b.instances (instances_reached blocks top c reached)),
      )

  all_ports_may : (k : ℕ) → PortsMay k
  unfolding port_trees
  all_ports_may zero p c reached links m = tt
  all_ports_may (suc k) p c reached links m =
      let b = block_at blocks c in
      of_ports_may (tree_of blocks all (port_trees blocks all k) p b) links m 0 b.ports b.signals
      (placed_all (λ n o. IsResolvable (tree_of blocks all (port_trees blocks all k) p b n o)) (objects b)
      (λ n o is. tree_may k (all_ports_may k) p c reached n o is))

  pub resolvable : (k : ℕ) (p : Path) (c : ℕ) → Reached blocks top c → (n : ℕ) (o : Object)
      → slice_get (objects (block_at blocks c)) n ≡ Some o → IsResolvable (tree_of blocks all (port_trees blocks all k) p (block_at blocks c) n o)
  resolvable k p c reached n o is = tree_may k (all_ports_may k) p c reached n o is
