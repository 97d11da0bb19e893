-- The walk makes the flat design of the hierarchy.
use Rattle.std.proofs.Common.{◌≡◌, ℕ, zero, suc, ◌+◌, ◌<◌, ◌≤◌, List, [], ◌∷◌, ◌++◌, map, length, get_or, slice_index_or, replicate, refl, ap, sym}
use Rattle.std.proofs.Common.{◌∙◌, subst, arith, append-nil, append_assoc, length-append, All}
use Rattle.std.proofs.lemmas.List.{length-map, length-replicate, map-append, get_or-replicate}
use Rattle.sim_logic.specs.Sources.{SourceTree}
use Rattle.sim_flat_design.specs.declared.design.DriverOf.{DriverOf}
use Rattle.sim_flat_design.specs.declared.design.Source.{Source}
use Rattle.sim_flat_design.specs.Designs.{Net, Design}
use Rattle.sim_flat_design.specs.Processes.{Process}
use Rattle.sim_flat_blocks.specs.declared.links.Link.{Link}
use Rattle.sim_flat_blocks.specs.declared.parts.Port.{Port}
use Rattle.sim_flat_blocks.specs.declared.parts.BlockProcess.{BlockProcess}
use Rattle.sim_flat_blocks.specs.declared.parts.Instance.{Instance}
use Rattle.sim_flat_blocks.specs.declared.parts.Block.{Block}
use Rattle.sim_flat_expansion.specs.declared.processes.PartialDesign.{PartialDesign}
use Rattle.sim_flat_blocks.specs.Blocks.{IsBlock, IsInstance, LeadsBelow, objects, size, block_of, no_block, driver_of, levels, targets_of}
use Rattle.sim_flat_expansion.specs.Hierarchy.{PathStep, Path, places_of, Occurrence, inner, occurrences, own_from, own_before, net_count, process_count}
use Rattle.sim_flat_expansion.specs.Hierarchy.{driver_count, before}
use Rattle.sim_flat_expansion.specs.Flat.{object_nets_from, processes_from, drivers_from, processes_at, drivers_at, nets_at, driving, drivers_of, of_ports}
use Rattle.sim_flat_expansion.specs.Flat.{of_instances, tree_of, port_trees, prefix, net, gather, occurrences_of, flat}
use Rattle.sim_flat_expansion.specs.Expanding.{FlatSources, object_nets_expanded, block_object_nets, processes_expanded, ports_expanded}
use Rattle.sim_flat_expansion.specs.Expanding.{instances_expanded, inside_expanded, block_expanded, expanded}
use Rattle.sim_flat_expansion.proofs.Sound.{Each, each_of}
use Rattle.sim_flat_expansion.proofs.Occurrences.{Clear, counted, counted_append, before_is, clear_below, clear_self, clear_sister, clear_both}
use Rattle.sim_flat_expansion.proofs.Collected.{gather_append, flat_sources_in, drivers_in, with_processes, processes_are, processes_length}
use Rattle.sim_flat_expansion.proofs.Collected.{processes_flat_sources}
use Rattle.sim_flat_expansion.proofs.Numbers.{Linked, linked_top, linked_below, object_nets_are, own_count}
use Rattle.sim_flat_expansion.proofs.ExpandedObjects.{own_append, ports_are, signals_are}

-- ---- the numbers of processes and drivers of an occurrence
pub processes_count : (object_nets : List ℕ) (first : ℕ) (ts : List BlockProcess) → length (processes_from object_nets first ts) ≡ length ts
unfolding processes_from
processes_count object_nets first [] = refl
processes_count object_nets first (t ∷ ts) = ap suc (processes_count object_nets (first + length t.targets) ts)

pub drivers_count : (object_nets : List ℕ) (b : Block) (q : ℕ) (ts : List BlockProcess) → length (drivers_from object_nets b q ts) ≡ length (targets_of ts)
unfolding drivers_from targets_of
drivers_count object_nets b q [] = refl
drivers_count object_nets b q (t ∷ ts) =
    let a = length-append (map (driver_of object_nets b q) t.targets) (drivers_from object_nets b (q + 1) ts) in
    let m = length-map t.targets (driver_of object_nets b q) in
    let ih = drivers_count object_nets b (q + 1) ts in
    let r = length-append t.targets (targets_of ts) in
    omega arith

pub gathered : {Y : Type 0} (f : Occurrence → List Y) (count : Occurrence → ℕ) → ((s : Occurrence) → length (f s) ≡ count s) → (ss : List Occurrence)
    → length (gather f ss) ≡ counted count ss
gathered f count h [] = refl
gathered f count h (s ∷ ss) = let a = length-append (f s) (gather f ss) in let b = h s in let ih = gathered f count h ss in omega arith

-- the result of the walk once it has expanded these occurrences
pub record At (made : List Occurrence) (f : PartialDesign) : Type 0 where
  pub nets : f.nets ≡ counted net_count made
  pub processes : length f.processes ≡ counted process_count made
  pub drivers : length f.drivers ≡ counted driver_count made

module _ (blocks : List Block) (all : List Occurrence) where
  -- what the walk adds: the nets, processes and drivers of these occurrences, and these trees to the flat sources around them
  pub record Adds (ss : List Occurrence) (trees : ℕ → List SourceTree) (so_far : List Net) (around : FlatSources) (f : PartialDesign)
      (x : List Net × FlatSources × PartialDesign) : Type 0 where
    pub nets : x.0 ≡ so_far ++ gather (nets_at blocks all) ss
    pub count : x.2.nets ≡ f.nets + counted net_count ss
    pub processes : x.2.processes ≡ f.processes ++ gather (processes_at all) ss
    pub drivers : x.2.drivers ≡ f.drivers ++ gather (drivers_at all) ss
    pub long : length x.1 ≡ length around
    pub flat_sources : (m : ℕ) → m < length around → get_or x.1 m [] ≡ get_or around m [] ++ gather flat_sources_in (trees m)

  at_more : (made ss : List Occurrence) (trees : ℕ → List SourceTree) (nets : List Net) (around : FlatSources) (f : PartialDesign)
      (x : List Net × FlatSources × PartialDesign)
      → At made f → Adds ss trees nets around f x → At (made ++ ss) x.2
  at_more made ss trees nets around f x a d =
      let n = counted_append net_count made ss in
      let p = counted_append process_count made ss in
      let q = counted_append driver_count made ss in
      let pc = gathered (processes_at all) process_count (λ s. processes_count (object_nets_from all s.path 0 (size s.block))
      (before driver_count all s.path) s.block.processes) ss in
      let dc = gathered (drivers_at all) driver_count (λ s. drivers_count (object_nets_from all s.path 0 (size s.block)) s.block
      (before process_count all s.path) s.block.processes) ss in
      let pl = ap (λ (ps : List Process). length ps) d.processes ∙ length-append f.processes (gather (processes_at all) ss) in
      let dl = ap (λ (ds : List DriverOf). length ds) d.drivers ∙ length-append f.drivers (gather (drivers_at all) ss) in
      record {
        nets = (let u = a.nets in let v = d.count in omega arith);
        processes = (let u = a.processes in omega arith);
        drivers = (let u = a.drivers in omega arith);
      }

  abbrev LawOf : ℕ → Type 0
  LawOf k = (c : Path) (b : Block) (links : List Link) (outer : List ℕ) (around : FlatSources) (f : PartialDesign) (made rest : List Occurrence)
      → all ≡ made ++ (occurrences blocks k c b ++ rest) → Clear made (places_of c) → At made f → Linked all c links outer
      → IsBlock blocks b → length links ≤ length b.ports
      → Adds (occurrences blocks k c b) (port_trees blocks all k c b links) [] around f (block_expanded blocks k (prefix c) links outer b around f)

  instances_law : (known : All (IsBlock blocks) blocks) (k : ℕ) → LawOf k
      → (p : Path) (b : Block) (is : List Instance) (j : ℕ) (nets : List Net) (ls : FlatSources) (f : PartialDesign)
      (made rest : List Occurrence) → all ≡ made ++ (inner (occurrences blocks k) blocks p j is ++ rest)
      → ((m : ℕ) → j ≤ m → Clear made (m ∷ places_of p)) → At made f
      → Each (IsInstance blocks b) is
      → Adds (inner (occurrences blocks k) blocks p j is) (λ m. of_instances (port_trees blocks all k) blocks p m j is) nets ls f
      (instances_expanded (block_expanded blocks k) blocks (object_nets_from all p 0 (size b)) (prefix p) is nets ls f)
  unfolding instances_expanded inner of_instances
  instances_law known k law p b [] j nets ls f made rest e clear a each = record {
    nets = sym (append-nil nets);
    count = omega arith;
    processes = sym (append-nil f.processes);
    drivers = sym (append-nil f.drivers);
    long = refl;
    flat_sources = λ m lt. sym (append-nil (get_or ls m []));
  }
  instances_law known k law p b (i ∷ is) j nets ls f made rest e clear a each =
      let s : PathStep = record { instance = i; place = j } in
      let c : Path = s ∷ p in
      let inside = block_of blocks i in
      let object_nets = object_nets_from all p 0 (size b) in
      let here = occurrences blocks k c inside in
      let more_occurrences = inner (occurrences blocks k) blocks p (j + 1) is in
      let x = block_expanded blocks k (prefix c) i.links object_nets inside ls f in
      let lt = each.0.known in
      let split : all ≡ made ++ (here ++ (more_occurrences ++ rest)) = e
      ∙ ap (λ (ss : List Occurrence). made ++ ss) (append_assoc here more_occurrences rest) in
      let one = law c inside i.links object_nets ls f made (more_occurrences ++ rest) split (clear j (omega arith)) a
      (linked_below all s p (size b) (each_of (LeadsBelow (size b)) i.links each.0.leads)) (known i.block no_block lt)
      (let l = each.0.links in omega arith) in
      let made2 = made ++ here in
      let split2 : all ≡ made2 ++ (more_occurrences ++ rest) = split ∙ sym (append_assoc made here (more_occurrences ++ rest)) in
      let clear2 : (m : ℕ) → j + 1 ≤ m → Clear made2 (m ∷ places_of p) =
      λ m le. clear_both made here (m ∷ places_of p) (clear m (omega arith)) (clear_sister blocks k p i inside j m (omega arith)) in
      let two = instances_law known k law p b is (j + 1) (nets ++ x.0) x.1 x.2 made2 rest split2 clear2
      (at_more made here (port_trees blocks all k c inside i.links) [] ls f x a one) each.1 in
      let trees1 = λ (m : ℕ). port_trees blocks all k c inside i.links m in
      let trees2 = λ (m : ℕ). of_instances (port_trees blocks all k) blocks p m (j + 1) is in
      record {
        nets = two.nets ∙ (ap (λ (ns : List Net). (nets ++ ns) ++ gather (nets_at blocks all) more_occurrences) one.nets
            ∙ (append_assoc nets (gather (nets_at blocks all) here) (gather (nets_at blocks all) more_occurrences)
            ∙ ap (λ (ns : List Net). nets ++ ns) (sym (gather_append (nets_at blocks all) here more_occurrences))));
        count = (let u = two.count in let v = one.count in let w = counted_append net_count here more_occurrences in omega arith);
        processes = two.processes ∙ (ap (λ (ps : List Process). ps ++ gather (processes_at all) more_occurrences) one.processes
            ∙ (append_assoc f.processes (gather (processes_at all) here) (gather (processes_at all) more_occurrences)
            ∙ ap (λ (ps : List Process). f.processes ++ ps) (sym (gather_append (processes_at all) here more_occurrences))));
        drivers = two.drivers ∙ (ap (λ (ds : List DriverOf). ds ++ gather (drivers_at all) more_occurrences) one.drivers
            ∙ (append_assoc f.drivers (gather (drivers_at all) here) (gather (drivers_at all) more_occurrences)
            ∙ ap (λ (ds : List DriverOf). f.drivers ++ ds) (sym (gather_append (drivers_at all) here more_occurrences))));
        long = two.long ∙ one.long;
        flat_sources = λ m lt.
            two.flat_sources m (let u = one.long in omega arith)
            ∙ (ap (λ (xs : List Source). xs ++ gather flat_sources_in (trees2 m)) (one.flat_sources m lt)
            ∙ (append_assoc (get_or ls m []) (gather flat_sources_in (trees1 m)) (gather flat_sources_in (trees2 m))
            ∙ ap (λ (xs : List Source). get_or ls m [] ++ xs) (sym (gather_append flat_sources_in (trees1 m) (trees2 m)))));
      }

  -- what the walk from a block adds: its own occurrence, and those inside it
  module _ (known : All (IsBlock blocks) blocks) (k : ℕ) (law : LawOf k) (c : Path) (b : Block) (links : List Link) (outer : List ℕ) (around : FlatSources)
      (f : PartialDesign) (made rest : List Occurrence) (clear : Clear made (places_of c)) (a : At made f) (linked : Linked all c links outer)
      (is : IsBlock blocks b) (le : length links ≤ length b.ports) where
    abbrev occurrence : Occurrence
    occurrence = record { path = c; block = b; levels = k }

    abbrev under : List Occurrence
    under = inner (occurrences blocks k) blocks c 0 b.instances

    abbrev object_nets : List ℕ
    object_nets = object_nets_from all c 0 (size b)

    stands : (count : Occurrence → ℕ) → all ≡ made ++ occurrence ∷ (under ++ rest) → before count all c ≡ counted count made
    stands count e = ap (λ (ss : List Occurrence). before count ss c) e ∙ before_is count made (under ++ rest) occurrence (clear [])

    own_total : own_before c (0 + size b) ≡ net_count occurrence
    unfolding own_before
    own_total =
        let os = objects b in
        let n : length os ≡ size b =
        length-append (map (λ (p : Port). p.object) b.ports) b.signals
        ∙ ap (λ (i : ℕ). i + length b.signals) (length-map b.ports (λ (p : Port). p.object)) in
        let count : own_before c 0 + length (own_from c 0 os) ≡ own_before c (0 + length os) = own_count c 0 os in
        let same : own_before c (0 + length os) ≡ own_before c (0 + size b) = ap (λ (i : ℕ). own_before c (0 + i)) n in
        omega arith

    abbrev block_object_nets_sketch : PartialDesign
    block_object_nets_sketch = record { nets = (object_nets_expanded outer links (size b) [] f.nets).1; processes = f.processes; drivers = f.drivers }

    homed : all ≡ made ++ occurrence ∷ (under ++ rest)
        → ((object_nets_expanded outer links (size b) [] f.nets).0 ≡ object_nets)
        × ((object_nets_expanded outer links (size b) [] f.nets).1 ≡ f.nets + net_count occurrence)
    unfolding own_before
    homed e =
        let base : f.nets ≡ before net_count all c = a.nets ∙ sym (stands net_count e) in
        let h = object_nets_are all c links outer linked f.nets base (size b) [] 0 f.nets refl (omega arith) in
        (h.0, h.1 ∙ ap (λ (n : ℕ). f.nets + n) own_total)

    abbrev none : FlatSources
    none = replicate (size b) []

    inside_law : all ≡ made ++ occurrence ∷ (under ++ rest) → (g : PartialDesign) → g.nets ≡ f.nets + net_count occurrence → g.processes ≡ f.processes
        → g.drivers ≡ f.drivers
        → Adds (occurrence ∷ under) (λ m. of_ports (tree_of blocks all (port_trees blocks all k) c b) links m 0 b.ports) [] around f
        (inside_expanded (block_expanded blocks k) blocks (prefix c) links object_nets b around g)
    unfolding inside_expanded
    inside_law e g gn gp gd =
        let ts = b.processes in
        let p = processes_expanded object_nets b ts none g in
        let made2 = made ++ occurrence ∷ [] in
        let split : all ≡ made2 ++ (under ++ rest) = e ∙ sym (append_assoc made (occurrence ∷ []) (under ++ rest)) in
        let pe : p.1 ≡ with_processes object_nets b ts g = processes_are object_nets b ts none g in
        let gq : length g.processes ≡ length f.processes = ap (λ (ps : List Process). length ps) gp in
        let gl : length g.drivers ≡ length f.drivers = ap (λ (ds : List DriverOf). length ds) gd in
        let first : length g.drivers ≡ before driver_count all c = gl ∙ (a.drivers ∙ sym (stands driver_count e)) in
        let number : length g.processes ≡ before process_count all c = gq ∙ (a.processes ∙ sym (stands process_count e)) in
        let pn : p.1.nets ≡ g.nets = ap (λ (y : PartialDesign). y.nets) pe in
        let pp : p.1.processes ≡ f.processes ++ processes_at all occurrence =
        ap (λ (y : PartialDesign). y.processes) pe ∙ (ap (λ (n : ℕ). g.processes ++ processes_from object_nets n ts) first
        ∙ ap (λ (ps : List Process). ps ++ processes_at all occurrence) gp) in
        let pd : p.1.drivers ≡ f.drivers ++ drivers_at all occurrence =
        ap (λ (y : PartialDesign). y.drivers) pe ∙ (ap (λ (n : ℕ). g.drivers ++ drivers_from object_nets b n ts) number
        ∙ ap (λ (ds : List DriverOf). ds ++ drivers_at all occurrence) gd) in
        let at2 : At made2 p.1 = record {
          nets = (let u = counted_append net_count made (occurrence ∷ []) in let v = a.nets in omega arith);
          processes = (let u = counted_append process_count made (occurrence ∷ []) in let v = a.processes in
              let w = ap (λ (ps : List Process). length ps) pp ∙ length-append f.processes (processes_at all occurrence) in
              let y = processes_count object_nets (before driver_count all c) ts in omega arith);
          drivers = (let u = counted_append driver_count made (occurrence ∷ []) in let v = a.drivers in
              let w = ap (λ (ds : List DriverOf). length ds) pd ∙ length-append f.drivers (drivers_at all occurrence) in
              let y = drivers_count object_nets b (before process_count all c) ts in omega arith);
        } in
        let clear2 : (m : ℕ) → 0 ≤ m → Clear made2 (m ∷ places_of c) =
        λ m z. clear_both made (occurrence ∷ []) (m ∷ places_of c) (clear_below made (places_of c) m clear) (clear_self occurrence m) in
        let x = instances_expanded (block_expanded blocks k) blocks object_nets (prefix c) b.instances [] p.0 p.1 in
        let d = instances_law known k law c b b.instances 0 [] p.0 p.1 made2 rest split clear2 at2 (each_of
        (IsInstance blocks b) b.instances is.instances) in
        let long : length p.0 ≡ size b = processes_length object_nets b ts none g ∙ length-replicate (size b) [] in
        let trees = λ (n : ℕ). gather flat_sources_in (of_instances (port_trees blocks all k) blocks c n 0 b.instances) in
        let collected : (n : ℕ) → n < size b → get_or x.1 n [] ≡ drivers_in (drivers_of all c b n) ++ trees n =
        λ n lt. d.flat_sources n (omega arith)
        ∙ ap (λ (xs : List Source). xs ++ trees n)
        (processes_flat_sources object_nets b ts none g n (let z = length-replicate (size b) (let y : List Source = [] in y) in omega arith)
        ∙ (ap (λ (xs : List Source). xs ++ drivers_in (driving n (length g.drivers) (targets_of ts))) (get_or-replicate (size b) n [] [] lt)
        ∙ ap (λ (i : ℕ). drivers_in (driving n i (targets_of ts))) first)) in
        let ps = ports_expanded (prefix c) links x.1 0 b.ports [] around in
        let pl = ports_are blocks all c b k links outer linked x.1 collected 0 b.ports [] around (omega arith) in
        let sl = signals_are blocks all c b k links outer linked x.1 collected (length b.ports) b.signals ps.0 le (omega arith) in
        let pos = map (λ (q : Port). q.object) b.ports in
        let one = net blocks all occurrence in
        let own1 = own_from c 0 pos in
        let own2 = own_from c (length b.ports) b.signals in
        let count : length pos ≡ length b.ports = length-map b.ports (λ (q : Port). q.object) in
        let at_signals : 0 + length pos ≡ length b.ports = omega arith in
        let owns : own_from c 0 (pos ++ b.signals) ≡ own1 ++ own2 =
        own_append c 0 pos b.signals ∙ ap (λ (i : ℕ). own1 ++ own_from c i b.signals) at_signals in
        record {
          nets = ap (λ (ns : List Net). ns ++ x.0) (sl ∙ ap (λ (ns : List Net). ns ++ map one own2) pl.0)
              ∙ (ap (λ (ns : List Net). ns ++ x.0) (sym (map-append one own1 own2) ∙ ap (map one) (sym owns))
              ∙ ap (λ (ns : List Net). map one (own_from c 0 (pos ++ b.signals)) ++ ns) d.nets);
          count = (let u = d.count in omega arith);
          processes = d.processes ∙ (ap (λ (qs : List Process). qs ++ gather (processes_at all) under) pp
              ∙ append_assoc f.processes (processes_at all occurrence) (gather (processes_at all) under));
          drivers = d.drivers ∙ (ap (λ (ds : List DriverOf). ds ++ gather (drivers_at all) under) pd
              ∙ append_assoc f.drivers (drivers_at all occurrence) (gather (drivers_at all) under));
          long = pl.1;
          flat_sources = pl.2;
        }

    block_law : all ≡ made ++ occurrence ∷ (under ++ rest)
        → Adds (occurrence ∷ under) (λ m. of_ports (tree_of blocks all (port_trees blocks all k) c b) links m 0 b.ports) [] around f
        (block_expanded blocks (suc k) (prefix c) links outer b around f)
    unfolding block_expanded block_object_nets
    block_law e =
        let h = homed e in
        subst (λ (hs : List ℕ). Adds (occurrence ∷ under) (λ m. of_ports (tree_of blocks all (port_trees blocks all k) c b) links m 0 b.ports) [] around f
        (inside_expanded (block_expanded blocks k) blocks (prefix c) links hs b around block_object_nets_sketch)) (sym h.0)
        (inside_law e block_object_nets_sketch h.1 refl refl)

  pub block_expanded_law : (known : All (IsBlock blocks) blocks) (k : ℕ) → LawOf k
  unfolding block_expanded occurrences port_trees
  block_expanded_law known zero c b links outer around f made rest e clear a linked is le = record {
    nets = refl;
    count = omega arith;
    processes = sym (append-nil f.processes);
    drivers = sym (append-nil f.drivers);
    long = refl;
    flat_sources = λ m lt. sym (append-nil (get_or around m []));
  }
  block_expanded_law known (suc k) c b links outer around f made rest e clear a linked is le =
      block_law known k (block_expanded_law known k) c b links outer around f made rest clear a linked is le e

designs : {ns ms : List Net} {ps qs : List Process} {ds es : List DriverOf} → ns ≡ ms → ps ≡ qs → ds ≡ es
    → (let x : Design = record { nets = ns; processes = ps; drivers = ds } in x) ≡ (let y : Design = record {
      nets = ms;
      processes = qs;
      drivers = es;
    } in y)
designs a b c = cc

-- the walk from the top makes the flat design
pub expanded_is_flat : (blocks : List Block) (top : ℕ) → All (IsBlock blocks) blocks → top < length blocks → expanded blocks top ≡ flat blocks top
unfolding expanded flat occurrences_of
expanded_is_flat blocks top known lt =
    let b = slice_index_or blocks top no_block in
    let all = occurrences blocks levels [] b in
    let start : PartialDesign = record { nets = 0; processes = []; drivers = [] } in
    let a = block_expanded_law blocks all known levels [] b [] [] [] start [] [] (sym (append-nil all)) (λ front. tt) (record {
      nets = refl;
      processes = refl;
      drivers = refl;
    })
    (linked_top all) (known top no_block lt) (omega arith) in
    designs a.nets a.processes a.drivers
