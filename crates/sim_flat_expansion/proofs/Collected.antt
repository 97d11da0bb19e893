-- The flat sources that the walk collects from the processes of a block, and those of a source tree.
use Rattle.std.proofs.Common.{◌≡◌, ℕ, suc, ◌+◌, ◌<◌, List, [], ◌∷◌, ◌++◌, map, length, get_or, slice_index_or, refl, ap, sym, ◌∙◌, subst, arith}
use Rattle.std.proofs.Common.{append-nil, append_assoc, length-append, eqb, eqb-true, length-set}
use Rattle.std.proofs.lemmas.Bool.{eqb-false}
use Rattle.std.proofs.lemmas.List.{map-append, length-map, get_or-set_same, get_or-set_other}
use Rattle.sim_text_tokens.proofs.Tests.{by_cases}
use Rattle.sim_logic.specs.declared.logic.Logic.{Logic}
use Rattle.sim_logic.specs.Sources.{SignalType, SourceTree, Name, Sources, No_more, Driver, Port, flat_sources, flat_sources_of}
use Rattle.sim_logic.proofs.SourceLaws.{some_flat_sources}
use Rattle.sim_flat_design.specs.declared.design.DriverOf.{DriverOf}
use Rattle.sim_flat_design.specs.declared.design.Source.{Source}
use Rattle.sim_flat_design.specs.declared.design.Source.TheVariants as source
use Rattle.sim_flat_design.specs.Processes.{Process}
use Rattle.sim_flat_blocks.specs.declared.parts.Object.{Object}
use Rattle.sim_flat_blocks.specs.declared.links.Link.{Link}
use Rattle.sim_flat_blocks.specs.declared.parts.BlockProcess.{BlockProcess}
use Rattle.sim_flat_blocks.specs.declared.parts.Block.{Block}
use Rattle.sim_flat_expansion.specs.declared.processes.PartialDesign.{PartialDesign}
use Rattle.sim_flat_blocks.specs.Blocks.{driver_of, process_of, constant_at, targets_of}
use Rattle.sim_flat_expansion.specs.Hierarchy.{Path, Occurrence, link_of}
use Rattle.sim_flat_expansion.specs.Flat.{driving, drivers_of, type_of, with_ports, with_drivers, of_instances, source_of, tree_of, gather, processes_from}
use Rattle.sim_flat_expansion.specs.Flat.{drivers_from}
use Rattle.sim_flat_expansion.specs.Expanding.{FlatSources, added, finished, targets_expanded, processes_expanded}

pub gather_append : {X Y : Type 0} (f : X → List Y) (xs ys : List X) → gather f (xs ++ ys) ≡ gather f xs ++ gather f ys
gather_append f [] ys = refl
gather_append f (x ∷ xs) ys = ap (λ (zs : List _). f x ++ zs) (gather_append f xs ys) ∙ sym (append_assoc (f x) (gather f xs) (gather f ys))

-- ---- the flat sources of a tree
abbrev pub flat_sources_in : SourceTree → List Source
flat_sources_in t = map source_of (flat_sources t)

abbrev pub drivers_in : List ℕ → List Source
drivers_in ns = map (λ (n : ℕ). source.Driver n) ns

finished_some : (v : Logic) (xs : List Source) → 0 < length xs → finished v xs ≡ xs
finished_some v [] some = absurd (omega arith)
finished_some v (x ∷ xs) some = refl

of_with_ports : (ts : List SourceTree) → map source_of (flat_sources_of (with_ports ts)) ≡ gather flat_sources_in ts
of_with_ports [] = refl
of_with_ports (t ∷ ts) = map-append source_of (flat_sources t) (flat_sources_of (with_ports ts))
    ∙ ap (λ (xs : List Source). flat_sources_in t ++ xs) (of_with_ports ts)

of_with_drivers : (ns : List ℕ) (more : Sources) → map source_of (flat_sources_of (with_drivers ns more))
    ≡ drivers_in ns ++ map source_of (flat_sources_of more)
of_with_drivers [] more = refl
of_with_drivers (n ∷ ns) more = ap (λ (xs : List Source). source.Driver n ∷ xs) (of_with_drivers ns more)

of_name : (type : SignalType) (v : Logic) (s : Sources) → flat_sources_in (Name type v s) ≡ finished v (map source_of (flat_sources_of s))
of_name type v No_more = refl
of_name type v (Driver n more) = refl
of_name type v (Port t more) =
    let xs = flat_sources t ++ flat_sources_of more in
    let some : 0 < length xs = (let a = some_flat_sources t in let b = length-append (flat_sources t) (flat_sources_of more) in omega arith) in
    let long : length (map source_of xs) ≡ length xs = length-map xs source_of in
    sym (finished_some v (map source_of xs) (omega arith))

pub flat_sources_of_tree : (blocks : List Block) (all : List Occurrence) (one : Path → Block → List Link → ℕ
    → List SourceTree) (p : Path) (b : Block) (n : ℕ) (o : Object)
    → flat_sources_in (tree_of blocks all one p b n o)
    ≡ finished (constant_at (link_of p n) o.default) (drivers_in (drivers_of all p b n) ++ gather flat_sources_in (of_instances one blocks p n 0 b.instances))
flat_sources_of_tree blocks all one p b n o =
    let ds = drivers_of all p b n in
    let ts = of_instances one blocks p n 0 b.instances in
    of_name (type_of o.resolved) (constant_at (link_of p n) o.default) (with_drivers ds (with_ports ts))
    ∙ ap (finished (constant_at (link_of p n) o.default))
    (of_with_drivers ds (with_ports ts) ∙ ap (λ (xs : List Source). drivers_in ds ++ xs) (of_with_ports ts))

-- ---- flat sources added at a position
pub added_length : (ls : FlatSources) (t : ℕ) (more : List Source) → length (added ls t more) ≡ length ls
unfolding added
added_length ls t more = length-set ls t (slice_index_or ls t [] ++ more)

pub added_same : (ls : FlatSources) (t : ℕ) (more : List Source) → t < length ls → get_or (added ls t more) t [] ≡ get_or ls t [] ++ more
unfolding added
added_same ls t more lt = get_or-set_same ls t (slice_index_or ls t [] ++ more) [] lt

pub added_other : (ls : FlatSources) (t m : ℕ) (more : List Source) → (t ≡ m → ⊥) → get_or (added ls t more) m [] ≡ get_or ls m []
unfolding added
added_other ls t m more apart = get_or-set_other ls t m (slice_index_or ls t [] ++ more) [] (λ e. apart (sym e))

-- ---- the drivers of a process
driving_append : (n i : ℕ) (xs ys : List ℕ) → driving n i (xs ++ ys) ≡ driving n i xs ++ driving n (i + length xs) ys
unfolding driving
driving_append n i [] ys = let e : i ≡ i + 0 = omega arith in ap (λ (k : ℕ). driving n k ys) e
driving_append n i (x ∷ xs) ys =
    let e : i + 1 + length xs ≡ i + suc (length xs) = omega arith in
    let more : driving n (i + 1) (xs ++ ys) ≡ driving n (i + 1) xs ++ driving n (i + suc (length xs)) ys =
    driving_append n (i + 1) xs ys ∙ ap (λ (k : ℕ). driving n (i + 1) xs ++ driving n k ys) e in
    by_cases (eqb x n) (λ t. rw t (ap (λ (zs : List ℕ). i ∷ zs) more)) (λ t. rw t more)

targets_drivers : (object_nets : List ℕ) (b : Block) (q : ℕ) (ts : List ℕ) (ls : FlatSources) (ds : List DriverOf)
    → (targets_expanded object_nets b q ts ls ds).1 ≡ ds ++ map (driver_of object_nets b q) ts
unfolding targets_expanded
targets_drivers object_nets b q [] ls ds = sym (append-nil ds)
targets_drivers object_nets b q (t ∷ ts) ls ds =
    targets_drivers object_nets b q ts (added ls t (source.Driver (length ds) ∷ [])) (ds ++ driver_of object_nets b q t ∷ []) ∙ simp append_assoc

targets_length : (object_nets : List ℕ) (b : Block) (q : ℕ) (ts : List ℕ) (ls : FlatSources) (ds : List DriverOf)
    → length (targets_expanded object_nets b q ts ls ds).0 ≡ length ls
unfolding targets_expanded
targets_length object_nets b q [] ls ds = refl
targets_length object_nets b q (t ∷ ts) ls ds =
    targets_length object_nets b q ts (added ls t (source.Driver (length ds) ∷ [])) (ds ++ driver_of object_nets b q t ∷ [])
    ∙ added_length ls t (source.Driver (length ds) ∷ [])

targets_flat_sources : (object_nets : List ℕ) (b : Block) (q : ℕ) (ts : List ℕ) (ls : FlatSources) (ds : List DriverOf) (n : ℕ) → n < length ls
    → get_or (targets_expanded object_nets b q ts ls ds).0 n [] ≡ get_or ls n [] ++ drivers_in (driving n (length ds) ts)
unfolding targets_expanded driving
targets_flat_sources object_nets b q [] ls ds n lt = sym (append-nil (get_or ls n []))
targets_flat_sources object_nets b q (t ∷ ts) ls ds n lt =
    let s = source.Driver (length ds) in
    let ls2 = added ls t (s ∷ []) in
    let ds2 = ds ++ driver_of object_nets b q t ∷ [] in
    let len : length ls2 ≡ length ls = added_length ls t (s ∷ []) in
    let long : length ds2 ≡ length ds + 1 = length-append ds (driver_of object_nets b q t ∷ []) in
    let rest = drivers_in (driving n (length ds + 1) ts) in
    let more : get_or (targets_expanded object_nets b q ts ls2 ds2).0 n [] ≡ get_or ls2 n [] ++ rest =
    targets_flat_sources object_nets b q ts ls2 ds2 n (omega arith) ∙ ap (λ (k : ℕ). get_or ls2 n [] ++ drivers_in (driving n k ts)) long in
    by_cases (eqb t n)
    (λ e.
    let same : t ≡ n = eqb-true t n e in
    let here : get_or ls2 n [] ≡ get_or ls n [] ++ s ∷ [] =
    subst (λ (k : ℕ). get_or ls2 k [] ≡ get_or ls k [] ++ s ∷ []) same (added_same ls t (s ∷ []) (omega arith)) in
    rw e (more ∙ (ap (λ (xs : List Source). xs ++ rest) here ∙ append_assoc (get_or ls n []) (s ∷ []) rest)))
    (λ e. rw e (more ∙ ap (λ (xs : List Source). xs ++ rest) (added_other ls t n (s ∷ []) (eqb-false t n e))))

-- ---- the processes of a block
abbrev pub with_processes : List ℕ → Block → List BlockProcess → PartialDesign → PartialDesign
with_processes object_nets b ts f = record {
  nets = f.nets;
  processes = f.processes ++ processes_from object_nets (length f.drivers) ts;
  drivers = f.drivers ++ drivers_from object_nets b (length f.processes) ts;
}

sketches : (n : ℕ) {ps qs : List Process} {ds es : List DriverOf} → ps ≡ qs → ds ≡ es
    → (let f : PartialDesign = record { nets = n; processes = ps; drivers = ds } in f)
    ≡ (let g : PartialDesign = record { nets = n; processes = qs; drivers = es } in g)
sketches n e d = cc

abbrev after_one : List ℕ → Block → BlockProcess → PartialDesign → FlatSources → PartialDesign
after_one object_nets b t f ls = record {
  nets = f.nets;
  processes = f.processes ++ process_of object_nets (length f.drivers) t ∷ [];
  drivers = (targets_expanded object_nets b (length f.processes) t.targets ls f.drivers).1;
}

pub processes_are : (object_nets : List ℕ) (b : Block) (ts : List BlockProcess) (ls : FlatSources) (f : PartialDesign)
    → (processes_expanded object_nets b ts ls f).1 ≡ with_processes object_nets b ts f
unfolding processes_expanded processes_from drivers_from
processes_are object_nets b [] ls f = sketches f.nets (sym (append-nil f.processes)) (sym (append-nil f.drivers))
processes_are object_nets b (t ∷ ts) ls f =
    let x = targets_expanded object_nets b (length f.processes) t.targets ls f.drivers in
    let g = after_one object_nets b t f ls in
    let p = process_of object_nets (length f.drivers) t in
    let new = map (driver_of object_nets b (length f.processes)) t.targets in
    let e : x.1 ≡ f.drivers ++ new = targets_drivers object_nets b (length f.processes) t.targets ls f.drivers in
    let first : length x.1 ≡ length f.drivers + length t.targets =
    ap (λ (ds : List DriverOf). length ds) e ∙ (length-append f.drivers new
    ∙ ap (λ (k : ℕ). length f.drivers + k) (length-map t.targets (driver_of object_nets b (length f.processes)))) in
    let q : length (f.processes ++ p ∷ []) ≡ length f.processes + 1 = length-append f.processes (p ∷ []) in
    processes_are object_nets b ts x.0 g
    ∙ sketches f.nets
    (append_assoc f.processes (p ∷ []) (processes_from object_nets (length x.1) ts) ∙ ap (λ (k : ℕ). f.processes ++ p ∷ processes_from object_nets k ts) first)
    (ap (λ (ds : List DriverOf). ds ++ drivers_from object_nets b (length (f.processes ++ p ∷ [])) ts) e
    ∙ (append_assoc f.drivers new (drivers_from object_nets b (length (f.processes ++ p ∷ [])) ts)
    ∙ ap (λ (k : ℕ). f.drivers ++ (new ++ drivers_from object_nets b k ts)) q))

pub processes_length : (object_nets : List ℕ) (b : Block) (ts : List BlockProcess) (ls : FlatSources) (f : PartialDesign)
    → length (processes_expanded object_nets b ts ls f).0 ≡ length ls
unfolding processes_expanded
processes_length object_nets b [] ls f = refl
processes_length object_nets b (t ∷ ts) ls f =
    let x = targets_expanded object_nets b (length f.processes) t.targets ls f.drivers in
    processes_length object_nets b ts x.0 (after_one object_nets b t f ls) ∙ targets_length object_nets b (length f.processes) t.targets ls f.drivers

pub processes_flat_sources : (object_nets : List ℕ) (b : Block) (ts : List BlockProcess) (ls : FlatSources) (f : PartialDesign) (n : ℕ) → n < length ls
    → get_or (processes_expanded object_nets b ts ls f).0 n [] ≡ get_or ls n [] ++ drivers_in (driving n (length f.drivers) (targets_of ts))
unfolding processes_expanded targets_of driving
processes_flat_sources object_nets b [] ls f n lt = sym (append-nil (get_or ls n []))
processes_flat_sources object_nets b (t ∷ ts) ls f n lt =
    let q = length f.processes in
    let x = targets_expanded object_nets b q t.targets ls f.drivers in
    let i = length f.drivers in
    let len : length x.0 ≡ length ls = targets_length object_nets b q t.targets ls f.drivers in
    let new = map (driver_of object_nets b q) t.targets in
    let long : length x.1 ≡ i + length t.targets =
    ap (λ (ds : List DriverOf). length ds) (targets_drivers object_nets b q t.targets ls f.drivers)
    ∙ (length-append f.drivers new ∙ ap (λ (k : ℕ). i + k) (length-map t.targets (driver_of object_nets b q))) in
    let one = driving n i t.targets in
    let two = driving n (i + length t.targets) (targets_of ts) in
    let both : driving n i (t.targets ++ targets_of ts) ≡ one ++ two = driving_append n i t.targets (targets_of ts) in
    processes_flat_sources object_nets b ts x.0 (after_one object_nets b t f ls) n (omega arith)
    ∙ (ap (λ (k : ℕ). get_or x.0 n [] ++ drivers_in (driving n k (targets_of ts))) long
    ∙ (ap (λ (xs : List Source). xs ++ drivers_in two) (targets_flat_sources object_nets b q t.targets ls f.drivers n lt)
    ∙ (append_assoc (get_or ls n []) (drivers_in one) (drivers_in two)
    ∙ (ap (λ (xs : List Source). get_or ls n [] ++ xs) (sym (map-append (λ (k : ℕ). source.Driver k) one two))
    ∙ ap (λ (xs : List ℕ). get_or ls n [] ++ drivers_in xs) (sym both)))))
