-- A name of a port or signal in an architecture's region is the name of that port or signal of its block: by recursion on the declarations.
use Rattle.std.proofs.Common.{◌≡◌, ℕ, suc, ◌+◌, List, [], ◌∷◌, ◌++◌, map, length, Bool, Option, Some, None, refl, ap, sym, ◌∙◌, subst, arith}
use Rattle.std.proofs.Common.{if◌then◌else◌, is_some, slice_get, bytes_eq, codes}
use Rattle.std.proofs.lemmas.List.{map-append}
use Rattle.std.proofs.lemmas.Option.{slice_get-map}
use Rattle.std.proofs.lemmas.Simd.{map-map}
use Rattle.std.proofs.lemmas.Slice.Eq.{bytes_eq-Decides}
use Rattle.sim_text_tokens.proofs.Tests.{by_cases}
use Rattle.sim_text_tree.specs.Name.{Name}
use Rattle.sim_text_tree.specs.declared.declaration.Declaration.{Declaration}
use Rattle.sim_text_tree.specs.declared.declaration.Declaration.TheVariants as declaration
use Rattle.sim_text_tree.specs.declared.declaration.ObjectDeclaration.{ObjectDeclaration}
use Rattle.sim_text_tree.specs.declared.declaration.PortDeclaration.{PortDeclaration}
use Rattle.sim_text_tree.specs.declared.unit.Architecture.{Architecture}
use Rattle.sim_text_tree.specs.declared.unit.Concurrent.{Concurrent}
use Rattle.sim_flat_scope.specs.declared.scope.Meaning.{Meaning}
use Rattle.sim_flat_scope.specs.Scopes.{Declared, Region, Lookup, declaring, found, means, or_else, predefined, with_first}
use Rattle.sim_flat_scope.specs.declared.region.Object as kind
use Rattle.sim_flat_scope.specs.declared.region.Object.TheVariants as object
use Rattle.sim_flat_scope.specs.DeclaredNames.{concurrent_labels, port_names}
use Rattle.sim_flat_scope.specs.Ports.{Port, ports_named, ports_of}
use Rattle.sim_flat_scope.specs.Regions.{architecture_region, declarations, declared, labels, meaning_of, objects, port_count, port_objects, ports}
use Rattle.sim_flat_scope.specs.Regions.{ports_region}
use Rattle.sim_flat_instances.specs.Libraries.{Library}
use Rattle.sim_flat_blocks.specs.Below.{signal_names}
use Rattle.sim_flat_blocks.specs.Plans as plan
use Rattle.sim_flat_blocks.specs.declared.parts.Object.{Object}
use Rattle.sim_flat_blocks.specs.declared.parts.Port as block_port
use Rattle.sim_flat_blocks.specs.Blocks as blocks
use Rattle.sim_flat.specs.Laws.{name_at, place_of, region_of}

texts : List Name → List (List ℕ)
texts [] = []
texts (n ∷ ns) = n.text ∷ texts ns

-- ---- lists that are part of a list from a position

StandFrom : List (List ℕ) → ℕ → List (List ℕ) → Type 0
StandFrom all place [] = Unit {0}
StandFrom all place (x ∷ xs) = (slice_get all place ≡ Some x) × StandFrom all (place + 1) xs

one_on : (y : List ℕ) (all : List (List ℕ)) (place : ℕ) → slice_get (y ∷ all) (place + 1) ≡ slice_get all place
one_on y all place = let e : place + 1 ≡ suc place = omega arith in rw e refl

behind_one : (y : List ℕ) (all : List (List ℕ)) (place : ℕ) (xs : List (List ℕ)) → StandFrom all place xs → StandFrom (y ∷ all) (place + 1) xs
unfolding StandFrom
behind_one y all place [] h = tt
behind_one y all place (x ∷ xs) h = (one_on y all place ∙ h.0, behind_one y all (place + 1) xs h.1)

all_stand : (xs : List (List ℕ)) → StandFrom xs 0 xs
unfolding StandFrom
all_stand [] = tt
all_stand (x ∷ xs) = (refl, behind_one x xs 0 xs (all_stand xs))

front_stands : (all : List (List ℕ)) (place : ℕ) (xs ys : List (List ℕ)) → StandFrom all place (xs ++ ys) → StandFrom all place xs
unfolding StandFrom
front_stands all place [] ys h = tt
front_stands all place (x ∷ xs) ys h = (h.0, front_stands all (place + 1) xs ys h.1)

rest_stands : (all : List (List ℕ)) (place : ℕ) (xs ys : List (List ℕ)) → StandFrom all place (xs ++ ys) → StandFrom all (place + length xs) ys
unfolding StandFrom
rest_stands all place [] ys h = let e : place ≡ place + 0 = omega arith in subst (λ (p : ℕ). StandFrom all p ys) e h
rest_stands all place (x ∷ xs) ys h =
    let e : (place + 1) + length xs ≡ place + length (x ∷ xs) = omega arith in
    subst (λ (p : ℕ). StandFrom all p ys) e (rest_stands all (place + 1) xs ys h.1)

texts_both : (ns more : List Name) → texts (ns ++ more) ≡ texts ns ++ texts more
unfolding texts
texts_both [] more = refl
texts_both (n ∷ ns) more = ap (λ (xs : List (List ℕ)). n.text ∷ xs) (texts_both ns more)

texts_length : (ns : List Name) → length (texts ns) ≡ length ns
unfolding texts
texts_length [] = refl
texts_length (n ∷ ns) = let e = texts_length ns in omega arith

-- ---- regions whose ports and signals have the names at their positions

-- a declaration has the name at its position, if it has a position
abbrev Stands : List (List ℕ) → Declared → Type 0
Stands all d = (place : ℕ) → place_of (Some d.1) ≡ Some place → slice_get all place ≡ Some d.0

AllStand : List (List ℕ) → Region → Type 0
AllStand all [] = Unit {0}
AllStand all (d ∷ ds) = Stands all d × AllStand all ds

module _ (all : List (List ℕ)) where
  both_stand : (ds es : Region) → AllStand all ds → AllStand all es → AllStand all (ds ++ es)
  unfolding AllStand
  both_stand [] es h k = k
  both_stand (d ∷ ds) es h k = (h.0, both_stand ds es h.1 k)

  with_first_stands : (ds : Region) (n : List ℕ) (x : Meaning) → AllStand all ds → Stands all (n, x) → AllStand all (with_first ds n x)
  unfolding AllStand with_first
  with_first_stands ds n x h k = by_cases (is_some (found ds n)) (λ t. rw t h) (λ t. rw t (both_stand ds ((n, x) ∷ []) h (k, tt)))

  declaring_stands : (ds xs : Region) → AllStand all ds → AllStand all xs → AllStand all (declaring ds xs)
  unfolding AllStand declaring
  declaring_stands ds [] h k = h
  declaring_stands ds (x ∷ xs) h k = declaring_stands (with_first ds x.0 x.1) xs (with_first_stands ds x.0 x.1 h k.0) k.1

  labels_stand : (ns : List Name) → AllStand all (labels ns)
  unfolding AllStand labels
  labels_stand [] = tt
  labels_stand (n ∷ ns) = ((λ place h. cc), labels_stand ns)

  object_stands : (o : kind.Object) (place : ℕ) (n : List ℕ) → slice_get all place ≡ Some n → Stands all (n, meaning_of o place)
  object_stands (object.Port mode type) place n h p e = let same : place ≡ p = cc in subst (λ (k : ℕ). slice_get all k ≡ Some n) same h
  object_stands (object.Signal type) place n h p e = let same : place ≡ p = cc in subst (λ (k : ℕ). slice_get all k ≡ Some n) same h
  object_stands (object.Variable type) place n h p e = cc

  objects_stand : (o : kind.Object) (place : ℕ) (ns : List Name) → StandFrom all place (texts ns) → AllStand all (objects o place ns)
  unfolding AllStand StandFrom texts objects
  objects_stand o place [] h = tt
  objects_stand o place (n ∷ ns) h = (object_stands o place n.text h.0, objects_stand o (place + 1) ns h.1)

  -- some names, and then more
  parts_stand : (place : ℕ) (ns more : List Name) → StandFrom all place (texts (ns ++ more))
      → StandFrom all place (texts ns) × StandFrom all (place + length ns) (texts more)
  parts_stand place ns more h =
      let both : StandFrom all place (texts ns ++ texts more) = subst (λ (xs : List (List ℕ)). StandFrom all place xs) (texts_both ns more) h in
      let rest = rest_stands all place (texts ns) (texts more) both in (
        front_stands all place (texts ns) (texts more) both,
        subst (λ (k : ℕ). StandFrom all (place + k) (texts more)) (texts_length ns) rest,
      )

  ports_stand : (look : Lookup) (place : ℕ) (ps : List PortDeclaration) → StandFrom all place (texts (port_names ps)) → AllStand all (ports look place ps)
  unfolding AllStand ports port_names
  ports_stand look place [] h = tt
  ports_stand look place (p ∷ ps) h =
      let parts = parts_stand place p.names (port_names ps) h in
      both_stand (port_objects look place p) (ports look (place + length p.names) ps)
      (objects_stand _ place p.names parts.0)
      (ports_stand look (place + length p.names) ps parts.1)

  declarations_stand : (look : Lookup) (signal component : ℕ) (ds : List Declaration) → StandFrom all signal (texts (signal_names ds))
      → AllStand all (declarations look signal component ds)
  unfolding AllStand declarations signal_names
  declarations_stand look signal component [] h = tt
  declarations_stand look signal component (declaration.Signal o ∷ ds) h =
      let parts = parts_stand signal o.names (signal_names ds) h in
      both_stand (declared look signal component (declaration.Signal o)) (declarations look (signal + length o.names) (component + 0) ds)
      (objects_stand _ signal o.names parts.0)
      (declarations_stand look (signal + length o.names) (component + 0) ds parts.1)
  declarations_stand look signal component (declaration.Component c ∷ ds) h =
      let rest : StandFrom all (signal + 0) (texts (signal_names ds)) = subst (λ (k : ℕ). StandFrom all k (texts (signal_names ds))) (omega arith) h in
      ((λ place e. cc), declarations_stand look (signal + 0) (component + 1) ds rest)

  found_stands : (ds : Region) (n : List ℕ) (x : Meaning) → AllStand all ds → found ds n ≡ Some x → Stands all (n, x)
  unfolding AllStand found
  found_stands [] n x h e = cc
  found_stands (d ∷ ds) n x h e = by_cases (bytes_eq n d.0)
      (λ t.
      let name : n ≡ d.0 = (bytes_eq-Decides n d.0).0 t in
      let meant : Some d.1 ≡ Some x = subst (λ (b : Bool). (if b then Some d.1 else found ds n) ≡ Some x) t e in
      let same : d.1 ≡ x = cc in
      λ place p. h.0 place (rw same p) ∙ ap (λ (k : List ℕ). Some k) (sym name))
      (λ t. found_stands ds n x h.1 (subst (λ (b : Bool). (if b then Some d.1 else found ds n) ≡ Some x) t e))

-- ---- a block has the names that its architecture declares

abbrev name_of : Object → List ℕ
name_of x = x.name.text

abbrev object_of : block_port.Port → Object
object_of p = p.object

abbrev port_name : Port → List ℕ
port_name p = p.name.text

ports_named_texts : (p : PortDeclaration) (ns : List Name) → map port_name (ports_named p ns) ≡ texts ns
unfolding ports_named texts
ports_named_texts p [] = refl
ports_named_texts p (n ∷ ns) = ap (λ (xs : List (List ℕ)). n.text ∷ xs) (ports_named_texts p ns)

ports_texts : (ps : List PortDeclaration) → map port_name (ports_of ps) ≡ texts (port_names ps)
unfolding ports_of port_names texts
ports_texts [] = refl
ports_texts (p ∷ ps) = rw (
  map-append port_name (ports_named p p.names) (ports_of ps),
  texts_both p.names (port_names ps),
  ports_named_texts p p.names,
  ports_texts ps,
) refl

objects_texts : (look : Lookup) (o : ObjectDeclaration) (ns : List Name) → map name_of (map (plan.object look o.mark o.initial) ns) ≡ texts ns
unfolding texts
objects_texts look o [] = refl
objects_texts look o (n ∷ ns) = ap (λ (xs : List (List ℕ)). n.text ∷ xs) (objects_texts look o ns)

signals_texts : (look : Lookup) (ds : List Declaration) → map name_of (plan.signals_of look ds) ≡ texts (signal_names ds)
unfolding plan.signals_of signal_names texts
signals_texts look [] = refl
signals_texts look (declaration.Signal o ∷ ds) = rw (
  map-append name_of (map (plan.object look o.mark o.initial) o.names) (plan.signals_of look ds),
  texts_both o.names (signal_names ds),
  objects_texts look o o.names,
  signals_texts look ds,
) refl
signals_texts look (declaration.Component c ∷ ds) = signals_texts look ds

-- the names of the ports and signals that an architecture declares
names : List PortDeclaration → List Declaration → List (List ℕ)
names ps ds = texts (port_names ps) ++ texts (signal_names ds)

block_ports_texts : (ps : List PortDeclaration) → map name_of (map object_of (plan.block_ports ps)) ≡ texts (port_names ps)
unfolding plan.block_ports
block_ports_texts ps = rw (
  map-map object_of (plan.port (plan.seen (ports_region [] ps))) (ports_of ps),
  map-map name_of (λ (x : Port). (plan.port (plan.seen (ports_region [] ps)) x).object) (ports_of ps),
) (ports_texts ps)

block_names : (l : Library) (a : Architecture)
    → map name_of (blocks.objects (plan.block_of l a)) ≡ names (plan.ports_named l a.entity.text) a.declarations
unfolding names plan.block_of
block_names l a =
    let ps = plan.ports_named l a.entity.text in
    let look = plan.seen (region_of l a) in
    rw (
      map-append name_of (map object_of (plan.block_ports ps)) (plan.signals_of look a.declarations),
      block_ports_texts ps,
      signals_texts look a.declarations,
    ) refl

-- ---- the region of an architecture

region_stands : (ps : List PortDeclaration) (ds : List Declaration) (cs : List Concurrent) → AllStand (names ps ds) (architecture_region ps ds cs)
unfolding names AllStand architecture_region ports_region
region_stands ps ds cs =
    let all = names ps ds in
    let stand : StandFrom all 0 (texts (port_names ps) ++ texts (signal_names ds)) = all_stand all in
    let front = front_stands all 0 (texts (port_names ps)) (texts (signal_names ds)) stand in
    let count : 0 + length (texts (port_names ps)) ≡ port_count ps = let e = texts_length (port_names ps) in omega arith in
    let rest : StandFrom all (port_count ps) (texts (signal_names ds)) =
    subst (λ (k : ℕ). StandFrom all k (texts (signal_names ds))) count (rest_stands all 0 (texts (port_names ps)) (texts (signal_names ds)) stand) in
    declaring_stands all _ (labels (concurrent_labels cs))
    (declaring_stands all _ _ (declaring_stands all [] _ tt (ports_stand all _ 0 ps front)) (declarations_stand all _ (port_count ps) 0 ds rest))
    (labels_stand all (concurrent_labels cs))

-- no predefined name is a port or signal
predefined_has_no_place : (n : List ℕ) → place_of (predefined n) ≡ None
unfolding predefined
predefined_has_no_place n =
    by_cases (bytes_eq n (codes "std_logic")) (λ t. rw t refl) (λ t. rw t (
    by_cases (bytes_eq n (codes "std_ulogic")) (λ t. rw t refl) (λ t. rw t (
    by_cases (bytes_eq n (codes "boolean")) (λ t. rw t refl) (λ t. rw t (
    by_cases (bytes_eq n (codes "true")) (λ t. rw t refl) (λ t. rw t (
    by_cases (bytes_eq n (codes "false")) (λ t. rw t refl) (λ t. rw t (
    by_cases (bytes_eq n (codes "rising_edge")) (λ t. rw t refl) (λ t. rw t (
    by_cases (bytes_eq n (codes "falling_edge")) (λ t. rw t refl) (λ t. rw t refl)))))))))))))

seen_stands : (all : List (List ℕ)) (region : Region) (n : List ℕ) (place : ℕ) (x : Option Meaning) → found region n ≡ x → AllStand all region
    → place_of (plan.seen region n) ≡ Some place → slice_get all place ≡ Some n
unfolding means found
seen_stands all region n place (Some x) e stand h =
    found_stands all region n x stand e place (subst (λ (y : Option Meaning). place_of (or_else y (predefined n)) ≡ Some place) e h)
seen_stands all region n place None e stand h =
    let none = predefined_has_no_place n in
    let some : place_of (predefined n) ≡ Some place = subst (λ (y : Option Meaning). place_of (or_else y (predefined n)) ≡ Some place) e h in
    let clash : None ≡ Some place = sym none ∙ some in
    cc

pub names_at_places : (l : Library) (a : Architecture) (name : List ℕ) (place : ℕ) → place_of (plan.seen (region_of l a) name) ≡ Some place
    → name_at (plan.block_of l a) place ≡ Some name
names_at_places l a name place h =
    let ps = plan.ports_named l a.entity.text in
    let stand = region_stands ps a.declarations a.statements in
    sym (slice_get-map name_of (blocks.objects (plan.block_of l a)) place)
    ∙ (ap (λ (xs : List (List ℕ)). slice_get xs place) (block_names l a)
    ∙ seen_stands (names ps a.declarations) (region_of l a) name place (found (region_of l a) name) refl stand h)
