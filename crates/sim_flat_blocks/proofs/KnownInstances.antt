-- The block of each instance of a plan exists, and its links are in range: its architecture is one of its entity, and the names of
-- its region are below the number of ports and signals.
use Rattle.std.proofs.Common.{◌≡◌, ℕ, zero, suc, ◌+◌, ◌<◌, ◌&&◌, List, [], ◌∷◌, ◌++◌, map, length, get_or, slice_get}
use Rattle.std.proofs.Common.{Bool, true, false, Option, Some, None, All, refl, ap, sym, ◌∙◌, arith}
use Rattle.std.specs.Option.{option_or}
use Rattle.std.specs.List.{range_with_len}
use Rattle.std.specs.Str.{bytes_eq}
use Rattle.std.proofs.lemmas.Bool.{ltb-true}
use Rattle.std.proofs.lemmas.List.Elements.{All-cons, All-map, All-nil}
use Rattle.std.proofs.lemmas.List.FromFn.{length-map-range_with_len}
use Rattle.std.proofs.lemmas.List.{length-map}
use Rattle.std.proofs.lemmas.Slice.Eq.{bytes_eq-Decides}
use Rattle.sim_text_tree.specs.declared.unit.Actual.{Actual}
use Rattle.sim_text_tree.specs.declared.unit.Actual.TheVariants as actual
use Rattle.sim_text_tree.specs.declared.unit.Architecture.{Architecture}
use Rattle.sim_text_tree.specs.declared.unit.Concurrent.{Concurrent}
use Rattle.sim_text_tree.specs.declared.unit.Concurrent.TheVariants as concurrent
use Rattle.sim_text_tree.specs.declared.unit.Entity.{Entity}
use Rattle.sim_text_tree.specs.declared.unit.Instance as tree
use Rattle.sim_text_tree.specs.declared.unit.Instantiated.{Instantiated}
use Rattle.sim_text_tree.specs.declared.unit.Instantiated.TheVariants as of
use Rattle.sim_flat_scope.specs.declared.scope.Meaning.{Meaning}
use Rattle.sim_flat_scope.specs.declared.scope.Meaning.TheVariants as m
use Rattle.sim_flat_scope.specs.Scopes.{Lookup, Region}
use Rattle.sim_flat_scope.specs.Ports.{Port, ports_of}
use Rattle.sim_flat_scope.specs.Regions.{ports_region}
use Rattle.sim_flat_instances.specs.Instances.{architecture_place, entity_name}
use Rattle.sim_flat_instances.specs.Libraries.{Library, at_place, entity_of, first_entity, interface_of, interfaces}
use Rattle.sim_flat_instances.specs.Libraries.{is_named_of, is_of, last_architecture, last_named}
use Rattle.sim_flat_instances.specs.Places.{last_place, where_at}
use Rattle.sim_flat_instances.specs.PortMaps.{associated}
use Rattle.sim_flat_bodies.specs.Within.{AreWithin, is_within}
use Rattle.sim_flat_blocks.specs.Below.{AreBelow}
use Rattle.sim_flat_blocks.proofs.RegionLaws.{concurrent_within}
use Rattle.sim_flat_blocks.specs.declared.parts.Block.{Block}
use Rattle.sim_flat_blocks.specs.Blocks.{IsInstance, LeadsBelow, no_block, size}
use Rattle.sim_flat_blocks.specs.Plans.{block_ports, seen, link_to, link_of, links_of, links_at, ports_known, ports_declared, ports_named, port}
use Rattle.sim_flat_blocks.specs.Plans.{block_number, instance_of, instances_of, block_of, blocks_of}

-- ---- the position of an architecture

-- the item at a position passes a test
record Stands {X : Type 0} (test : X → Bool) (at : ℕ) (xs : List X) (place : ℕ) : Type 0 where
  index : ℕ
  is : place ≡ at + index
  item : X
  there : slice_get xs index ≡ Some item
  passes : test item ≡ true

one_more : {X : Type 0} (test : X → Bool) (at : ℕ) (x : X) (xs : List X) (place : ℕ) (o : Option ℕ) (b : Bool)
    → (o ≡ Some place → Stands test (at + 1) xs place) → test x ≡ b → option_or o (where_at b at) ≡ Some place → Stands test at (x ∷ xs) place
one_more test at x xs place (Some n) b inner t e =
    let s : Stands test (at + 1) xs place = inner e in
    let is : place ≡ at + 1 + s.index = s.is in
    record { index = suc s.index; is = omega arith; item = s.item; there = s.there; passes = s.passes }
one_more test at x xs place None true inner t e =
    let same : at ≡ place = cc in
    record { index = 0; is = omega arith; item = x; there = refl; passes = t }
one_more test at x xs place None false inner t e = cc

last_stands : {X : Type 0} (test : X → Bool) (at : ℕ) (xs : List X) (place : ℕ) → last_place test at xs ≡ Some place → Stands test at xs place
unfolding last_place
last_stands test at [] place e = cc
last_stands test at (x ∷ xs) place e =
    one_more test at x xs place (last_place test (at + 1) xs) (test x) (last_stands test (at + 1) xs place) refl e

-- the architecture at a position belongs to the entity with this name
record IsOfEntity (l : Library) (name : List ℕ) (place : ℕ) : Type 0 where
  architecture : Architecture
  there : slice_get l.architectures place ≡ Some architecture
  entity : name ≡ architecture.entity.text

first_true : (a b : Bool) → (a && b) ≡ true → a ≡ true
first_true true b e = refl
first_true false b e = cc

of_entity : (l : Library) (name : List ℕ) (test : Architecture → Bool) (place : ℕ) → ((a : Architecture) → test a ≡ true → is_of name a ≡ true)
    → last_place test 0 l.architectures ≡ Some place → IsOfEntity l name place
of_entity l name test place implies e =
    let s : Stands test 0 l.architectures place = last_stands test 0 l.architectures place e in
    let is : place ≡ 0 + s.index = s.is in
    let same : place ≡ s.index = omega arith in
    record {
      architecture = s.item;
      there = ap (slice_get l.architectures) same ∙ s.there;
      entity = (bytes_eq-Decides name s.item.entity.text).0 (implies s.item s.passes);
    }

architecture_of : (l : Library) (u : Instantiated) (place : ℕ) → architecture_place l u ≡ Some place → IsOfEntity l (entity_name u).text place
unfolding last_architecture last_named
architecture_of l (of.Component word c) place e = of_entity l c.text (is_of c.text) place (λ a h. h) e
architecture_of l (of.Entity library name None) place e = of_entity l name.text (is_of name.text) place (λ a h. h) e
architecture_of l (of.Entity library name (Some x)) place e =
    of_entity l name.text (is_named_of name.text x.text) place (λ a h. first_true (is_of name.text a) (bytes_eq x.text a.name.text) h) e

-- ---- the blocks, by number

at_front : {X : Type 0} (f : X → Block) (xs : List X) (place : ℕ) (x : X) → slice_get xs place ≡ Some x
    → (get_or (map f xs ++ no_block ∷ []) place no_block ≡ f x) × (place < length (map f xs ++ no_block ∷ []))
at_front f [] place x e = cc
at_front f (y ∷ ys) zero x e = let same : y ≡ x = cc in (ap f same, omega arith)
at_front f (y ∷ ys) (suc k) x e = let rest = at_front f ys k x e in let less = rest.1 in (rest.0, omega arith)

at_end : {X : Type 0} (f : X → Block) (xs : List X)
    → (get_or (map f xs ++ no_block ∷ []) (length xs) no_block ≡ no_block) × (length xs < length (map f xs ++ no_block ∷ []))
at_end f [] = (refl, omega arith)
at_end f (y ∷ ys) = let rest = at_end f ys in let less = rest.1 in (rest.0, omega arith)

-- ---- the ports of an entity

interface_is : (es : List Entity) (o : Option ℕ) → ports_known (at_place (interfaces es) o) ≡ ports_of (ports_declared (at_place es o))
unfolding interfaces ports_of
interface_is es None = refl
interface_is [] (Some n) = refl
interface_is (e ∷ es) (Some zero) = refl
interface_is (e ∷ es) (Some (suc n)) = interface_is es (Some n)

ports_are : (l : Library) (name : List ℕ) → ports_known (interface_of l name) ≡ ports_of (ports_named l name)
unfolding interface_of entity_of ports_named
ports_are l name = interface_is l.entities (first_entity l.entities name)

-- ---- links

link_to_below : (count : ℕ) (o : Option Meaning) → is_within count [] o ≡ true → LeadsBelow count (link_to o)
unfolding link_to is_within
link_to_below count None h = tt
link_to_below count (Some (m.Port object mode type)) h = ltb-true object count h
link_to_below count (Some (m.Signal object type)) h = ltb-true object count h
link_to_below count (Some (m.Variable place type)) h = tt
link_to_below count (Some (m.Component place)) h = tt
link_to_below count (Some m.Label) h = tt
link_to_below count (Some (m.LogicMark resolved)) h = tt
link_to_below count (Some m.BooleanMark) h = tt
link_to_below count (Some (m.Truth b)) h = tt
link_to_below count (Some (m.Edge rising)) h = tt

link_below : (count : ℕ) (look : Lookup) → AreWithin look count [] → (a : Option Actual) → LeadsBelow count (link_of look a)
unfolding link_of
link_below count look within None = tt
link_below count look within (Some (actual.Named n)) = link_to_below count (look n.text) (within n.text)
link_below count look within (Some (actual.Literal v at)) = tt
link_below count look within (Some (actual.Open at)) = tt

-- ---- instances

-- the block of an instance exists, and the instance has a link for each of its ports
bound : (l : Library) (look : Lookup) (o : Option ℕ) (i : tree.Instance) → architecture_place l i.unit ≡ o
    → (block_number l o < length (blocks_of l)) × (length (links_at l look o i) ≡ length (get_or (blocks_of l) (block_number l o) no_block).ports)
unfolding block_number links_at links_of block_of block_ports blocks_of
bound l look None i e =
    let last = at_end (block_of l) l.architectures in
    (last.1, ap (λ (b : Block). length b.ports) (sym last.0))
bound l look (Some place) i e =
    let name : List ℕ = (entity_name i.unit).text in
    let at : IsOfEntity l name place = architecture_of l i.unit place e in
    let front = at_front (block_of l) l.architectures place at.architecture at.there in
    let ports : List Port = ports_known (interface_of l name) in
    let declared = ports_named l at.architecture.entity.text in
    let same : ports ≡ ports_of declared = ports_are l name ∙ ap (λ (n : List ℕ). ports_of (ports_named l n)) at.entity in (
      front.1,
      length-map-range_with_len (λ (n : ℕ). link_of look (associated ports i.associations n)) 0 (length ports)
          ∙ (ap (λ (ps : List Port). length ps) same
          ∙ (sym (length-map (ports_of declared) (port (seen (ports_region [] declared))))
          ∙ ap (λ (b : Block). length b.ports) (sym front.0))),
    )

module _ (l : Library) (region : Region) (b : Block) (below : AreBelow (size b) region) where
  links_below : (o : Option ℕ) (i : tree.Instance) → All (LeadsBelow (size b)) (links_at l (seen region) o i)
  unfolding links_at links_of
  links_below None i = All-nil (LeadsBelow (size b))
  links_below (Some place) i =
      let ports : List Port = ports_known (interface_of l (entity_name i.unit).text) in
      let f = λ (n : ℕ). link_of (seen region) (associated ports i.associations n) in
      All-map (LeadsBelow (size b)) f (range_with_len 0 (length ports))
      (λ n d lt. link_below (size b) (seen region) (concurrent_within (size b) region below)
      (associated ports i.associations (get_or (range_with_len 0 (length ports)) n d)))

  instance_known : (i : tree.Instance) → IsInstance (blocks_of l) b (instance_of l (seen region) i)
  unfolding instance_of
  instance_known i =
      let place : Option ℕ = architecture_place l i.unit in
      let there = bound l (seen region) place i refl in
      record { known = there.0; links = there.1; leads = links_below place i }

  pub instances_known : (cs : List Concurrent) → All (IsInstance (blocks_of l) b) (instances_of l (seen region) cs)
  unfolding instances_of
  instances_known [] = All-nil (IsInstance (blocks_of l) b)
  instances_known (concurrent.Assignment a ∷ cs) = instances_known cs
  instances_known (concurrent.Process p ∷ cs) = instances_known cs
  instances_known (concurrent.Instance i ∷ cs) = All-cons (IsInstance (blocks_of l) b) (instance_of l (seen region) i) (instances_of l (seen region) cs)
      (instance_known i) (instances_known cs)
