-- Instances without faults.
use Rattle.std.proofs.Common.{ℕ, ◌≡◌, ◌+◌, ◌&&◌, zero, suc, List, [], ◌∷◌, ◌++◌, Bool, true, false, Option, Some, None, is_some, slice_get}
use Rattle.std.proofs.Common.{cond, refl, ap, sym, ◌∙◌, arith}
use Rattle.std.specs.Str.{bytes_eq}
use Rattle.std.specs.Prelude.{codes}
use Rattle.std.specs.Option.{option_or}
use Rattle.std.proofs.lemmas.Bool.Decides.{Decides-eqb}
use Rattle.sim_text_tree.specs.Name.{Name}
use Rattle.sim_text_tree.specs.declared.declaration.Mode.{Mode}
use Rattle.sim_text_tree.specs.declared.declaration.Mode.TheVariants.{In, Out, Inout}
use Rattle.sim_text_tree.specs.declared.unit.Actual.{Actual}
use Rattle.sim_text_tree.specs.declared.unit.Actual.TheVariants as actual
use Rattle.sim_text_tree.specs.declared.unit.Association.{Association}
use Rattle.sim_text_tree.specs.declared.unit.Instance.{Instance}
use Rattle.sim_text_tree.specs.declared.unit.Instantiated.{Instantiated}
use Rattle.sim_text_tree.specs.declared.unit.Instantiated.TheVariants as of
use Rattle.sim_flat_scope.specs.Ports.{Port}
use Rattle.sim_flat_scope.specs.declared.scope.Meaning.{Meaning}
use Rattle.sim_flat_scope.specs.declared.scope.Meaning.TheVariants as m
use Rattle.sim_flat_scope.specs.declared.fault.Fault.{Fault}
use Rattle.sim_flat_scope.specs.declared.fault.Kind.TheVariants as k
use Rattle.sim_flat_scope.specs.Faults.{where_}
use Rattle.sim_flat_scope.specs.Scopes.{Lookup}
use Rattle.sim_flat_instances.specs.declared.component.Component.{Component}
use Rattle.sim_flat_instances.specs.Places.{where_at}
use Rattle.sim_flat_instances.specs.Libraries.{Library, interface_of}
use Rattle.sim_flat_instances.specs.PortMaps as PortMaps
use Rattle.sim_flat_instances.specs.PortMaps.{PortMap, port_of, is_port, first_of_port, actual_at, associated, named_faults, actual_faults, twice, mode_of}
use Rattle.sim_flat_instances.specs.PortMaps.{association_faults, associations_faults, needs_actual, is_open, missing_fault, missing_faults, port_map_faults}
use Rattle.sim_flat_instances.specs.Instances as Instances
use Rattle.sim_flat_instances.specs.Instances.{entity_name, place_of, architecture_place, missing_at, known_fault, bound_fault, declared_fault}
use Rattle.sim_flat_instances.specs.Instances.{component_fault, unit_fault, map_faults_of, alone, instance_faults}
use Rattle.sim_flat_instances.specs.Laws.{may_be, fits, IsSound, IsBound}

-- ---- no faults at all

left_nil : (fs gs : List Fault) → fs ++ gs ≡ [] → fs ≡ []
left_nil [] gs h = refl
left_nil (f ∷ fs) gs h = cc

right_nil : (fs gs : List Fault) → fs ++ gs ≡ [] → gs ≡ []
right_nil [] gs h = h
right_nil (f ∷ fs) gs h = cc

-- ---- actuals

named_fits : (mode : Mode) (at : ℕ) (o : Option Meaning) → named_faults (Some mode) at o ≡ [] → may_be mode o ≡ true
unfolding named_faults
named_fits mode at None h = cc
named_fits In at (Some (m.Port object In t)) h = refl
named_fits In at (Some (m.Port object Out t)) h = cc
named_fits In at (Some (m.Port object Inout t)) h = refl
named_fits Out at (Some (m.Port object In t)) h = cc
named_fits Out at (Some (m.Port object Out t)) h = refl
named_fits Out at (Some (m.Port object Inout t)) h = refl
named_fits Inout at (Some (m.Port object In t)) h = cc
named_fits Inout at (Some (m.Port object Out t)) h = cc
named_fits Inout at (Some (m.Port object Inout t)) h = refl
named_fits mode at (Some (m.Signal object t)) h = refl
named_fits mode at (Some (m.Variable place t)) h = cc
named_fits mode at (Some (m.Component place)) h = cc
named_fits mode at (Some m.Label) h = cc
named_fits mode at (Some (m.LogicMark resolved)) h = cc
named_fits mode at (Some m.BooleanMark) h = cc
named_fits mode at (Some (m.Truth v)) h = cc
named_fits mode at (Some (m.Edge rising)) h = cc

actual_fits : (look : Lookup) (mode : Mode) (a : Actual) → actual_faults look (Some mode) a ≡ [] → fits look mode a ≡ true
unfolding actual_faults
actual_fits look mode (actual.Named n) h = named_fits mode n.at (look n.text) h
actual_fits look In (actual.Literal v at) h = refl
actual_fits look Out (actual.Literal v at) h = cc
actual_fits look Inout (actual.Literal v at) h = cc
actual_fits look mode (actual.Open at) h = refl

-- ---- the association that counts

record Counts (look : Lookup) (map : PortMap) (place at i : ℕ) (xs : List Association) : Type 0 where
  association : Association
  turn : ℕ
  after : i ≡ at + turn
  there : slice_get xs turn ≡ Some association
  port : port_of map.ports i association.formal ≡ Some place
  sound : association_faults look map i association ≡ []

of_place : (o : Option ℕ) (place : ℕ) → is_port o place ≡ true → o ≡ Some place
of_place None place h = cc
of_place (Some p) place h = ap (λ (n : ℕ). Some n) ((Decides-eqb p place).0 h)

module _ (look : Lookup) (map : PortMap) (place : ℕ) where
  turned : (b : Bool) (at i : ℕ) (x : Association) (xs : List Association) → is_port (port_of map.ports at x.formal) place ≡ b
      → association_faults look map at x ≡ [] → (first_of_port map.ports place (at + 1) xs ≡ Some i → Counts look map place (at + 1) i xs)
      → option_or (where_at b at) (first_of_port map.ports place (at + 1) xs) ≡ Some i → Counts look map place at i (x ∷ xs)
  turned true at i x xs is none later h =
      let e : at ≡ i = cc in
      record {
        association = x;
        turn = 0;
        after = (let f : i ≡ at + 0 = omega arith in f);
        there = refl;
        port = ap (λ (n : ℕ). port_of map.ports n x.formal) (sym e) ∙ of_place (port_of map.ports at x.formal) place is;
        sound = ap (λ (n : ℕ). association_faults look map n x) (sym e) ∙ none;
      }
  turned false at i x xs is none later h =
      let c : Counts look map place (at + 1) i xs = later h in
      record {
        association = c.association;
        turn = suc c.turn;
        after = (let a : i ≡ at + 1 + c.turn = c.after in let f : i ≡ at + suc c.turn = omega arith in f);
        there = c.there;
        port = c.port;
        sound = c.sound;
      }

  counts : (at i : ℕ) (xs : List Association) → associations_faults look map at xs ≡ [] → first_of_port map.ports place at xs ≡ Some i
      → Counts look map place at i xs
  unfolding associations_faults first_of_port
  counts at i [] none h = cc
  counts at i (x ∷ xs) none h =
      turned (is_port (port_of map.ports at x.formal) place) at i x xs refl
      (left_nil (association_faults look map at x) (associations_faults look map (at + 1) xs) none)
      (counts (at + 1) i xs (right_nil (association_faults look map at x) (associations_faults look map (at + 1) xs) none)) h

  at_port : (o : Option ℕ) (i : ℕ) (x : Association) → o ≡ Some place → PortMaps.faults_of look map o i x ≡ [] → PortMaps.port_faults look map place i x ≡ []
  at_port o i x is none = ap (λ (p : Option ℕ). PortMaps.faults_of look map p i x) (sym is) ∙ none

  counted_fits : (o : Option ℕ) → first_of_port map.ports place 0 map.associations ≡ o → associations_faults look map 0 map.associations ≡ []
      → (p : Port) (a : Actual) → slice_get map.ports place ≡ Some p → actual_at map.associations o ≡ Some a → fits look p.mode a ≡ true
  unfolding association_faults
  counted_fits None first none p a is h = cc
  counted_fits (Some i) first none p a is h =
      let c : Counts look map place 0 i map.associations = counts 0 i map.associations none first in
      let x : Association = c.association in
      let t : i ≡ 0 + c.turn = c.after in
      let u : i ≡ c.turn = omega arith in
      let there : slice_get map.associations i ≡ Some x = ap (slice_get map.associations) u ∙ c.there in
      let same : Some x.actual ≡ Some a = ap PortMaps.actual_of (sym there) ∙ h in
      let e : x.actual ≡ a = cc in
      let whole : PortMaps.port_faults look map place i x ≡ [] = at_port (port_of map.ports i x.formal) i x c.port c.sound in
      let sound : actual_faults look (mode_of (slice_get map.ports place)) x.actual ≡ [] =
      right_nil (twice x.formal (first_of_port map.ports place 0 map.associations) i)
      (actual_faults look (mode_of (slice_get map.ports place)) x.actual) whole in
      actual_fits look p.mode a
      (ap (λ (o : Option Port). actual_faults look (mode_of o) a) (sym is)
      ∙ (ap (actual_faults look (mode_of (slice_get map.ports place))) (sym e) ∙ sound))

-- ---- ports that must have an actual

not_both : (a b : Bool) (f : Fault) → where_ (a && b) (f ∷ []) ≡ [] → a ≡ true → b ≡ false
not_both true true f h t = cc
not_both true false f h t = refl
not_both false b f h t = cc

filled : (map : PortMap) (label at : ℕ) (ps : List Port) → missing_faults map label at ps ≡ [] → (j place : ℕ) → place ≡ at + j → (p : Port)
    → slice_get ps j ≡ Some p → needs_actual p ≡ true → is_open (associated map.ports map.associations place) ≡ false
unfolding missing_faults
filled map label at [] none j place is p h needs = cc
filled map label at (q ∷ ps) none zero place is p h needs =
    let same : q ≡ p = cc in
    let e : place ≡ at = omega arith in
    let own : needs_actual q ≡ true = ap needs_actual same ∙ needs in
    ap (λ (n : ℕ). is_open (associated map.ports map.associations n)) e
    ∙ not_both (needs_actual q) (is_open (associated map.ports map.associations at)) _
    (left_nil (missing_fault map label at q) (missing_faults map label (at + 1) ps) none) own
filled map label at (q ∷ ps) none (suc j) place is p h needs =
    let e : place ≡ at + 1 + j = omega arith in
    filled map label (at + 1) ps (right_nil (missing_fault map label at q) (missing_faults map label (at + 1) ps) none) j place e p h needs

sound : (look : Lookup) (map : PortMap) (label : ℕ) → port_map_faults look map label ≡ [] → IsSound look map
unfolding port_map_faults associated
sound look map label none =
    let each : associations_faults look map 0 map.associations ≡ [] =
    left_nil (associations_faults look map 0 map.associations) (missing_faults map label 0 map.ports) none in
    let rest : missing_faults map label 0 map.ports ≡ [] =
    right_nil (associations_faults look map 0 map.associations) (missing_faults map label 0 map.ports) none in
    record {
      filled = λ place p is needs. filled map label 0 map.ports rest place place (let e : place ≡ 0 + place = omega arith in e) p is needs;
      fitting = λ place p a is h. counted_fits look map place (first_of_port map.ports place 0 map.associations) refl each p a is h;
    }

-- ---- the entity and the architecture of an instance

abbrev pub IsThere : Library → Name → Option Name → Type 0
IsThere l e a = (is_some (interface_of l e.text) ≡ true) × (is_some (place_of l e a) ≡ true)

there : (o : Option ℕ) (n : Name) → missing_at o n ≡ None → is_some o ≡ true
there None n h = cc
there (Some place) n h = refl

known : (l : Library) (o : Option (List Port)) (e : Name) (a : Option Name) → known_fault l o e a ≡ None
    → (is_some o ≡ true) × (is_some (place_of l e a) ≡ true)
known l None e a h = cc
known l (Some ports) e a h = (refl, there (place_of l e a) (Instances.missed_at e a) h)

in_work : (b : Bool) (l : Library) (library e : Name) (a : Option Name)
    → cond b (known_fault l (interface_of l e.text) e a) (Instances.fault_at k.Unknown library) ≡ None → IsThere l e a
in_work true l library e a h = known l (interface_of l e.text) e a h
in_work false l library e a h = cc

alike : (b : Bool) (l : Library) (c : Name) → cond b (Instances.architecture_fault l c None) (Instances.fault_at k.ComponentDiffers c) ≡ None
    → is_some (place_of l c None) ≡ true
alike true l c h = there (place_of l c None) c h
alike false l c h = cc

bound : (l : Library) (c : Name) (component : Component) (o : Option (List Port)) → bound_fault l c component o ≡ None
    → (is_some o ≡ true) × (is_some (place_of l c None) ≡ true)
bound l c component None h = cc
bound l c component (Some ports) h = (refl, alike component.is_like_entity l c h)

declared : (l : Library) (c : Name) (o : Option Component) → declared_fault l c o ≡ None → IsThere l c None
declared l c None h = cc
declared l c (Some component) h = bound l c component (interface_of l c.text) h

component : (l : Library) (components : List Component) (c : Name) (o : Option Meaning) → component_fault l components c o ≡ None → IsThere l c None
unfolding component_fault
component l components c None h = cc
component l components c (Some (m.Component place)) h = declared l c (slice_get components place) h
component l components c (Some (m.Port object mode t)) h = cc
component l components c (Some (m.Signal object t)) h = cc
component l components c (Some (m.Variable place t)) h = cc
component l components c (Some m.Label) h = cc
component l components c (Some (m.LogicMark resolved)) h = cc
component l components c (Some m.BooleanMark) h = cc
component l components c (Some (m.Truth v)) h = cc
component l components c (Some (m.Edge rising)) h = cc

unit_there : (l : Library) (look : Lookup) (components : List Component) (u : Instantiated) → unit_fault l look components u ≡ None
    → (is_some (interface_of l (entity_name u).text) ≡ true) × (is_some (architecture_place l u) ≡ true)
unfolding unit_fault
unit_there l look components (of.Component word c) h = component l components c (look c.text) h
unit_there l look components (of.Entity library e a) h = in_work (bytes_eq library.text (codes "work")) l library e a h

no_fault : (o : Option Fault) (fs : List Fault) → alone o fs ≡ [] → (o ≡ None) × (fs ≡ [])
no_fault None fs h = (refl, h)
no_fault (Some f) fs h = cc

with_ports : (l : Library) (look : Lookup) (i : Instance) (o : Option (List Port)) → interface_of l (entity_name i.unit).text ≡ o → is_some o ≡ true
    → is_some (architecture_place l i.unit) ≡ true → map_faults_of look o i ≡ [] → IsBound l look i
with_ports l look i None is some architecture none = cc
with_ports l look i (Some ports) is some architecture none =
    record {
      ports = ports;
      entity = is;
      architecture = architecture;
      sound = sound look (record { ports = ports; associations = i.associations }) i.label.at none;
    }

pub is_bound : (l : Library) (look : Lookup) (components : List Component) (i : Instance) → instance_faults l look components i ≡ [] → IsBound l look i
unfolding instance_faults
is_bound l look components i h =
    let parts : (unit_fault l look components i.unit ≡ None) × (map_faults_of look (interface_of l (entity_name i.unit).text) i ≡ []) =
    no_fault (unit_fault l look components i.unit) _ h in
    let there : (is_some (interface_of l (entity_name i.unit).text) ≡ true) × (is_some (architecture_place l i.unit) ≡ true) =
    unit_there l look components i.unit parts.0 in
    with_ports l look i (interface_of l (entity_name i.unit).text) refl there.0 there.1 parts.1
