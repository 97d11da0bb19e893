-- Port maps and their faults (IEEE 1076-2008, 6.5.7 and 6.5.6.3).
use Rattle.std.specs.Prelude.{ℕ, ◌+◌, ◌==◌, ◌&&◌, nat_lt, List, [], ◌∷◌, ◌++◌, length, slice_get, Bool, true, false}
use Rattle.std.specs.Prelude.{if◌then◌else◌, Option, Some, None}
use Rattle.std.specs.Option.{option_or}
use Rattle.sim_text_tree.specs.Name.{Name}
use Rattle.sim_text_tree.specs.declared.declaration.Mode.{Mode}
use Rattle.sim_text_tree.specs.declared.declaration.Mode.TheVariants.{In, Out, Inout}
use Rattle.sim_text_tree.specs.declared.declaration.Initial.{Initial}
use Rattle.sim_text_tree.specs.declared.unit.Actual.{Actual}
use Rattle.sim_text_tree.specs.declared.unit.Actual.TheVariants as actual
use Rattle.sim_text_tree.specs.declared.unit.Association.{Association}
use Rattle.sim_flat_scope.specs.Ports.{Port}
use Rattle.sim_flat_scope.specs.declared.scope.Meaning.{Meaning}
use Rattle.sim_flat_scope.specs.declared.scope.Meaning.TheVariants as m
use Rattle.sim_flat_scope.specs.declared.fault.Kind.TheVariants as k
use Rattle.sim_flat_scope.specs.declared.fault.Fault.{Fault}
use Rattle.sim_flat_scope.specs.Faults.{fault, where_}
use Rattle.sim_flat_scope.specs.Scopes.{Lookup}
use Rattle.sim_flat_instances.specs.Places.{where_at}
use Rattle.sim_flat_instances.specs.Interfaces.{port_place}

-- a port map: the ports, and their associations
pub record PortMap : Type 0 where
  pub ports : List Port
  pub associations : List Association

-- ---- the port of an association

-- the position of the port of an association, given the association's position in the map: a positional one is for the port at
-- its own position, a named one for the first port with the name of its formal
unfoldable pub port_of : List Port → ℕ → Option Name → Option ℕ
port_of ports at None = where_at (nat_lt at (length ports)) at
port_of ports at (Some formal) = port_place ports formal.text

-- whether a port is the one at this position
abbrev pub is_port : Option ℕ → ℕ → Bool
is_port None place = false
is_port (Some p) place = p == place

-- the position of the first association of the port at `place`, among associations from position `at`
unfoldable pub first_of_port : List Port → ℕ → ℕ → List Association → Option ℕ
first_of_port ports place at [] = None
first_of_port ports place at (x ∷ xs) = option_or (where_at (is_port (port_of ports at x.formal) place) at) (first_of_port ports place (at + 1) xs)

-- the actual of an association, if it exists
abbrev pub actual_of : Option Association → Option Actual
actual_of None = None
actual_of (Some x) = Some x.actual

-- the actual at a position of a map, if it exists
abbrev pub actual_at : List Association → Option ℕ → Option Actual
actual_at xs None = None
actual_at xs (Some at) = actual_of (slice_get xs at)

-- the actual of the port at a position
unfoldable pub associated : List Port → List Association → ℕ → Option Actual
associated ports xs place = actual_at xs (first_of_port ports place 0 xs)

-- ---- actuals

-- where an actual starts
abbrev pub actual_start : Actual → ℕ
actual_start (actual.Named n) = n.at
actual_start (actual.Literal v at) = at
actual_start (actual.Open at) = at

-- the fault of an actual port with the second mode for a formal with the first
abbrev pub clash : Mode → Mode → ℕ → List Fault
clash In Out at = fault k.ModeClash at
clash In In at = []
clash In Inout at = []
clash Out In at = fault k.ModeClash at
clash Out Out at = []
clash Out Inout at = []
clash Inout In at = fault k.ModeClash at
clash Inout Out at = fault k.ModeClash at
clash Inout Inout at = []

-- the same, if the formal is a port
abbrev pub port_clash : Option Mode → Mode → ℕ → List Fault
port_clash None mode at = []
port_clash (Some formal) mode at = clash formal mode at

-- the fault of an actual that is a name, which must be that of a signal or a port
unfoldable pub named_faults : Option Mode → ℕ → Option Meaning → List Fault
named_faults formal at None = fault k.Unknown at
named_faults formal at (Some (m.Port object mode type)) = port_clash formal mode at
named_faults formal at (Some (m.Signal object type)) = []
named_faults formal at (Some (m.Variable place type)) = fault k.WrongKind at
named_faults formal at (Some (m.Component place)) = fault k.WrongKind at
named_faults formal at (Some m.Label) = fault k.WrongKind at
named_faults formal at (Some (m.LogicMark resolved)) = fault k.WrongKind at
named_faults formal at (Some m.BooleanMark) = fault k.WrongKind at
named_faults formal at (Some (m.Truth v)) = fault k.WrongKind at
named_faults formal at (Some (m.Edge rising)) = fault k.WrongKind at

-- the fault of a literal as actual: only a port of mode in can have one
abbrev pub literal_faults : Option Mode → ℕ → List Fault
literal_faults None at = []
literal_faults (Some In) at = []
literal_faults (Some Out) at = fault k.ModeClash at
literal_faults (Some Inout) at = fault k.ModeClash at

-- the faults of an actual for a formal with this mode, or for one that is not a port
unfoldable pub actual_faults : Lookup → Option Mode → Actual → List Fault
actual_faults look formal (actual.Named n) = named_faults formal n.at (look n.text)
actual_faults look formal (actual.Literal v at) = literal_faults formal at
actual_faults look formal (actual.Open at) = []

-- ---- associations

-- the mode of a port
abbrev pub mode_of : Option Port → Option Mode
mode_of None = None
mode_of (Some p) = Some p.mode

-- whether an association exists and is before this position
abbrev pub is_before : Option ℕ → ℕ → Bool
is_before None at = false
is_before (Some first) at = nat_lt first at

-- the fault of a formal whose port already has an association
abbrev pub twice : Option Name → Option ℕ → ℕ → List Fault
twice None first at = []
twice (Some formal) first at = where_ (is_before first at) (fault k.PortTwice formal.at)

-- the faults of an association without a port; a positional one is reported at its actual, which is not checked further
abbrev pub stray_faults : Lookup → Option Name → Actual → List Fault
stray_faults look None a = fault k.Unknown (actual_start a)
stray_faults look (Some formal) a = fault k.Unknown formal.at ++ actual_faults look None a

module _ (look : Lookup) (map : PortMap) where
  -- the faults of an association of the port at a position
  abbrev pub port_faults : ℕ → ℕ → Association → List Fault
  port_faults place at x =
      twice x.formal (first_of_port map.ports place 0 map.associations) at ++ actual_faults look (mode_of (slice_get map.ports place)) x.actual

  -- the faults of an association of the port at a position, or without a port
  abbrev pub faults_of : Option ℕ → ℕ → Association → List Fault
  faults_of None at x = stray_faults look x.formal x.actual
  faults_of (Some place) at x = port_faults place at x

  -- the faults of the association at a position of the map
  unfoldable pub association_faults : ℕ → Association → List Fault
  association_faults at x = faults_of (port_of map.ports at x.formal) at x

  -- the faults of associations from a position of the map
  unfoldable pub associations_faults : ℕ → List Association → List Fault
  associations_faults at [] = []
  associations_faults at (x ∷ xs) = association_faults at x ++ associations_faults (at + 1) xs

-- ---- ports without an actual

-- whether there is no default expression
abbrev pub has_none : Option Initial → Bool
has_none None = true
has_none (Some i) = false

-- whether a port is of mode in
abbrev pub is_input : Mode → Bool
is_input In = true
is_input Out = false
is_input Inout = false

-- whether a port must have an actual
abbrev pub needs_actual : Port → Bool
needs_actual p = is_input p.mode && has_none p.initial

-- the position of a port that must have an actual
abbrev pub required_place : ℕ → Port → List ℕ
required_place place p = if needs_actual p then place ∷ [] else []

-- the positions of such ports, where positions start at `place`
unfoldable pub required_from : ℕ → List Port → List ℕ
required_from place [] = []
required_from place (p ∷ ps) = required_place place p ++ required_from (place + 1) ps

-- whether a port is unconnected
abbrev pub is_open : Option Actual → Bool
is_open None = true
is_open (Some (actual.Open at)) = true
is_open (Some (actual.Named n)) = false
is_open (Some (actual.Literal v at)) = false

-- whether the port at a position has no actual
abbrev pub is_missed : PortMap → ℕ → Bool
is_missed map place = is_open (associated map.ports map.associations place)

-- the fault of a port that must have an actual and has none, reported at the label of the instance
abbrev pub missing_fault : PortMap → ℕ → ℕ → Port → List Fault
missing_fault map label place p =
    where_ (needs_actual p && is_missed map place) (fault k.PortMissing label)

-- the faults of such ports, from a position
unfoldable pub missing_faults : PortMap → ℕ → ℕ → List Port → List Fault
missing_faults map label place [] = []
missing_faults map label place (p ∷ ps) = missing_fault map label place p ++ missing_faults map label (place + 1) ps

-- ---- port maps

-- the faults of a port map, given the place of the label of its instance
unfoldable pub port_map_faults : Lookup → PortMap → ℕ → List Fault
port_map_faults look map label = associations_faults look map 0 map.associations ++ missing_faults map label 0 map.ports
