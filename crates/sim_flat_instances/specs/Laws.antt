-- The properties of an instance without faults.
use Rattle.std.specs.Prelude.{ℕ, ◌≡◌, List, Bool, true, false, Option, Some, is_some, slice_get}
use Rattle.sim_text_tree.specs.declared.declaration.Mode.{Mode}
use Rattle.sim_text_tree.specs.declared.declaration.Mode.TheVariants.{In, Out, Inout}
use Rattle.sim_text_tree.specs.declared.unit.Actual.{Actual}
use Rattle.sim_text_tree.specs.declared.unit.Actual.TheVariants as actual
use Rattle.sim_text_tree.specs.declared.unit.Instance.{Instance}
use Rattle.sim_flat_scope.specs.Ports.{Port}
use Rattle.sim_flat_scope.specs.declared.scope.Meaning.{Meaning}
use Rattle.sim_flat_scope.specs.declared.scope.Meaning.TheVariants as m
use Rattle.sim_flat_scope.specs.Scopes.{Lookup}
use Rattle.sim_flat_instances.specs.Libraries.{Library, interface_of}
use Rattle.sim_flat_instances.specs.PortMaps.{PortMap, associated, needs_actual, is_input, is_open}
use Rattle.sim_flat_instances.specs.Instances.{entity_name, architecture_place}

-- the modes that an actual port may have, by a stricter rule than that of the standard (6.5.6.3): for a port of mode in all
-- but out, for one of mode out all but in, for one of mode inout only inout
abbrev pub allows : Mode → Mode → Bool
allows In In = true
allows In Out = false
allows In Inout = true
allows Out In = false
allows Out Out = true
allows Out Inout = true
allows Inout In = false
allows Inout Out = false
allows Inout Inout = true

-- whether a name with this meaning may be the actual of a port: a signal, or a port whose mode is allowed
abbrev pub may_be : Mode → Option Meaning → Bool
may_be mode (Some (m.Port object own type)) = allows mode own
may_be mode (Some (m.Signal object type)) = true
may_be mode _ = false

-- whether an actual fits a port with this mode; a literal fits only mode in
abbrev pub fits : Lookup → Mode → Actual → Bool
fits look mode (actual.Named n) = may_be mode (look n.text)
fits look mode (actual.Literal v at) = is_input mode
fits look mode (actual.Open at) = true

-- A port map in which each port that must have an actual has one, and the actual of each port fits it.
pub record IsSound (look : Lookup) (map : PortMap) : Type 0 where
  pub filled : (place : ℕ) (p : Port) → slice_get map.ports place ≡ Some p → needs_actual p ≡ true
      → is_open (associated map.ports map.associations place) ≡ false
  pub fitting : (place : ℕ) (p : Port) (a : Actual) → slice_get map.ports place ≡ Some p
      → associated map.ports map.associations place ≡ Some a → fits look p.mode a ≡ true

-- An instance of an existing architecture, with a sound map of the ports of its entity.
pub record IsBound (l : Library) (look : Lookup) (i : Instance) : Type 0 where
  pub ports : List Port
  pub entity : interface_of l (entity_name i.unit).text ≡ Some ports
  pub architecture : is_some (architecture_place l i.unit) ≡ true
  pub sound : IsSound look (record { ports = ports; associations = i.associations })
