-- The objects of names are in range: ports and signals of the architecture, and variables of the process, each with its type.
-- Implementation only: what `simulate` promises does not rest on this file.
use Rattle.std.specs.Prelude.{ℕ, ◌≡◌, nat_lt, Bool, true, List, Option, Some, slice_get}
use Rattle.sim_flat_scope.specs.declared.scope.Type.TheVariants.{Logic, Boolean}
use Rattle.sim_flat_scope.specs.declared.scope.Meaning.{Meaning}
use Rattle.sim_flat_scope.specs.declared.scope.Meaning.TheVariants as m
use Rattle.sim_flat_scope.specs.Scopes.{Lookup}
use Rattle.sim_flat_design.specs.declared.held.Held.{Held}
use Rattle.sim_flat_design.specs.Bodies.{is_bit, is_truth}

-- whether a name, if it is an object, is one of this number of ports and signals, or one of these variables
unfoldable pub is_within : ℕ → List Held → Option Meaning → Bool
is_within objects variables (Some (m.Port object mode type)) = nat_lt object objects
is_within objects variables (Some (m.Signal object type)) = nat_lt object objects
is_within objects variables (Some (m.Variable place (Some Logic))) = is_bit (slice_get variables place)
is_within objects variables (Some (m.Variable place (Some Boolean))) = is_truth (slice_get variables place)
is_within objects variables _ = true

-- The objects of all names are in range.
abbrev pub AreWithin : Lookup → ℕ → List Held → Type 0
AreWithin look objects variables = (n : List ℕ) → is_within objects variables (look n) ≡ true
