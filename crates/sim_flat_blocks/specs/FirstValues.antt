-- The initial values of the variables of a process (IEEE 1076-2008, 6.4.2.4, 11.3).
use Rattle.std.specs.Prelude.{List, [], ◌∷◌, ◌++◌, Bool, true, false, Option, Some}
use Rattle.sim_logic.specs.declared.logic.Logic.TheVariants.{U}
use Rattle.sim_flat_design.specs.declared.held.Held.{Held}
use Rattle.sim_flat_design.specs.declared.held.Held.TheVariants.{Bit, Truth}
use Rattle.sim_flat_scope.specs.declared.scope.Type as ty
use Rattle.sim_flat_scope.specs.declared.scope.Type.TheVariants as type
use Rattle.sim_flat_scope.specs.declared.scope.Meaning.{Meaning}
use Rattle.sim_flat_scope.specs.declared.scope.Meaning.TheVariants as m
use Rattle.sim_flat_scope.specs.Scopes.{Lookup, Region, means}
use Rattle.sim_text_tree.specs.Name.{Name}
use Rattle.sim_text_tree.specs.declared.declaration.Initial.{Initial}
use Rattle.sim_text_tree.specs.declared.declaration.Initial.TheVariants as initial
use Rattle.sim_text_tree.specs.declared.declaration.ObjectDeclaration.{ObjectDeclaration}
use Rattle.sim_text_tree.specs.declared.unit.Process.{Process}
use Rattle.sim_flat_scope.specs.DeclaredNames.{process_names}
use Rattle.sim_flat_scope.specs.Regions.{mark_type, naming}

-- the boolean value that a name denotes
unfoldable pub truth_named : Option Meaning → Bool
truth_named (Some (m.Truth b)) = b
truth_named _ = false

-- an initial value of type boolean: false if none is written
unfoldable pub first_truth : Lookup → Option Initial → Held
first_truth look (Some (initial.Named n)) = Truth (truth_named (look n.text))
first_truth look _ = Truth false

-- an initial value of type std_ulogic: 'U' if none is written
unfoldable pub first_bit : Option Initial → Held
first_bit (Some (initial.Literal v at)) = Bit v
first_bit _ = Bit U

-- an initial value, by the type of its variable
unfoldable pub first_value : Lookup → Option ty.Type → Option Initial → Held
first_value look (Some type.Boolean) value = first_truth look value
first_value look _ value = first_bit value

-- the same value for each of these names
unfoldable pub value_of_each : Held → List Name → List Held
value_of_each value [] = []
value_of_each value (n ∷ ns) = value ∷ value_of_each value ns

-- the initial values of the variables of one declaration
abbrev pub values_declared : Lookup → ObjectDeclaration → List Held
values_declared look o = value_of_each (first_value look (mark_type look true o.mark) o.initial) o.names

-- the initial values of variables
unfoldable pub values_of : Lookup → List ObjectDeclaration → List Held
values_of look [] = []
values_of look (o ∷ os) = values_declared look o ++ values_of look os

-- the scope of the type marks and initial values of a process: its own names, then those of its architecture
abbrev pub declaring_look : Region → Process → Lookup
declaring_look architecture p = means (naming [] (process_names p)) architecture

-- the initial values of the variables of a process, by position
unfoldable pub first_values : Region → Process → List Held
first_values architecture p = values_of (declaring_look architecture p) p.variables
