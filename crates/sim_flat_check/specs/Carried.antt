-- The results of analyzing expressions as the code passes them on: with the first of all faults so far in place of a list.
-- Implementation only: what `simulate` promises does not rest on this file.
use Rattle.std.specs.Prelude.{ℕ, ◌||◌, List, [], ◌∷◌, ◌++◌, Bool, Option}
use Rattle.sim_text_tree.specs.declared.expression.Operand.{Operand}
use Rattle.sim_flat_scope.specs.declared.scope.Type as ty
use Rattle.sim_flat_scope.specs.declared.fault.Fault.{Fault}
use Rattle.sim_flat_scope.specs.Faults.{earliest}
use Rattle.sim_flat_scope.specs.Scopes.{Lookup}
use Rattle.sim_flat_check.specs.Types.{Judged, common, clash, compared, ambiguous, judged_operand}

-- a type, whether a name is contained, and the first fault so far
pub record Carried : Type 0 where
  pub type : Option ty.Type
  pub named : Bool
  pub first : Option Fault

-- the result for an expression, after a fault found before
unfoldable pub carried : Option Fault → Judged → Carried
carried known j = record { type = j.type; named = j.named; first = earliest known j.faults }

-- an operator and the operand after it, given the result so far
unfoldable pub carried_on : Carried → ℕ × Judged → Carried
carried_on a o = record {
  type = common a.type o.1.type;
  named = a.named || o.1.named;
  first = earliest a.first (o.1.faults ++ clash a.type o.1.type o.0);
}

-- `=` or `/=`, given the result for its operands
unfoldable pub carried_compared : Carried → ℕ → Carried
carried_compared a at = record { type = compared a.type a.named; named = a.named; first = earliest a.first (ambiguous a.type a.named at) }

-- operators and the operands after them, given the result so far
unfoldable pub carried_through : Lookup → Carried → List Operand → Carried
carried_through look a [] = a
carried_through look a (o ∷ os) = carried_through look (carried_on a (judged_operand look o)) os
