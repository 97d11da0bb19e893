-- The types of expressions, and the faults in them (IEEE 1076-2008, 9).
use Rattle.std.specs.Prelude.{ℕ, ◌||◌, List, [], ◌∷◌, ◌++◌, Bool, true, false, Option, Some, None}
use Rattle.sim_text_tree.specs.declared.declaration.Mode.TheVariants.{Out}
use Rattle.sim_text_tree.specs.declared.expression.Expression.{Expression}
use Rattle.sim_text_tree.specs.declared.expression.Expression.TheOpen as x
use Rattle.sim_text_tree.specs.declared.expression.Expression.TheFolds as folds
use Rattle.sim_text_tree.specs.declared.expression.Operand.{Operand}
use Rattle.sim_flat_scope.specs.declared.scope.Meaning.{Meaning}
use Rattle.sim_flat_scope.specs.declared.scope.Meaning.TheVariants as m
use Rattle.sim_flat_scope.specs.declared.scope.Type as ty
use Rattle.sim_flat_scope.specs.declared.scope.Type.TheVariants.{Logic, Boolean}
use Rattle.sim_flat_scope.specs.declared.fault.Kind as kind
use Rattle.sim_flat_scope.specs.declared.fault.Kind.TheVariants as k
use Rattle.sim_flat_scope.specs.declared.fault.Fault.{Fault}
use Rattle.sim_flat_scope.specs.Faults.{fault}
use Rattle.sim_flat_scope.specs.Scopes.{Lookup}

-- the result for an expression: its type, if it has one; whether it contains a name; the faults in it
pub record Judged : Type 0 where
  pub type : Option ty.Type
  pub named : Bool
  pub faults : List Fault

-- ---- names

-- a name of this type
abbrev pub name_of : Option ty.Type → Judged
name_of t = record { type = t; named = true; faults = [] }

-- a name at fault
abbrev pub faulty_name : kind.Kind → ℕ → Judged
faulty_name kind at = record { type = None; named = true; faults = fault kind at }

-- A name whose value is read must be a port that is not of mode out (our rule), a signal, a variable, `true` or `false`.
unfoldable pub value_read : ℕ → Option Meaning → Judged
value_read at None = faulty_name k.Unknown at
value_read at (Some (m.Port object Out t)) = faulty_name k.ReadOut at
value_read at (Some (m.Port object mode t)) = name_of t
value_read at (Some (m.Signal object t)) = name_of t
value_read at (Some (m.Variable place t)) = name_of t
value_read at (Some (m.Truth value)) = name_of (Some Boolean)
value_read at (Some _) = faulty_name k.WrongKind at

-- A name whose events are used must be a port that is not of mode out (our rule), or a signal.
unfoldable pub signal_read : ℕ → Option Meaning → List Fault
signal_read at None = fault k.Unknown at
signal_read at (Some (m.Port object Out t)) = fault k.ReadOut at
signal_read at (Some (m.Port object mode t)) = []
signal_read at (Some (m.Signal object t)) = []
signal_read at (Some _) = fault k.WrongKind at

-- Only an edge function can be called.
unfoldable pub function_called : ℕ → Option Meaning → List Fault
function_called at None = fault k.Unknown at
function_called at (Some (m.Edge rising)) = []
function_called at (Some _) = fault k.WrongKind at

-- boolean, unless there is a fault
abbrev pub boolean_unless : List Fault → Option ty.Type
boolean_unless [] = Some Boolean
boolean_unless (f ∷ fs) = None

-- a test for events, with these faults: `NAME ' event`, or a call of an edge function
unfoldable pub event_test : List Fault → Judged
event_test faults = record { type = boolean_unless faults; named = true; faults = faults }

-- ---- operators

-- the fault of two operands with different types, or of a value and its target
abbrev pub clash : Option ty.Type → Option ty.Type → ℕ → List Fault
clash (Some Logic) (Some Boolean) at = fault k.TypeClash at
clash (Some Boolean) (Some Logic) at = fault k.TypeClash at
clash _ _ at = []

-- the common type of two operands
abbrev pub common : Option ty.Type → Option ty.Type → Option ty.Type
common (Some Logic) (Some Logic) = Some Logic
common (Some Boolean) (Some Boolean) = Some Boolean
common _ _ = None

-- two operands and the operator between them (9.2.2)
unfoldable pub joined : Judged → ℕ → Judged → Judged
joined a at b = record { type = common a.type b.type; named = a.named || b.named; faults = a.faults ++ (b.faults ++ clash a.type b.type at) }

-- the fault of `=` or `/=` between operands of this type that contain a name or not: literals may have several types (12.5)
abbrev pub ambiguous : Option ty.Type → Bool → ℕ → List Fault
ambiguous (Some Logic) false at = fault k.Ambiguous at
ambiguous _ _ at = []

-- the type of `=` or `/=` between these operands
abbrev pub compared : Option ty.Type → Bool → Option ty.Type
compared None named = None
compared (Some Boolean) named = Some Boolean
compared (Some Logic) true = Some Boolean
compared (Some Logic) false = None

-- two operands and `=` or `/=` between them (9.2.3)
unfoldable pub comparison : Judged → ℕ → Judged → Judged
comparison a at b =
    let both = joined a at b in
    record { type = compared both.type both.named; named = both.named; faults = both.faults ++ ambiguous both.type both.named at }

-- a literal of std_ulogic
abbrev pub literal : Judged
literal = record { type = Some Logic; named = false; faults = [] }

-- `??` and its operand: it is declared for std_ulogic, so the operand must be comparable with a literal (9.2.9)
abbrev pub condition : ℕ → Judged → Judged
condition at operand = comparison literal at operand

-- an operand, then the operators with their operands, from the left (9.2.2)
unfoldable pub chained : Judged → List (ℕ × Judged) → Judged
chained a [] = a
chained a (o ∷ os) = chained (joined a o.0 o.1) os

-- ---- expressions (9.1)

module _ (look : Lookup) where
  -- an expression, from the results for its parts
  abbrev pub expression_rule : x.Expression-F Judged (ℕ × Judged) → Judged
  expression_rule (x.Literal value at) = literal
  expression_rule (x.Named n) = value_read n.at (look n.text)
  expression_rule (x.Event n) = event_test (signal_read n.at (look n.text))
  expression_rule (x.Call f a) = event_test (function_called f.at (look f.text) ++ signal_read a.at (look a.text))
  expression_rule (x.Parenthesized at inner) = inner
  expression_rule (x.Not at operand) = operand
  expression_rule (x.Condition at operand) = condition at operand
  expression_rule (x.Comparison left operator at right) = comparison left at right
  expression_rule (x.Chain operator first rest) = chained first rest

  -- the place of an operator, and the result for the operand after it
  abbrev pub operand_rule : x.Operand-F Judged (ℕ × Judged) → ℕ × Judged
  operand_rule o = (o.operator_at, o.operand)

  -- the result for an expression
  unfoldable pub judged : Expression → Judged
  judged = folds.fold-Expression Judged (ℕ × Judged) expression_rule operand_rule

  -- the place of an operator, and the result for the operand after it
  unfoldable pub judged_operand : Operand → ℕ × Judged
  judged_operand = folds.fold-Operand Judged (ℕ × Judged) expression_rule operand_rule
