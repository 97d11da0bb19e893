-- Expressions in the form that is executed (IEEE 1076-2008, 9): names by position, each expression by type, no parentheses.
use Rattle.std.specs.Prelude.{Bool, true, false, if◌then◌else◌, List, [], ◌∷◌, Option, Some}
use Rattle.sim_logic.specs.declared.logic.Logic.TheVariants as value
use Rattle.sim_flat_scope.specs.declared.scope.Type.TheVariants.{Logic, Boolean}
use Rattle.sim_flat_scope.specs.declared.scope.Meaning.{Meaning}
use Rattle.sim_flat_scope.specs.declared.scope.Meaning.TheVariants as m
use Rattle.sim_flat_scope.specs.Scopes.{Lookup}
use Rattle.sim_logic.specs.declared.operator_symbol.Relational.{Relational}
use Rattle.sim_text_tree.specs.declared.expression.Expression.{Expression}
use Rattle.sim_text_tree.specs.declared.expression.Expression.TheOpen as x
use Rattle.sim_text_tree.specs.declared.expression.Expression.TheFolds as folds
use Rattle.sim_text_tree.specs.declared.expression.Operand.{Operand}
use Rattle.sim_flat_design.specs.declared.expression.LogicExpression.{LogicExpression}
use Rattle.sim_flat_design.specs.declared.expression.LogicExpression.TheVariants as logic
use Rattle.sim_flat_design.specs.declared.expression.BooleanExpression.{BooleanExpression}
use Rattle.sim_flat_design.specs.declared.expression.BooleanExpression.TheVariants as boolean

-- An expression as one of std_ulogic and as one of boolean, and which of them it is. The other one, which only a text with a fault uses,
-- is 'U' or false.
pub record Translated : Type 0 where
  pub is_boolean : Bool
  pub logic : LogicExpression
  pub boolean : BooleanExpression

-- an expression of std_ulogic
abbrev pub a_logic : LogicExpression → Translated
a_logic e = record { is_boolean = false; logic = e; boolean = boolean.Literal false }

-- an expression of boolean
abbrev pub a_boolean : BooleanExpression → Translated
a_boolean e = record { is_boolean = true; logic = logic.Literal value.U; boolean = e }

-- a name, from its meaning
unfoldable pub named : Option Meaning → Translated
named (Some (m.Port object mode type)) = a_logic (logic.Object object)
named (Some (m.Signal object type)) = a_logic (logic.Object object)
named (Some (m.Variable place (Some Logic))) = a_logic (logic.Variable place)
named (Some (m.Variable place (Some Boolean))) = a_boolean (boolean.Variable place)
named (Some (m.Truth b)) = a_boolean (boolean.Literal b)
named _ = a_logic (logic.Literal value.U)

-- the event of a signal or port (16.2)
unfoldable pub event_of : Option Meaning → BooleanExpression
event_of (Some (m.Port object mode type)) = boolean.Event object
event_of (Some (m.Signal object type)) = boolean.Event object
event_of _ = boolean.Literal false

-- an edge of a signal or port (IEEE 1164)
unfoldable pub edge_of : Option Meaning → Option Meaning → BooleanExpression
edge_of (Some (m.Edge rising)) (Some (m.Port object mode type)) = boolean.Edge rising object
edge_of (Some (m.Edge rising)) (Some (m.Signal object type)) = boolean.Edge rising object
edge_of _ _ = boolean.Literal false

-- `=` or `/=`, by the type of the left operand (9.2.3)
abbrev pub compared : Translated → Relational → Translated → BooleanExpression
compared a operator b =
    if a.is_boolean then boolean.BooleanComparison a.boolean operator b.boolean else boolean.LogicComparison a.logic operator b.logic

-- the operands of a chain as expressions of std_ulogic
unfoldable pub logics : List Translated → List LogicExpression
logics [] = []
logics (t ∷ ts) = t.logic ∷ logics ts

-- the operands of a chain as expressions of boolean
unfoldable pub booleans : List Translated → List BooleanExpression
booleans [] = []
booleans (t ∷ ts) = t.boolean ∷ booleans ts

-- an operand, from its expression
abbrev pub operand_rule : x.Operand-F Translated Translated → Translated
operand_rule o = o.operand

module _ (look : Lookup) where
  -- an expression, from its parts (9.1)
  abbrev pub expression_rule : x.Expression-F Translated Translated → Translated
  expression_rule (x.Literal v at) = a_logic (logic.Literal v)
  expression_rule (x.Named n) = named (look n.text)
  expression_rule (x.Event n) = a_boolean (event_of (look n.text))
  expression_rule (x.Call f a) = a_boolean (edge_of (look f.text) (look a.text))
  expression_rule (x.Parenthesized at inner) = inner
  expression_rule (x.Not at operand) =
      record { is_boolean = operand.is_boolean; logic = logic.Not operand.logic; boolean = boolean.Not operand.boolean }
  expression_rule (x.Condition at operand) = a_boolean (boolean.Condition operand.logic)
  expression_rule (x.Comparison a operator at b) = a_boolean (compared a operator b)
  expression_rule (x.Chain operator first rest) = record {
    is_boolean = first.is_boolean;
    logic = logic.Chain operator first.logic (logics rest);
    boolean = boolean.Chain operator first.boolean (booleans rest);
  }

  unfoldable pub translated : Expression → Translated
  translated = folds.fold-Expression Translated Translated expression_rule operand_rule

  unfoldable pub translated_operand : Operand → Translated
  translated_operand = folds.fold-Operand Translated Translated expression_rule operand_rule

  -- whether an expression is of type boolean
  unfoldable pub is_boolean : Expression → Bool
  is_boolean e = (translated e).is_boolean

  -- an expression of std_ulogic
  unfoldable pub logic_of : Expression → LogicExpression
  logic_of e = (translated e).logic

  -- an expression of boolean
  unfoldable pub boolean_of : Expression → BooleanExpression
  boolean_of e = (translated e).boolean

  -- a condition: an expression of boolean, or one of std_ulogic, to which `??` is applied implicitly (9.2.9)
  unfoldable pub condition_of : Expression → BooleanExpression
  condition_of e = if is_boolean e then boolean_of e else boolean.Condition (logic_of e)

  -- an operand of a chain of std_ulogic
  unfoldable pub operand_logic : Operand → LogicExpression
  operand_logic o = (translated_operand o).logic

  -- an operand of a chain of boolean
  unfoldable pub operand_boolean : Operand → BooleanExpression
  operand_boolean o = (translated_operand o).boolean
