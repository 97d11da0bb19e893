-- The values of expressions (IEEE 1076-2008, 9), given what a process sees of its ports and signals and what its variables hold.
use Rattle.std.specs.Prelude.{ℕ, List, [], ◌∷◌, Bool, true, false, ◌&&◌, ◌||◌, not, fold, map, if◌then◌else◌, Option, Some, slice_get}
use Rattle.sim_logic.specs.declared.logic.Logic.{Logic}
use Rattle.sim_logic.specs.declared.logic.Logic.TheVariants.{U, One, H}
use Rattle.sim_logic.specs.Logic.{is_same}
use Rattle.sim_logic.specs.Tables.{and_table, or_table, xor_table, not_table}
use Rattle.sim_logic.specs.Edge.{rises, falls}
use Rattle.sim_logic.specs.declared.operator_symbol.Logical.{Logical}
use Rattle.sim_logic.specs.declared.operator_symbol.Logical.TheVariants as logical
use Rattle.sim_logic.specs.declared.operator_symbol.Relational.{Relational}
use Rattle.sim_logic.specs.declared.operator_symbol.Relational.TheVariants as relational
use Rattle.sim_flat_design.specs.declared.held.Held.{Held}
use Rattle.sim_flat_design.specs.declared.held.Held.TheVariants as held
use Rattle.sim_flat_design.specs.declared.expression.LogicExpression.{LogicExpression}
use Rattle.sim_flat_design.specs.declared.expression.LogicExpression.TheOpen as logic
use Rattle.sim_flat_design.specs.declared.expression.LogicExpression.TheFolds as logic_folds
use Rattle.sim_flat_design.specs.declared.expression.BooleanExpression.{BooleanExpression}
use Rattle.sim_flat_design.specs.declared.expression.BooleanExpression.TheOpen as boolean
use Rattle.sim_flat_design.specs.declared.expression.BooleanExpression.TheFolds as boolean_folds
use Rattle.sim_flat_design.specs.declared.waveform.Element.{Element}
use Rattle.sim_flat_design.specs.declared.statement.ConditionalWaveform.{ConditionalWaveform}
use Rattle.sim_standard.specs.Drivers.{Transaction}
use Rattle.sim_standard.specs.declared.net_view.NetView.{NetView}

-- ---- operators

-- a logical operator on two values of std_ulogic (9.2.2; IEEE 1164)
abbrev pub logic_operation : Logical → Logic → Logic → Logic
logic_operation logical.And a b = and_table a b
logic_operation logical.Or a b = or_table a b
logic_operation logical.Xor a b = xor_table a b
logic_operation logical.Xnor a b = not_table (xor_table a b)
logic_operation logical.Nand a b = not_table (and_table a b)
logic_operation logical.Nor a b = not_table (or_table a b)

-- whether two truth values are the same
abbrev pub is_same_boolean : Bool → Bool → Bool
is_same_boolean true b = b
is_same_boolean false b = not b

-- and on two boolean values (9.2.2)
abbrev pub boolean_operation : Logical → Bool → Bool → Bool
boolean_operation logical.And a b = a && b
boolean_operation logical.Or a b = a || b
boolean_operation logical.Xor a b = not (is_same_boolean a b)
boolean_operation logical.Xnor a b = is_same_boolean a b
boolean_operation logical.Nand a b = not (a && b)
boolean_operation logical.Nor a b = not (a || b)

-- the value of `=` or `/=`, given whether the operands are the same (9.2.3)
abbrev pub relation : Relational → Bool → Bool
relation relational.Equal same = same
relation relational.Unequal same = not same

-- the condition operator `??` on a value of std_ulogic: true for '1' and 'H', false for the other seven (9.2.9; IEEE 1164, function "??")
abbrev pub condition : Logic → Bool
condition One = true
condition H = true
condition _ = false

-- ---- names

-- what a variable of type std_ulogic holds
abbrev pub bit_of : Option Held → Logic
bit_of (Some (held.Bit value)) = value
bit_of _ = U

-- what a variable of type boolean holds
abbrev pub truth_of : Option Held → Bool
truth_of (Some (held.Truth value)) = value
truth_of _ = false

-- rising_edge or, for false, falling_edge: there is an event, and the value before this cycle and the value make such an edge (IEEE 1164)
abbrev pub has_edge : Bool → NetView → Bool
has_edge true net = net.event && rises net.before net.value
has_edge false net = net.event && falls net.before net.value

-- ---- expressions

module _ (look : ℕ → NetView) (variables : List Held) where
  abbrev pub logic_value_rule : logic.LogicExpression-F Logic → Logic
  logic_value_rule (logic.Literal value) = value
  logic_value_rule (logic.Object n) = (look n).value
  logic_value_rule (logic.Variable n) = bit_of (slice_get variables n)
  logic_value_rule (logic.Not operand) = not_table operand
  logic_value_rule (logic.Chain operator first rest) = fold (logic_operation operator) first rest

  -- the value of an expression of type std_ulogic
  unfoldable pub logic_value : LogicExpression → Logic
  logic_value = logic_folds.fold-LogicExpression Logic logic_value_rule

  abbrev pub boolean_value_rule : boolean.BooleanExpression-F Bool → Bool
  boolean_value_rule (boolean.Literal value) = value
  boolean_value_rule (boolean.Variable n) = truth_of (slice_get variables n)
  boolean_value_rule (boolean.Event n) = (look n).event
  boolean_value_rule (boolean.Edge rising n) = has_edge rising (look n)
  boolean_value_rule (boolean.Not operand) = not operand
  boolean_value_rule (boolean.Chain operator first rest) = fold (boolean_operation operator) first rest
  boolean_value_rule (boolean.Condition operand) = condition (logic_value operand)
  boolean_value_rule (boolean.LogicComparison left operator right) = relation operator (is_same (logic_value left) (logic_value right))
  boolean_value_rule (boolean.BooleanComparison left operator right) = relation operator (is_same_boolean left right)

  -- the value of an expression of type boolean
  unfoldable pub boolean_value : BooleanExpression → Bool
  boolean_value = boolean_folds.fold-BooleanExpression Bool boolean_value_rule

  -- ---- waveforms

  -- the delay and the value of each element of a waveform (10.5.2.1)
  abbrev pub element_values : List Element → List Transaction
  element_values elements = map (λ (x : Element). (x.after, logic_value x.value)) elements

  -- the selected waveform: the first whose condition holds, else the last, if there is one (10.5.3)
  unfoldable pub taken_waveform : List ConditionalWaveform → Option (List Element) → Option (List Element)
  taken_waveform [] otherwise = otherwise
  taken_waveform (c ∷ cs) otherwise = if boolean_value c.condition then Some c.waveform else taken_waveform cs otherwise
