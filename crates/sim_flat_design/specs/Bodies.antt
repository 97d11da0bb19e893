-- The objects that the body of a process refers to, and whether all references are in range.
use Rattle.std.specs.Prelude.{ℕ, ◌&&◌, nat_lt, nat_le, List, [], ◌∷◌, ◌++◌, Bool, true, false, Option, Some, None, slice_get, map}
use Rattle.std.specs.List.{concat, list_all}
use Rattle.sim_flat_design.specs.declared.held.Held.{Held}
use Rattle.sim_flat_design.specs.declared.held.Held.TheVariants as held
use Rattle.sim_flat_design.specs.declared.expression.LogicExpression.{LogicExpression}
use Rattle.sim_flat_design.specs.declared.expression.LogicExpression.TheOpen as logic
use Rattle.sim_flat_design.specs.declared.expression.LogicExpression.TheFolds as logic_folds
use Rattle.sim_flat_design.specs.declared.expression.BooleanExpression.{BooleanExpression}
use Rattle.sim_flat_design.specs.declared.expression.BooleanExpression.TheOpen as boolean
use Rattle.sim_flat_design.specs.declared.expression.BooleanExpression.TheFolds as boolean_folds
use Rattle.sim_flat_design.specs.declared.waveform.Element.{Element}
use Rattle.sim_flat_design.specs.declared.statement.Delay.{Delay}
use Rattle.sim_flat_design.specs.declared.statement.Delay.TheVariants as delay
use Rattle.sim_flat_design.specs.declared.statement.ConditionalWaveform.{ConditionalWaveform}
use Rattle.sim_flat_design.specs.declared.statement.SignalAssignment.{SignalAssignment}
use Rattle.sim_flat_design.specs.declared.statement.Branch.{Branch}
use Rattle.sim_flat_design.specs.declared.statement.Statement.{Statement}
use Rattle.sim_flat_design.specs.declared.statement.Statement.TheOpen as s
use Rattle.sim_flat_design.specs.declared.statement.Statement.TheFolds as folds
use Rattle.sim_flat_design.specs.Waveforms.{first_time}

-- The body of a process: the number of ports and signals of its architecture, the number of drivers of the process, the
-- initial values of its variables, and its statements.
pub record Body : Type 0 where
  pub objects : ℕ
  pub drivers : ℕ
  pub variables : List Held
  pub statements : List Statement

-- ---- the ports and signals that are read, also by 'event and edge functions, with repetitions

abbrev pub logic_objects_rule : logic.LogicExpression-F (List ℕ) → List ℕ
logic_objects_rule (logic.Literal value) = []
logic_objects_rule (logic.Object n) = n ∷ []
logic_objects_rule (logic.Variable n) = []
logic_objects_rule (logic.Not operand) = operand
logic_objects_rule (logic.Chain operator first rest) = first ++ concat rest

-- those of an expression of type std_ulogic
unfoldable pub logic_objects : LogicExpression → List ℕ
logic_objects = logic_folds.fold-LogicExpression (List ℕ) logic_objects_rule

abbrev pub boolean_objects_rule : boolean.BooleanExpression-F (List ℕ) → List ℕ
boolean_objects_rule (boolean.Literal value) = []
boolean_objects_rule (boolean.Variable n) = []
boolean_objects_rule (boolean.Event n) = n ∷ []
boolean_objects_rule (boolean.Edge rising n) = n ∷ []
boolean_objects_rule (boolean.Not operand) = operand
boolean_objects_rule (boolean.Chain operator first rest) = first ++ concat rest
boolean_objects_rule (boolean.Condition operand) = logic_objects operand
boolean_objects_rule (boolean.LogicComparison left operator right) = logic_objects left ++ logic_objects right
boolean_objects_rule (boolean.BooleanComparison left operator right) = left ++ right

-- those of an expression of type boolean
unfoldable pub boolean_objects : BooleanExpression → List ℕ
boolean_objects = boolean_folds.fold-BooleanExpression (List ℕ) boolean_objects_rule

-- those of a waveform
abbrev pub waveform_objects : List Element → List ℕ
waveform_objects w = concat (map (λ (x : Element). logic_objects x.value) w)

-- those of a waveform and its condition
abbrev pub conditional_objects : ConditionalWaveform → List ℕ
conditional_objects c = boolean_objects c.condition ++ waveform_objects c.waveform

-- those of the waveform without a condition
abbrev pub last_objects : Option (List Element) → List ℕ
last_objects None = []
last_objects (Some w) = waveform_objects w

-- those of a signal assignment
unfoldable pub assignment_objects : SignalAssignment → List ℕ
assignment_objects a = concat (map conditional_objects a.conditional) ++ last_objects a.otherwise

abbrev pub statement_objects_rule : s.Statement-F (List ℕ) (List ℕ) → List ℕ
statement_objects_rule (s.Signal a) = assignment_objects a
statement_objects_rule (s.LogicVariable place value) = logic_objects value
statement_objects_rule (s.BooleanVariable place value) = boolean_objects value
statement_objects_rule (s.If branches otherwise) = concat branches ++ concat otherwise
statement_objects_rule s.Null = []

abbrev pub branch_objects_rule : s.Branch-F (List ℕ) (List ℕ) → List ℕ
branch_objects_rule b = boolean_objects b.condition ++ concat b.statements

-- those of a statement
unfoldable pub statement_objects : Statement → List ℕ
statement_objects = folds.fold-Statement (List ℕ) (List ℕ) statement_objects_rule branch_objects_rule

-- those of a sequence of statements
unfoldable pub objects_of : List Statement → List ℕ
objects_of statements = concat (map statement_objects statements)

-- ---- whether references are in range: to ports and signals, to drivers, and to variables, each with its type

-- whether there is a variable of type std_ulogic at this place
abbrev pub is_bit : Option Held → Bool
is_bit (Some (held.Bit value)) = true
is_bit _ = false

-- whether there is a variable of type boolean at this place
abbrev pub is_truth : Option Held → Bool
is_truth (Some (held.Truth value)) = true
is_truth _ = false

-- whether all of them hold
abbrev pub all : List Bool → Bool
all = list_all (λ b. b)

-- whether a rejection limit is at most the first delay of a waveform (10.5.2.1)
abbrev pub is_rejected : Delay → List Element → Bool
is_rejected (delay.Reject limit) w = nat_le limit (first_time w)
is_rejected _ w = true

module _ (objects : ℕ) (variables : List Held) where
  abbrev pub logic_fits_rule : logic.LogicExpression-F Bool → Bool
  logic_fits_rule (logic.Literal value) = true
  logic_fits_rule (logic.Object n) = nat_lt n objects
  logic_fits_rule (logic.Variable n) = is_bit (slice_get variables n)
  logic_fits_rule (logic.Not operand) = operand
  logic_fits_rule (logic.Chain operator first rest) = first && all rest

  unfoldable pub logic_fits : LogicExpression → Bool
  logic_fits = logic_folds.fold-LogicExpression Bool logic_fits_rule

  abbrev pub boolean_fits_rule : boolean.BooleanExpression-F Bool → Bool
  boolean_fits_rule (boolean.Literal value) = true
  boolean_fits_rule (boolean.Variable n) = is_truth (slice_get variables n)
  boolean_fits_rule (boolean.Event n) = nat_lt n objects
  boolean_fits_rule (boolean.Edge rising n) = nat_lt n objects
  boolean_fits_rule (boolean.Not operand) = operand
  boolean_fits_rule (boolean.Chain operator first rest) = first && all rest
  boolean_fits_rule (boolean.Condition operand) = logic_fits operand
  boolean_fits_rule (boolean.LogicComparison left operator right) = logic_fits left && logic_fits right
  boolean_fits_rule (boolean.BooleanComparison left operator right) = left && right

  unfoldable pub boolean_fits : BooleanExpression → Bool
  boolean_fits = boolean_folds.fold-BooleanExpression Bool boolean_fits_rule

  abbrev pub waveform_fits : Delay → List Element → Bool
  waveform_fits d w = is_rejected d w && all (map (λ (x : Element). logic_fits x.value) w)

  abbrev pub conditional_fits : Delay → ConditionalWaveform → Bool
  conditional_fits d c = boolean_fits c.condition && waveform_fits d c.waveform

  abbrev pub last_fits : Delay → Option (List Element) → Bool
  last_fits d None = true
  last_fits d (Some w) = waveform_fits d w

module _ (objects drivers : ℕ) (variables : List Held) where
  unfoldable pub assignment_fits : SignalAssignment → Bool
  assignment_fits a =
      nat_lt a.driver drivers && (all (map (conditional_fits objects variables a.delay) a.conditional) && last_fits objects variables a.delay a.otherwise)

  abbrev pub statement_fits_rule : s.Statement-F Bool Bool → Bool
  statement_fits_rule (s.Signal a) = assignment_fits a
  statement_fits_rule (s.LogicVariable place value) = is_bit (slice_get variables place) && logic_fits objects variables value
  statement_fits_rule (s.BooleanVariable place value) = is_truth (slice_get variables place) && boolean_fits objects variables value
  statement_fits_rule (s.If branches otherwise) = all branches && all otherwise
  statement_fits_rule s.Null = true

  abbrev pub branch_fits_rule : s.Branch-F Bool Bool → Bool
  branch_fits_rule b = boolean_fits objects variables b.condition && all b.statements

  unfoldable pub statement_fits : Statement → Bool
  statement_fits = folds.fold-Statement Bool Bool statement_fits_rule branch_fits_rule

  unfoldable pub branch_fits : Branch → Bool
  branch_fits = folds.fold-Branch Bool Bool statement_fits_rule branch_fits_rule

-- whether all references of a body are in range
unfoldable pub fits : Body → Bool
fits b = all (map (statement_fits b.objects b.drivers b.variables) b.statements)
