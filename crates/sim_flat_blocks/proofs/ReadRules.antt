-- The objects that each expression and each statement reads, as equations, by its variants.
use Rattle.std.proofs.Common.{◌≡◌, ℕ, ◌++◌, List, [], ◌∷◌, map, Bool, sym, ap, ◌∙◌}
use Rattle.std.proofs.lemmas.List.{append-nil, append_assoc}
use Rattle.std.specs.List.{concat}
use Rattle.sim_logic.specs.declared.logic.Logic.{Logic}
use Rattle.sim_logic.specs.declared.operator_symbol.Relational.{Relational}
use Rattle.sim_logic.specs.declared.operator_symbol.Logical.{Logical}
use Rattle.sim_flat_design.specs.declared.expression.LogicExpression.{LogicExpression}
use Rattle.sim_flat_design.specs.declared.expression.LogicExpression.TheVariants as l
use Rattle.sim_flat_design.specs.declared.expression.LogicExpression.TheOpen as lo
use Rattle.sim_flat_design.specs.declared.expression.LogicExpression.TheFolds as logic_folds
use Rattle.sim_flat_design.specs.declared.expression.BooleanExpression.{BooleanExpression}
use Rattle.sim_flat_design.specs.declared.expression.BooleanExpression.TheVariants as b
use Rattle.sim_flat_design.specs.declared.expression.BooleanExpression.TheOpen as bo
use Rattle.sim_flat_design.specs.declared.expression.BooleanExpression.TheFolds as boolean_folds
use Rattle.sim_flat_design.specs.declared.statement.SignalAssignment.{SignalAssignment}
use Rattle.sim_flat_design.specs.declared.statement.Branch.{Branch}
use Rattle.sim_flat_design.specs.declared.statement.Statement.{Statement}
use Rattle.sim_flat_design.specs.declared.statement.Statement.TheVariants as s
use Rattle.sim_flat_design.specs.declared.statement.Statement.TheOpen as so
use Rattle.sim_flat_design.specs.declared.statement.Statement.TheFolds as statement_folds
use Rattle.sim_flat_design.specs.declared.statement.Statement.TheViews as views
use Rattle.sim_flat_design.specs.Bodies.{assignment_objects, boolean_objects, logic_objects, statement_objects}
use Rattle.sim_flat_design.specs.Bodies.{boolean_objects_rule, branch_objects_rule, logic_objects_rule, statement_objects_rule}
use Rattle.sim_flat_blocks.specs.Reads.{branch_objects}

-- a part that reads nothing adds nothing
pub adds_nothing : (old read : List ℕ) → read ≡ [] → old ≡ old ++ read
adds_nothing old read e = rw e (sym (append-nil old))

-- two parts add what both read
pub adds_both : (old middle new first second read : List ℕ) → read ≡ first ++ second → middle ≡ old ++ first → new ≡ middle ++ second
    → new ≡ old ++ read
adds_both old middle new first second read e f g =
    rw e (g ∙ (ap (λ (m : List ℕ). m ++ second) f ∙ append_assoc old first second))

-- ---- expressions of std_ulogic
pub literal_reads : (v : Logic) → logic_objects (l.Literal v) ≡ []
unfolding logic_objects
literal_reads v = ap logic_objects (sym (l.rolls-Literal v)) ∙ logic_folds.fold-roll-LogicExpression (List ℕ) logic_objects_rule (lo.Literal v)

pub object_reads : (n : ℕ) → logic_objects (l.Object n) ≡ n ∷ []
unfolding logic_objects
object_reads n = ap logic_objects (sym (l.rolls-Object n)) ∙ logic_folds.fold-roll-LogicExpression (List ℕ) logic_objects_rule (lo.Object n)

pub variable_reads : (n : ℕ) → logic_objects (l.Variable n) ≡ []
unfolding logic_objects
variable_reads n = ap logic_objects (sym (l.rolls-Variable n)) ∙ logic_folds.fold-roll-LogicExpression (List ℕ) logic_objects_rule (lo.Variable n)

pub not_reads : (x : LogicExpression) → logic_objects (l.Not x) ≡ logic_objects x
unfolding logic_objects
not_reads x = ap logic_objects (sym (l.rolls-Not x)) ∙ logic_folds.fold-roll-LogicExpression (List ℕ) logic_objects_rule (lo.Not x)

pub chain_reads : (op : Logical) (x : LogicExpression) (ys : List LogicExpression)
    → logic_objects (l.Chain op x ys) ≡ logic_objects x ++ concat (map logic_objects ys)
unfolding logic_objects
chain_reads op x ys = ap logic_objects (sym (l.rolls-Chain op x ys))
    ∙ logic_folds.fold-roll-LogicExpression (List ℕ) logic_objects_rule (lo.Chain op x ys)

-- ---- expressions of boolean
pub truth_reads : (v : Bool) → boolean_objects (b.Literal v) ≡ []
unfolding boolean_objects
truth_reads v = ap boolean_objects (sym (b.rolls-Literal v)) ∙ boolean_folds.fold-roll-BooleanExpression (List ℕ) boolean_objects_rule (bo.Literal v)

pub boolean_variable_reads : (n : ℕ) → boolean_objects (b.Variable n) ≡ []
unfolding boolean_objects
boolean_variable_reads n = ap boolean_objects (sym (b.rolls-Variable n))
    ∙ boolean_folds.fold-roll-BooleanExpression (List ℕ) boolean_objects_rule (bo.Variable n)

pub event_reads : (n : ℕ) → boolean_objects (b.Event n) ≡ n ∷ []
unfolding boolean_objects
event_reads n = ap boolean_objects (sym (b.rolls-Event n)) ∙ boolean_folds.fold-roll-BooleanExpression (List ℕ) boolean_objects_rule (bo.Event n)

pub edge_reads : (rising : Bool) (n : ℕ) → boolean_objects (b.Edge rising n) ≡ n ∷ []
unfolding boolean_objects
edge_reads rising n = ap boolean_objects (sym (b.rolls-Edge rising n))
    ∙ boolean_folds.fold-roll-BooleanExpression (List ℕ) boolean_objects_rule (bo.Edge rising n)

pub boolean_not_reads : (x : BooleanExpression) → boolean_objects (b.Not x) ≡ boolean_objects x
unfolding boolean_objects
boolean_not_reads x = ap boolean_objects (sym (b.rolls-Not x)) ∙ boolean_folds.fold-roll-BooleanExpression (List ℕ) boolean_objects_rule (bo.Not x)

pub boolean_chain_reads : (op : Logical) (x : BooleanExpression) (ys : List BooleanExpression)
    → boolean_objects (b.Chain op x ys) ≡ boolean_objects x ++ concat (map boolean_objects ys)
unfolding boolean_objects
boolean_chain_reads op x ys = ap boolean_objects (sym (b.rolls-Chain op x ys))
    ∙ boolean_folds.fold-roll-BooleanExpression (List ℕ) boolean_objects_rule (bo.Chain op x ys)

pub condition_reads : (x : LogicExpression) → boolean_objects (b.Condition x) ≡ logic_objects x
unfolding boolean_objects
condition_reads x = ap boolean_objects (sym (b.rolls-Condition x))
    ∙ boolean_folds.fold-roll-BooleanExpression (List ℕ) boolean_objects_rule (bo.Condition x)

pub logics_compared_read : (x : LogicExpression) (op : Relational) (y : LogicExpression)
    → boolean_objects (b.LogicComparison x op y) ≡ logic_objects x ++ logic_objects y
unfolding boolean_objects
logics_compared_read x op y = ap boolean_objects (sym (b.rolls-LogicComparison x op y))
    ∙ boolean_folds.fold-roll-BooleanExpression (List ℕ) boolean_objects_rule (bo.LogicComparison x op y)

pub booleans_compared_read : (x : BooleanExpression) (op : Relational) (y : BooleanExpression)
    → boolean_objects (b.BooleanComparison x op y) ≡ boolean_objects x ++ boolean_objects y
unfolding boolean_objects
booleans_compared_read x op y = ap boolean_objects (sym (b.rolls-BooleanComparison x op y))
    ∙ boolean_folds.fold-roll-BooleanExpression (List ℕ) boolean_objects_rule (bo.BooleanComparison x op y)

-- ---- statements
pub signal_reads : (a : SignalAssignment) → statement_objects (s.Signal a) ≡ assignment_objects a
unfolding statement_objects branch_objects
signal_reads a = ap statement_objects (sym (s.rolls-Signal a))
    ∙ statement_folds.fold-roll-Statement (List ℕ) (List ℕ) statement_objects_rule branch_objects_rule (so.Signal a)

pub logic_assigned_reads : (n : ℕ) (x : LogicExpression) → statement_objects (s.LogicVariable n x) ≡ logic_objects x
unfolding statement_objects branch_objects
logic_assigned_reads n x = ap statement_objects (sym (s.rolls-LogicVariable n x))
    ∙ statement_folds.fold-roll-Statement (List ℕ) (List ℕ) statement_objects_rule branch_objects_rule (so.LogicVariable n x)

pub boolean_assigned_reads : (n : ℕ) (x : BooleanExpression) → statement_objects (s.BooleanVariable n x) ≡ boolean_objects x
unfolding statement_objects branch_objects
boolean_assigned_reads n x = ap statement_objects (sym (s.rolls-BooleanVariable n x))
    ∙ statement_folds.fold-roll-Statement (List ℕ) (List ℕ) statement_objects_rule branch_objects_rule (so.BooleanVariable n x)

pub if_reads : (bs : List Branch) (xs : List Statement)
    → statement_objects (s.If bs xs) ≡ concat (map branch_objects bs) ++ concat (map statement_objects xs)
unfolding statement_objects branch_objects
if_reads bs xs = ap statement_objects (sym (s.rolls-If bs xs))
    ∙ statement_folds.fold-roll-Statement (List ℕ) (List ℕ) statement_objects_rule branch_objects_rule (so.If bs xs)

pub null_reads : statement_objects s.Null ≡ []
unfolding statement_objects branch_objects
null_reads = ap statement_objects (sym s.rolls-Null)
    ∙ statement_folds.fold-roll-Statement (List ℕ) (List ℕ) statement_objects_rule branch_objects_rule so.Null

pub branch_reads : (x : Branch)
    → branch_objects x ≡ boolean_objects (views.out-Branch x).condition ++ concat (map statement_objects (views.out-Branch x).statements)
unfolding statement_objects branch_objects
branch_reads x = statement_folds.fold_out-Branch (List ℕ) (List ℕ) statement_objects_rule branch_objects_rule x

-- expressions of std_ulogic
pub ruleset logics_read = (literal_reads, object_reads, variable_reads, not_reads, chain_reads)

-- expressions of boolean
pub ruleset booleans_read = (
  truth_reads,
  boolean_variable_reads,
  event_reads,
  edge_reads,
  boolean_not_reads,
  boolean_chain_reads,
  condition_reads,
  logics_compared_read,
  booleans_compared_read,
)

-- statements
pub ruleset statements_read = (signal_reads, logic_assigned_reads, boolean_assigned_reads, if_reads, null_reads, branch_reads)
