-- References are in range if those of the parts are.
use Rattle.std.proofs.Common.{◌≡◌, ℕ, ◌&&◌, nat_lt, List, map, Bool, true, slice_get, refl, sym, ap, ◌∙◌}
use Rattle.std.specs.List.{All}
use Rattle.std.proofs.lemmas.List.Sums.{list_all-from_AllPass}
use Rattle.std.proofs.lemmas.List.Folds.{list_all-map}
use Rattle.sim_logic.specs.declared.logic.Logic.{Logic}
use Rattle.sim_logic.specs.declared.operator_symbol.Relational.{Relational}
use Rattle.sim_logic.specs.declared.operator_symbol.Logical.{Logical}
use Rattle.sim_flat_design.specs.declared.held.Held.{Held}
use Rattle.sim_flat_design.specs.declared.expression.LogicExpression.{LogicExpression}
use Rattle.sim_flat_design.specs.declared.expression.LogicExpression.TheVariants as l
use Rattle.sim_flat_design.specs.declared.expression.LogicExpression.TheOpen as lo
use Rattle.sim_flat_design.specs.declared.expression.LogicExpression.TheFolds as logic_folds
use Rattle.sim_flat_design.specs.declared.expression.BooleanExpression.{BooleanExpression}
use Rattle.sim_flat_design.specs.declared.expression.BooleanExpression.TheVariants as b
use Rattle.sim_flat_design.specs.declared.expression.BooleanExpression.TheOpen as bo
use Rattle.sim_flat_design.specs.declared.expression.BooleanExpression.TheFolds as boolean_folds
use Rattle.sim_flat_design.specs.declared.waveform.Element.{Element}
use Rattle.sim_flat_design.specs.declared.statement.Delay.{Delay}
use Rattle.sim_flat_design.specs.declared.statement.ConditionalWaveform.{ConditionalWaveform}
use Rattle.sim_flat_design.specs.declared.statement.SignalAssignment.{SignalAssignment}
use Rattle.sim_flat_design.specs.declared.statement.Branch.{Branch, roll-Branch}
use Rattle.sim_flat_design.specs.declared.statement.Statement.{Statement}
use Rattle.sim_flat_design.specs.declared.statement.Statement.TheVariants as s
use Rattle.sim_flat_design.specs.declared.statement.Statement.TheOpen as so
use Rattle.sim_flat_design.specs.declared.statement.Statement.TheFolds as statement_folds
use Rattle.sim_flat_design.specs.Bodies.{waveform_fits, is_rejected, conditional_fits, last_fits}
use Rattle.sim_flat_design.specs.Bodies.{assignment_fits, statement_fits_rule, branch_fits_rule, statement_fits, branch_fits}
use Rattle.sim_flat_design.specs.Bodies.{all, is_bit, is_truth, logic_fits_rule, logic_fits, boolean_fits_rule, boolean_fits}

-- a property of all items, as a list of truth values
pub all_are : {X : Type 0} (f : X → Bool) (xs : List X) → All (λ (x : X). f x ≡ true) xs → all (map f xs) ≡ true
all_are f xs h = list_all-map (λ (b : Bool). b) f xs ∙ list_all-from_AllPass f xs h

both : (a b : Bool) → a ≡ true → b ≡ true → (a && b) ≡ true
both a b p q = rw p q

module _ (objects : ℕ) (variables : List Held) where
  pub logic_literal : (v : Logic) → logic_fits objects variables (l.Literal v) ≡ true
  unfolding logic_fits
  logic_literal v =
      ap (logic_fits objects variables) (sym (l.rolls-Literal v))
      ∙ (logic_folds.fold-roll-LogicExpression Bool (logic_fits_rule objects variables) (lo.Literal v) ∙ refl)

  pub logic_object : (n : ℕ) → nat_lt n objects ≡ true → logic_fits objects variables (l.Object n) ≡ true
  unfolding logic_fits
  logic_object n h0 =
      ap (logic_fits objects variables) (sym (l.rolls-Object n))
      ∙ (logic_folds.fold-roll-LogicExpression Bool (logic_fits_rule objects variables) (lo.Object n) ∙ h0)

  pub logic_variable : (n : ℕ) → is_bit (slice_get variables n) ≡ true → logic_fits objects variables (l.Variable n) ≡ true
  unfolding logic_fits
  logic_variable n h0 =
      ap (logic_fits objects variables) (sym (l.rolls-Variable n))
      ∙ (logic_folds.fold-roll-LogicExpression Bool (logic_fits_rule objects variables) (lo.Variable n) ∙ h0)

  pub logic_not : (x : LogicExpression) → logic_fits objects variables x ≡ true → logic_fits objects variables (l.Not x) ≡ true
  unfolding logic_fits
  logic_not x h0 =
      ap (logic_fits objects variables) (sym (l.rolls-Not x))
      ∙ (logic_folds.fold-roll-LogicExpression Bool (logic_fits_rule objects variables) (lo.Not x) ∙ h0)

  pub logic_chain : (op : Logical) (x : LogicExpression) (ys : List LogicExpression) → logic_fits objects variables x ≡ true
      → All (λ (y : LogicExpression). logic_fits objects variables y ≡ true) ys → logic_fits objects variables (l.Chain op x ys) ≡ true
  unfolding logic_fits
  logic_chain op x ys h0 h1 =
      ap (logic_fits objects variables) (sym (l.rolls-Chain op x ys))
      ∙ (logic_folds.fold-roll-LogicExpression Bool (logic_fits_rule objects variables) (lo.Chain op x ys)
      ∙ both _ _ h0 (all_are (logic_fits objects variables) ys h1))

  pub boolean_literal : (v : Bool) → boolean_fits objects variables (b.Literal v) ≡ true
  unfolding boolean_fits logic_fits
  boolean_literal v =
      ap (boolean_fits objects variables) (sym (b.rolls-Literal v))
      ∙ (boolean_folds.fold-roll-BooleanExpression Bool (boolean_fits_rule objects variables) (bo.Literal v) ∙ refl)

  pub boolean_variable : (n : ℕ) → is_truth (slice_get variables n) ≡ true → boolean_fits objects variables (b.Variable n) ≡ true
  unfolding boolean_fits logic_fits
  boolean_variable n h0 =
      ap (boolean_fits objects variables) (sym (b.rolls-Variable n))
      ∙ (boolean_folds.fold-roll-BooleanExpression Bool (boolean_fits_rule objects variables) (bo.Variable n) ∙ h0)

  pub boolean_event : (n : ℕ) → nat_lt n objects ≡ true → boolean_fits objects variables (b.Event n) ≡ true
  unfolding boolean_fits logic_fits
  boolean_event n h0 =
      ap (boolean_fits objects variables) (sym (b.rolls-Event n))
      ∙ (boolean_folds.fold-roll-BooleanExpression Bool (boolean_fits_rule objects variables) (bo.Event n) ∙ h0)

  pub boolean_edge : (r : Bool) (n : ℕ) → nat_lt n objects ≡ true → boolean_fits objects variables (b.Edge r n) ≡ true
  unfolding boolean_fits logic_fits
  boolean_edge r n h0 =
      ap (boolean_fits objects variables) (sym (b.rolls-Edge r n))
      ∙ (boolean_folds.fold-roll-BooleanExpression Bool (boolean_fits_rule objects variables) (bo.Edge r n) ∙ h0)

  pub boolean_not : (x : BooleanExpression) → boolean_fits objects variables x ≡ true → boolean_fits objects variables (b.Not x) ≡ true
  unfolding boolean_fits logic_fits
  boolean_not x h0 =
      ap (boolean_fits objects variables) (sym (b.rolls-Not x))
      ∙ (boolean_folds.fold-roll-BooleanExpression Bool (boolean_fits_rule objects variables) (bo.Not x) ∙ h0)

  pub boolean_chain : (op : Logical) (x : BooleanExpression) (ys : List BooleanExpression) → boolean_fits objects variables x ≡ true
      → All (λ (y : BooleanExpression). boolean_fits objects variables y ≡ true) ys → boolean_fits objects variables (b.Chain op x ys) ≡ true
  unfolding boolean_fits logic_fits
  boolean_chain op x ys h0 h1 =
      ap (boolean_fits objects variables) (sym (b.rolls-Chain op x ys))
      ∙ (boolean_folds.fold-roll-BooleanExpression Bool (boolean_fits_rule objects variables) (bo.Chain op x ys)
      ∙ both _ _ h0 (all_are (boolean_fits objects variables) ys h1))

  pub condition_fits : (x : LogicExpression) → logic_fits objects variables x ≡ true → boolean_fits objects variables (b.Condition x) ≡ true
  unfolding boolean_fits logic_fits
  condition_fits x h0 =
      ap (boolean_fits objects variables) (sym (b.rolls-Condition x))
      ∙ (boolean_folds.fold-roll-BooleanExpression Bool (boolean_fits_rule objects variables) (bo.Condition x) ∙ h0)

  pub logics_compared : (x : LogicExpression) (op : Relational) (y : LogicExpression) → logic_fits objects variables x ≡ true
      → logic_fits objects variables y ≡ true → boolean_fits objects variables (b.LogicComparison x op y) ≡ true
  unfolding boolean_fits logic_fits
  logics_compared x op y h0 h1 =
      ap (boolean_fits objects variables) (sym (b.rolls-LogicComparison x op y))
      ∙ (boolean_folds.fold-roll-BooleanExpression Bool (boolean_fits_rule objects variables) (bo.LogicComparison x op y) ∙ both _ _ h0 h1)

  pub booleans_compared : (x : BooleanExpression) (op : Relational) (y : BooleanExpression) → boolean_fits objects variables x ≡ true
      → boolean_fits objects variables y ≡ true → boolean_fits objects variables (b.BooleanComparison x op y) ≡ true
  unfolding boolean_fits logic_fits
  booleans_compared x op y h0 h1 =
      ap (boolean_fits objects variables) (sym (b.rolls-BooleanComparison x op y))
      ∙ (boolean_folds.fold-roll-BooleanExpression Bool (boolean_fits_rule objects variables) (bo.BooleanComparison x op y) ∙ both _ _ h0 h1)

-- expressions of std_ulogic
pub ruleset logics_fit = (logic_literal, logic_object, logic_variable, logic_not, logic_chain)

-- expressions of boolean
pub ruleset booleans_fit = (
  boolean_literal,
  boolean_variable,
  boolean_event,
  boolean_edge,
  boolean_not,
  boolean_chain,
  condition_fits,
  logics_compared,
  booleans_compared,
)

module _ (objects : ℕ) (variables : List Held) where
  pub waveform_fitting : (d : Delay) (w : List Element) → is_rejected d w ≡ true
      → All (λ (x : Element). logic_fits objects variables x.value ≡ true) w → waveform_fits objects variables d w ≡ true
  waveform_fitting d w h0 h1 = both _ _ h0 (all_are (λ (x : Element). logic_fits objects variables x.value) w h1)

module _ (objects drivers : ℕ) (variables : List Held) where
  pub assignment_fitting : (a : SignalAssignment) → nat_lt a.driver drivers ≡ true
      → All (λ (c : ConditionalWaveform). conditional_fits objects variables a.delay c ≡ true) a.conditional
      → last_fits objects variables a.delay a.otherwise ≡ true → assignment_fits objects drivers variables a ≡ true
  unfolding assignment_fits
  assignment_fitting a h0 h1 h2 = both _ _ h0 (both _ _ (all_are (conditional_fits objects variables a.delay) a.conditional h1) h2)

  pub signal_fits : (a : SignalAssignment) → assignment_fits objects drivers variables a ≡ true
      → statement_fits objects drivers variables (s.Signal a) ≡ true
  unfolding statement_fits branch_fits
  signal_fits a h0 =
      ap (statement_fits objects drivers variables) (sym (s.rolls-Signal a))
      ∙ (statement_folds.fold-roll-Statement Bool Bool (statement_fits_rule objects drivers variables) (branch_fits_rule objects drivers variables)
      (so.Signal a) ∙ h0)

  pub logic_variable_fits : (n : ℕ) (x : LogicExpression) → is_bit (slice_get variables n) ≡ true
      → logic_fits objects variables x ≡ true
      → statement_fits objects drivers variables (s.LogicVariable n x) ≡ true
  unfolding statement_fits branch_fits
  logic_variable_fits n x h0 h1 =
      ap (statement_fits objects drivers variables) (sym (s.rolls-LogicVariable n x))
      ∙ (statement_folds.fold-roll-Statement Bool Bool (statement_fits_rule objects drivers variables) (branch_fits_rule objects drivers variables)
      (so.LogicVariable n x) ∙ both _ _ h0 h1)

  pub boolean_variable_fits : (n : ℕ) (x : BooleanExpression) → is_truth (slice_get variables n) ≡ true
      → boolean_fits objects variables x ≡ true
      → statement_fits objects drivers variables (s.BooleanVariable n x) ≡ true
  unfolding statement_fits branch_fits
  boolean_variable_fits n x h0 h1 =
      ap (statement_fits objects drivers variables) (sym (s.rolls-BooleanVariable n x))
      ∙ (statement_folds.fold-roll-Statement Bool Bool (statement_fits_rule objects drivers variables) (branch_fits_rule objects drivers variables)
      (so.BooleanVariable n x) ∙ both _ _ h0 h1)

  pub if_fits : (bs : List Branch) (xs : List Statement) → All (λ (b : Branch). branch_fits objects drivers variables b ≡ true) bs
      → All (λ (x : Statement). statement_fits objects drivers variables x ≡ true) xs
      → statement_fits objects drivers variables (s.If bs xs) ≡ true
  unfolding statement_fits branch_fits
  if_fits bs xs h0 h1 =
      ap (statement_fits objects drivers variables) (sym (s.rolls-If bs xs))
      ∙ (statement_folds.fold-roll-Statement Bool Bool (statement_fits_rule objects drivers variables) (branch_fits_rule objects drivers variables)
      (so.If bs xs) ∙ both _ _ (all_are (branch_fits objects drivers variables) bs h0)
      (all_are (statement_fits objects drivers variables) xs h1))

  pub null_fits : statement_fits objects drivers variables s.Null ≡ true
  unfolding statement_fits branch_fits
  null_fits =
      ap (statement_fits objects drivers variables) (sym s.rolls-Null)
      ∙ (statement_folds.fold-roll-Statement Bool Bool (statement_fits_rule objects drivers variables) (branch_fits_rule objects drivers variables)
      so.Null ∙ refl)

  pub branch_fitting : (c : BooleanExpression) (xs : List Statement) → boolean_fits objects variables c ≡ true
      → All (λ (x : Statement). statement_fits objects drivers variables x ≡ true) xs
      → branch_fits objects drivers variables (roll-Branch (record { condition = c; statements = xs })) ≡ true
  unfolding statement_fits branch_fits
  branch_fitting c xs h0 h1 =
      statement_folds.fold-roll-Branch Bool Bool (statement_fits_rule objects drivers variables) (branch_fits_rule objects drivers variables)
      (record { condition = c; statements = xs }) ∙ both _ _ h0 (all_are (statement_fits objects drivers variables) xs h1)

-- statements
pub ruleset statements_fit = (signal_fits, logic_variable_fits, boolean_variable_fits, if_fits, null_fits, branch_fitting)
