-- If a body keeps to the objects, drivers and variables that there are, so do its parts.
use Rattle.std.proofs.Common.{◌≡◌, ◌<◌, ℕ, zero, suc, set, ◌&&◌, nat_lt, List, [], ◌∷◌, map, Bool, true, false, Option, Some, slice_get, get_or}
use Rattle.std.proofs.Common.{refl, sym, ap, ◌∙◌, subst, arith}
use Rattle.std.specs.List.{All}
use Rattle.std.proofs.lemmas.List.{map-set, set-get_or}
use Rattle.std.proofs.lemmas.List.Elements.{All-weaker}
use Rattle.std.proofs.lemmas.List.Sums.{AllPass-from_list_all}
use Rattle.std.proofs.lemmas.List.Folds.{list_all-map}
use Rattle.std.proofs.lemmas.Bool.Decides.{nat_tests}
use Rattle.sim_logic.specs.declared.logic.Logic.{Logic}
use Rattle.sim_exec_statements.specs.Ready.{holds_bit}
use Rattle.sim_flat_design.specs.declared.held.Held.{Held}
use Rattle.sim_flat_design.specs.declared.held.Held.TheVariants as held
use Rattle.sim_flat_design.specs.declared.expression.LogicExpression.{LogicExpression}
use Rattle.sim_flat_design.specs.declared.expression.BooleanExpression.{BooleanExpression}
use Rattle.sim_flat_design.specs.declared.waveform.Element.{Element}
use Rattle.sim_flat_design.specs.declared.statement.Delay.{Delay}
use Rattle.sim_flat_design.specs.declared.statement.Delay.TheVariants as mechanism
use Rattle.sim_flat_design.specs.declared.statement.ConditionalWaveform.{ConditionalWaveform}
use Rattle.sim_flat_design.specs.declared.statement.SignalAssignment.{SignalAssignment}
use Rattle.sim_flat_design.specs.declared.statement.Branch.{Branch}
use Rattle.sim_flat_design.specs.declared.statement.Statement.{Statement}
use Rattle.sim_flat_design.specs.declared.statement.Statement.TheVariants as s
use Rattle.sim_flat_design.specs.declared.statement.Statement.TheOpen as so
use Rattle.sim_flat_design.specs.declared.statement.Statement.TheViews as views
use Rattle.sim_flat_design.specs.declared.statement.Statement.TheFolds as folds
use Rattle.sim_flat_design.specs.Waveforms.{IsRejected}
use Rattle.sim_flat_design.specs.Bodies.{all, is_bit, is_truth, is_rejected, conditional_fits, last_fits, boolean_fits, logic_fits}
use Rattle.sim_flat_design.specs.Bodies.{assignment_fits, statement_fits_rule, branch_fits_rule, statement_fits, branch_fits, Body, fits}

pub left : (a b : Bool) → (a && b) ≡ true → a ≡ true
left true b e = refl
left false b e = e

pub right : (a b : Bool) → (a && b) ≡ true → b ≡ true
right true b e = e
right false b e = absurd cc

-- if a test passes for a whole list, it passes for each element
pub each_is : {X : Type 0} (f : X → Bool) (xs : List X) → all (map f xs) ≡ true → All (λ (x : X). f x ≡ true) xs
each_is f xs h = AllPass-from_list_all f xs (sym (list_all-map (λ (b : Bool). b) f xs) ∙ h)

pub is_rejected-IsRejected : (d : Delay) (w : List Element) → is_rejected d w ≡ true → IsRejected d w
is_rejected-IsRejected mechanism.Transport w h = tt
is_rejected-IsRejected mechanism.Inertial w h = tt
is_rejected-IsRejected (mechanism.Reject limit) w h = grind (arith, nat_tests)

module _ (b : Body) where
  -- ---- an assignment

  pub driver_within : (a : SignalAssignment) → assignment_fits b.objects b.drivers b.variables a ≡ true → a.driver < b.drivers
  unfolding assignment_fits
  driver_within a h = let w : nat_lt a.driver b.drivers ≡ true = left (nat_lt a.driver b.drivers) _ h in grind (arith, nat_tests)

  pub all_rejected : (a : SignalAssignment) → assignment_fits b.objects b.drivers b.variables a ≡ true
      → All (λ (c : ConditionalWaveform). IsRejected a.delay c.waveform) a.conditional
  unfolding assignment_fits
  all_rejected a h =
      let each = each_is (conditional_fits b.objects b.variables a.delay) a.conditional (left _ _ (right (nat_lt a.driver b.drivers) _ h)) in
      All-weaker (λ (c : ConditionalWaveform). conditional_fits b.objects b.variables a.delay c ≡ true)
      (λ (c : ConditionalWaveform). IsRejected a.delay c.waveform)
      (λ c p. is_rejected-IsRejected a.delay c.waveform (left _ _ (right (boolean_fits b.objects b.variables c.condition) _ p))) a.conditional each

  pub last_rejected : (a : SignalAssignment) (w : List Element) → a.otherwise ≡ Some w → assignment_fits b.objects b.drivers b.variables a ≡ true
      → IsRejected a.delay w
  unfolding assignment_fits
  last_rejected a w e h =
      let x : last_fits b.objects b.variables a.delay a.otherwise ≡ true = right _ _ (right (nat_lt a.driver b.drivers) _ h) in
      is_rejected-IsRejected a.delay w (left _ _ (subst (λ (o : Option (List Element)). last_fits b.objects b.variables a.delay o ≡ true) e x))

  -- ---- statements

  abbrev pub FitAll : List Statement → Type 0
  FitAll statements = All (λ (x : Statement). statement_fits b.objects b.drivers b.variables x ≡ true) statements

  abbrev pub FitBranches : List Branch → Type 0
  FitBranches branches = All (λ (x : Branch). branch_fits b.objects b.drivers b.variables x ≡ true) branches

  pub signal_fits : (a : SignalAssignment) → statement_fits b.objects b.drivers b.variables (s.Signal a) ≡ true
      → assignment_fits b.objects b.drivers b.variables a ≡ true
  unfolding statement_fits branch_fits
  signal_fits a h =
      sym (folds.fold-roll-Statement Bool Bool (statement_fits_rule b.objects b.drivers b.variables)
      (branch_fits_rule b.objects b.drivers b.variables) (so.Signal a))
      ∙ (ap (statement_fits b.objects b.drivers b.variables) (s.rolls-Signal a) ∙ h)

  pub logic_variable_fits : (place : ℕ) (value : LogicExpression) → statement_fits b.objects b.drivers b.variables (s.LogicVariable place value) ≡ true
      → is_bit (slice_get b.variables place) ≡ true
  unfolding statement_fits branch_fits
  logic_variable_fits place value h =
      left _ (logic_fits b.objects b.variables value)
      (sym (folds.fold-roll-Statement Bool Bool (statement_fits_rule b.objects b.drivers b.variables)
      (branch_fits_rule b.objects b.drivers b.variables) (so.LogicVariable place value))
      ∙ (ap (statement_fits b.objects b.drivers b.variables) (s.rolls-LogicVariable place value) ∙ h))

  pub boolean_variable_fits : (place : ℕ) (value : BooleanExpression) → statement_fits b.objects b.drivers b.variables (s.BooleanVariable place value) ≡ true
      → is_truth (slice_get b.variables place) ≡ true
  unfolding statement_fits branch_fits
  boolean_variable_fits place value h =
      left _ (boolean_fits b.objects b.variables value)
      (sym (folds.fold-roll-Statement Bool Bool (statement_fits_rule b.objects b.drivers b.variables)
      (branch_fits_rule b.objects b.drivers b.variables) (so.BooleanVariable place value))
      ∙ (ap (statement_fits b.objects b.drivers b.variables) (s.rolls-BooleanVariable place value) ∙ h))

  pub if_fits : (branches : List Branch) (otherwise : List Statement) → statement_fits b.objects b.drivers b.variables (s.If branches otherwise) ≡ true
      → FitBranches branches × FitAll otherwise
  unfolding statement_fits branch_fits
  if_fits branches otherwise h =
      let e = sym (folds.fold-roll-Statement Bool Bool (statement_fits_rule b.objects b.drivers b.variables)
      (branch_fits_rule b.objects b.drivers b.variables) (so.If branches otherwise))
      ∙ (ap (statement_fits b.objects b.drivers b.variables) (s.rolls-If branches otherwise) ∙ h) in (
        each_is (branch_fits b.objects b.drivers b.variables) branches (left _ _ e),
        each_is (statement_fits b.objects b.drivers b.variables) otherwise (right (all (map (branch_fits b.objects b.drivers b.variables) branches)) _ e),
      )

  pub branch_statements_fit : (x : Branch) → branch_fits b.objects b.drivers b.variables x ≡ true → FitAll (views.out-Branch x).statements
  unfolding statement_fits branch_fits
  branch_statements_fit x h =
      each_is (statement_fits b.objects b.drivers b.variables) (views.out-Branch x).statements
      (right (boolean_fits b.objects b.variables (views.out-Branch x).condition) _
      (sym (folds.fold_out-Branch Bool Bool (statement_fits_rule b.objects b.drivers b.variables) (branch_fits_rule b.objects b.drivers b.variables) x) ∙ h))

  pub body_fits : fits b ≡ true → FitAll b.statements
  unfolding fits
  body_fits h = each_is (statement_fits b.objects b.drivers b.variables) b.statements h

-- ---- variables keep their types

bit_there : (vs : List Held) (n : ℕ) → is_bit (slice_get vs n) ≡ true → get_or (map holds_bit vs) n true ≡ true
bit_there [] n h = refl
bit_there (held.Bit v ∷ vs) zero h = refl
bit_there (held.Truth v ∷ vs) zero h = absurd cc
bit_there (v ∷ vs) (suc n) h = bit_there vs n h

truth_there : (vs : List Held) (n : ℕ) → is_truth (slice_get vs n) ≡ true → get_or (map holds_bit vs) n false ≡ false
truth_there [] n h = refl
truth_there (held.Bit v ∷ vs) zero h = absurd cc
truth_there (held.Truth v ∷ vs) zero h = refl
truth_there (v ∷ vs) (suc n) h = truth_there vs n h

kept : (vs ws : List Held) (n : ℕ) (v : Held) → map holds_bit ws ≡ map holds_bit vs → get_or (map holds_bit vs) n (holds_bit v) ≡ holds_bit v
    → map holds_bit (set ws n v) ≡ map holds_bit vs
kept vs ws n v same there =
    map-set holds_bit ws n v ∙ (ap (λ (ms : List Bool). set ms n (holds_bit v)) same
    ∙ (ap (set (map holds_bit vs) n) (sym there) ∙ set-get_or (map holds_bit vs) n (holds_bit v)))

pub bit_kept : (vs ws : List Held) (n : ℕ) (value : Logic) → is_bit (slice_get vs n) ≡ true → map holds_bit ws ≡ map holds_bit vs
    → map holds_bit (set ws n (held.Bit value)) ≡ map holds_bit vs
bit_kept vs ws n value h same = kept vs ws n (held.Bit value) same (bit_there vs n h)

pub truth_kept : (vs ws : List Held) (n : ℕ) (value : Bool) → is_truth (slice_get vs n) ≡ true → map holds_bit ws ≡ map holds_bit vs
    → map holds_bit (set ws n (held.Truth value)) ≡ map holds_bit vs
truth_kept vs ws n value h same = kept vs ws n (held.Truth value) same (truth_there vs n h)

-- the rules for statements
pub ruleset statements_fit = (signal_fits, logic_variable_fits, boolean_variable_fits, if_fits)
