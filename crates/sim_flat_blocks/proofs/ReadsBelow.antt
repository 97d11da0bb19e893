-- The objects that a body reads are in range if its references are, and so are its targets if its names are.
use Rattle.std.proofs.Common.{◌≡◌, ℕ, zero, suc, ◌<◌, nat_lt, ◌==◌, ◌&&◌, Bool, true, false, List, [], ◌∷◌, ◌++◌, map, Option, Some, None, refl, sym}
use Rattle.std.proofs.Common.{◌∙◌, subst, arith}
use Rattle.std.specs.List.{concat, list_any}
use Rattle.std.proofs.lemmas.Bool.{ltb-true}
use Rattle.sim_text_tokens.proofs.Tests.{by_cases}
use Rattle.sim_flat_design.specs.declared.held.Held.{Held}
use Rattle.sim_flat_design.specs.declared.expression.LogicExpression.{LogicExpression}
use Rattle.sim_flat_design.specs.declared.expression.LogicExpression.TheOpen as lo
use Rattle.sim_flat_design.specs.declared.expression.LogicExpression.TheFolds as logic_folds
use Rattle.sim_flat_design.specs.declared.expression.LogicExpression.TheViews as logic_views
use Rattle.sim_flat_design.specs.declared.expression.BooleanExpression.{BooleanExpression}
use Rattle.sim_flat_design.specs.declared.expression.BooleanExpression.TheOpen as bo
use Rattle.sim_flat_design.specs.declared.expression.BooleanExpression.TheFolds as boolean_folds
use Rattle.sim_flat_design.specs.declared.expression.BooleanExpression.TheViews as boolean_views
use Rattle.sim_flat_design.specs.declared.waveform.Element.{Element}
use Rattle.sim_flat_design.specs.declared.statement.Delay.{Delay}
use Rattle.sim_flat_design.specs.declared.statement.ConditionalWaveform.{ConditionalWaveform}
use Rattle.sim_flat_design.specs.declared.statement.SignalAssignment.{SignalAssignment}
use Rattle.sim_flat_design.specs.declared.statement.Branch.{Branch}
use Rattle.sim_flat_design.specs.declared.statement.Statement.{Statement}
use Rattle.sim_flat_design.specs.declared.statement.Statement.TheOpen as so
use Rattle.sim_flat_design.specs.declared.statement.Statement.TheFolds as folds
use Rattle.sim_flat_design.specs.declared.statement.Statement.TheViews as views
use Rattle.sim_flat_design.specs.Bodies.{all, is_rejected, assignment_fits, assignment_objects, boolean_fits, boolean_fits_rule, boolean_objects}
use Rattle.sim_flat_design.specs.Bodies.{boolean_objects_rule, branch_fits, branch_fits_rule, branch_objects_rule}
use Rattle.sim_flat_design.specs.Bodies.{conditional_fits, conditional_objects, last_fits, last_objects, logic_fits, logic_fits_rule, logic_objects}
use Rattle.sim_flat_design.specs.Bodies.{logic_objects_rule, objects_of, statement_fits, statement_fits_rule}
use Rattle.sim_flat_design.specs.Bodies.{statement_objects, statement_objects_rule, waveform_fits, waveform_objects}
use Rattle.sim_flat_design.specs.Processes.{rising, with_number}
use Rattle.sim_flat_bodies.specs.Statements.{gathered, with_new}
use Rattle.sim_flat_blocks.specs.Reads.{branch_objects}
use Rattle.sim_flat_blocks.specs.BlockProcesses.{AreThere}

-- each number is below this one
abbrev pub Below : ℕ → List ℕ → Type 0
Below count [] = Unit {0}
Below count (n ∷ ns) = (n < count) × Below count ns

pub below_there : (count : ℕ) (ns : List ℕ) → Below count ns → AreThere count ns
below_there count [] h k d lt = absurd (omega arith)
below_there count (n ∷ ns) h zero d lt = h.0
below_there count (n ∷ ns) h (suc k) d lt = below_there count ns h.1 k d (omega arith)

pub there_below : (count : ℕ) (ns : List ℕ) → AreThere count ns → Below count ns
there_below count [] h = tt
there_below count (n ∷ ns) h = (h 0 0 (omega arith), there_below count ns (λ k d lt. h (suc k) d (omega arith)))

pub below_both : (count : ℕ) (xs ys : List ℕ) → Below count xs → Below count ys → Below count (xs ++ ys)
below_both count [] ys h g = g
below_both count (x ∷ xs) ys h g = (h.0, below_both count xs ys h.1 g)

of_both : (a b : Bool) → (a && b) ≡ true → a ≡ true
of_both true b e = refl
of_both false b e = e

second_of_both : (a b : Bool) → (a && b) ≡ true → b ≡ true
second_of_both true b e = e
second_of_both false b e = cc

-- the objects of several items, each of which fits
module _ {X : Type 0} (count : ℕ) (fit : X → Bool) (named : X → List ℕ) where
  abbrev Kept : X → Type 0
  Kept x = fit x ≡ true → Below count (named x)

  abbrev Parts : Type 0
  Parts = (x : X) × Kept x

  parts_below : (qs : List Parts) → all (map fit (map (λ (q : Parts). q.0) qs)) ≡ true → Below count (concat (map named (map (λ (q : Parts). q.0) qs)))
  parts_below [] e = tt
  parts_below (q ∷ qs) e =
      let rest : List X = map (λ (p : Parts). p.0) qs in
      below_both count (named q.0) (concat (map named rest)) (q.1 (of_both (fit q.0) (all (map fit rest)) e))
      (parts_below qs (second_of_both (fit q.0) (all (map fit rest)) e))

  all_below : ((x : X) → Kept x) → (xs : List X) → all (map fit xs) ≡ true → Below count (concat (map named xs))
  all_below h [] e = tt
  all_below h (x ∷ xs) e =
      below_both count (named x) (concat (map named xs)) (h x (of_both (fit x) (all (map fit xs)) e))
      (all_below h xs (second_of_both (fit x) (all (map fit xs)) e))

module _ (count : ℕ) (vs : List Held) where
  -- ---- expressions of std_ulogic
  abbrev LogicKept : LogicExpression → Type 0
  LogicKept x = logic_fits count vs x ≡ true → Below count (logic_objects x)

  abbrev LogicPart : Type 0
  LogicPart = (x : LogicExpression) × LogicKept x

  logic_step : (z : lo.LogicExpression-F LogicExpression)
      → (logic_fits_rule count vs (logic_folds.map-LogicExpression _ _ (logic_fits count vs) z) ≡ true
      → Below count (logic_objects_rule (logic_folds.map-LogicExpression _ _ logic_objects z))) → LogicKept (logic_views.roll-LogicExpression z)
  unfolding logic_fits logic_objects
  logic_step z h e =
      subst (Below count) (sym (logic_folds.fold-roll-LogicExpression (List ℕ) logic_objects_rule z))
      (h (sym (logic_folds.fold-roll-LogicExpression Bool (logic_fits_rule count vs) z) ∙ e))

  logic_parts : (y : lo.LogicExpression-F LogicPart)
      → LogicKept (logic_views.roll-LogicExpression (logic_folds.map-LogicExpression _ _ (λ (q : LogicPart). q.0) y))
  logic_parts (lo.Literal v) = logic_step (lo.Literal v) (λ e. tt)
  logic_parts (lo.Object n) = logic_step (lo.Object n) (λ e. (ltb-true n count e, tt))
  logic_parts (lo.Variable n) = logic_step (lo.Variable n) (λ e. tt)
  logic_parts (lo.Not q) = logic_step (lo.Not q.0) q.1
  logic_parts (lo.Chain op q qs) =
      let rest : List LogicExpression = map (λ (p : LogicPart). p.0) qs in
      logic_step (lo.Chain op q.0 rest) (λ e.
      below_both count (logic_objects q.0) (concat (map logic_objects rest))
      (q.1 (of_both (logic_fits count vs q.0) (all (map (logic_fits count vs) rest)) e))
      (parts_below count (logic_fits count vs) logic_objects qs (second_of_both (logic_fits count vs q.0) (all (map (logic_fits count vs) rest)) e)))

  logic_below : (x : LogicExpression) → LogicKept x
  logic_below = logic_folds.ind-LogicExpression LogicKept (λ x y is. subst (λ z. LogicKept (logic_views.roll-LogicExpression z)) is (logic_parts y))

  -- ---- expressions of boolean
  abbrev BooleanKept : BooleanExpression → Type 0
  BooleanKept x = boolean_fits count vs x ≡ true → Below count (boolean_objects x)

  abbrev BooleanPart : Type 0
  BooleanPart = (x : BooleanExpression) × BooleanKept x

  boolean_step : (z : bo.BooleanExpression-F BooleanExpression)
      → (boolean_fits_rule count vs (boolean_folds.map-BooleanExpression _ _ (boolean_fits count vs) z) ≡ true
      → Below count (boolean_objects_rule (boolean_folds.map-BooleanExpression _ _ boolean_objects z))) → BooleanKept (boolean_views.roll-BooleanExpression z)
  unfolding boolean_fits boolean_objects
  boolean_step z h e =
      subst (Below count) (sym (boolean_folds.fold-roll-BooleanExpression (List ℕ) boolean_objects_rule z))
      (h (sym (boolean_folds.fold-roll-BooleanExpression Bool (boolean_fits_rule count vs) z) ∙ e))

  boolean_parts : (y : bo.BooleanExpression-F BooleanPart)
      → BooleanKept (boolean_views.roll-BooleanExpression (boolean_folds.map-BooleanExpression _ _ (λ (q : BooleanPart). q.0) y))
  boolean_parts (bo.Literal v) = boolean_step (bo.Literal v) (λ e. tt)
  boolean_parts (bo.Variable n) = boolean_step (bo.Variable n) (λ e. tt)
  boolean_parts (bo.Event n) = boolean_step (bo.Event n) (λ e. (ltb-true n count e, tt))
  boolean_parts (bo.Edge rises n) = boolean_step (bo.Edge rises n) (λ e. (ltb-true n count e, tt))
  boolean_parts (bo.Not q) = boolean_step (bo.Not q.0) q.1
  boolean_parts (bo.Chain op q qs) =
      let rest : List BooleanExpression = map (λ (p : BooleanPart). p.0) qs in
      boolean_step (bo.Chain op q.0 rest) (λ e.
      below_both count (boolean_objects q.0) (concat (map boolean_objects rest))
      (q.1 (of_both (boolean_fits count vs q.0) (all (map (boolean_fits count vs) rest)) e))
      (parts_below count (boolean_fits count vs) boolean_objects qs
      (second_of_both (boolean_fits count vs q.0) (all (map (boolean_fits count vs) rest)) e)))
  boolean_parts (bo.Condition x) = boolean_step (bo.Condition x) (logic_below x)
  boolean_parts (bo.LogicComparison x op y) = boolean_step (bo.LogicComparison x op y) (λ e.
      below_both count (logic_objects x) (logic_objects y) (logic_below x (of_both (logic_fits count vs x) (logic_fits count vs y) e))
      (logic_below y (second_of_both (logic_fits count vs x) (logic_fits count vs y) e)))
  boolean_parts (bo.BooleanComparison q op r) = boolean_step (bo.BooleanComparison q.0 op r.0) (λ e.
      below_both count (boolean_objects q.0) (boolean_objects r.0) (q.1 (of_both (boolean_fits count vs q.0) (boolean_fits count vs r.0) e))
      (r.1 (second_of_both (boolean_fits count vs q.0) (boolean_fits count vs r.0) e)))

  boolean_below : (x : BooleanExpression) → BooleanKept x
  boolean_below = boolean_folds.ind-BooleanExpression BooleanKept
      (λ x y is. subst (λ z. BooleanKept (boolean_views.roll-BooleanExpression z)) is (boolean_parts y))

  -- ---- signal assignments
  waveform_below : (d : Delay) (w : List Element) → waveform_fits count vs d w ≡ true → Below count (waveform_objects w)
  waveform_below d w e =
      all_below count (λ (x : Element). logic_fits count vs x.value) (λ (x : Element). logic_objects x.value) (λ x. logic_below x.value) w
      (second_of_both (is_rejected d w) (all (map (λ (x : Element). logic_fits count vs x.value) w)) e)

  conditional_below : (d : Delay) (c : ConditionalWaveform) → conditional_fits count vs d c ≡ true → Below count (conditional_objects c)
  conditional_below d c e =
      below_both count (boolean_objects c.condition) (waveform_objects c.waveform)
      (boolean_below c.condition (of_both (boolean_fits count vs c.condition) (waveform_fits count vs d c.waveform) e))
      (waveform_below d c.waveform (second_of_both (boolean_fits count vs c.condition) (waveform_fits count vs d c.waveform) e))

  last_below : (d : Delay) (o : Option (List Element)) → last_fits count vs d o ≡ true → Below count (last_objects o)
  last_below d None e = tt
  last_below d (Some w) e = waveform_below d w e

  assignment_below : (drivers : ℕ) (a : SignalAssignment) → assignment_fits count drivers vs a ≡ true → Below count (assignment_objects a)
  unfolding assignment_fits assignment_objects
  assignment_below drivers a e =
      let some : Bool = all (map (conditional_fits count vs a.delay) a.conditional) in
      let last : Bool = last_fits count vs a.delay a.otherwise in
      let f : (some && last) ≡ true = second_of_both (nat_lt a.driver drivers) (some && last) e in
      below_both count (concat (map conditional_objects a.conditional)) (last_objects a.otherwise)
      (all_below count (conditional_fits count vs a.delay) conditional_objects (conditional_below a.delay) a.conditional (of_both some last f))
      (last_below a.delay a.otherwise (second_of_both some last f))

  -- ---- statements
  module _ (drivers : ℕ) where
    abbrev StatementKept : Statement → Type 0
    StatementKept x = statement_fits count drivers vs x ≡ true → Below count (statement_objects x)

    abbrev BranchKept : Branch → Type 0
    BranchKept x = branch_fits count drivers vs x ≡ true → Below count (branch_objects x)

    abbrev StatementPart : Type 0
    StatementPart = (x : Statement) × StatementKept x

    abbrev BranchPart : Type 0
    BranchPart = (x : Branch) × BranchKept x

    statement_step : (z : so.Statement-F Statement Branch)
        → (statement_fits_rule count drivers vs (folds.map-Statement _ _ _ _ (statement_fits count drivers vs) (branch_fits count drivers vs) z) ≡ true
        → Below count (statement_objects_rule (folds.map-Statement _ _ _ _ statement_objects branch_objects z))) → StatementKept (views.roll-Statement z)
    unfolding statement_fits branch_fits statement_objects branch_objects
    statement_step z h e =
        subst (Below count) (sym (folds.fold-roll-Statement (List ℕ) (List ℕ) statement_objects_rule branch_objects_rule z))
        (h (sym (folds.fold-roll-Statement Bool Bool (statement_fits_rule count drivers vs) (branch_fits_rule count drivers vs) z) ∙ e))

    branch_step : (z : so.Branch-F Statement Branch)
        → (branch_fits_rule count drivers vs (folds.map-Branch _ _ _ _ (statement_fits count drivers vs) (branch_fits count drivers vs) z) ≡ true
        → Below count (branch_objects_rule (folds.map-Branch _ _ _ _ statement_objects branch_objects z))) → BranchKept (views.roll-Branch z)
    unfolding statement_fits branch_fits statement_objects branch_objects
    branch_step z h e =
        subst (Below count) (sym (folds.fold-roll-Branch (List ℕ) (List ℕ) statement_objects_rule branch_objects_rule z))
        (h (sym (folds.fold-roll-Branch Bool Bool (statement_fits_rule count drivers vs) (branch_fits_rule count drivers vs) z) ∙ e))

    statement_parts : (y : so.Statement-F StatementPart BranchPart)
        → StatementKept (views.roll-Statement (folds.map-Statement _ _ _ _ (λ (q : StatementPart). q.0) (λ (q : BranchPart). q.0) y))
    statement_parts (so.Signal a) = statement_step (so.Signal a) (assignment_below drivers a)
    statement_parts (so.LogicVariable n x) = statement_step (so.LogicVariable n x) (λ e. logic_below x (second_of_both _ (logic_fits count vs x) e))
    statement_parts (so.BooleanVariable n x) = statement_step (so.BooleanVariable n x) (λ e. boolean_below x (second_of_both _ (boolean_fits count vs x) e))
    statement_parts (so.If bs xs) =
        let branches : List Branch = map (λ (p : BranchPart). p.0) bs in
        let last : List Statement = map (λ (p : StatementPart). p.0) xs in
        statement_step (so.If branches last) (λ e.
        below_both count (concat (map branch_objects branches)) (concat (map statement_objects last))
        (parts_below count (branch_fits count drivers vs) branch_objects bs
        (of_both (all (map (branch_fits count drivers vs) branches)) (all (map (statement_fits count drivers vs) last)) e))
        (parts_below count (statement_fits count drivers vs) statement_objects xs
        (second_of_both (all (map (branch_fits count drivers vs) branches)) (all (map (statement_fits count drivers vs) last)) e)))
    statement_parts so.Null = statement_step so.Null (λ e. tt)

    branch_parts : (y : so.Branch-F StatementPart BranchPart)
        → BranchKept (views.roll-Branch (folds.map-Branch _ _ _ _ (λ (q : StatementPart). q.0) (λ (q : BranchPart). q.0) y))
    branch_parts y =
        let inside : List Statement = map (λ (p : StatementPart). p.0) y.statements in
        branch_step (record { condition = y.condition; statements = inside }) (λ e.
        below_both count (boolean_objects y.condition) (concat (map statement_objects inside))
        (boolean_below y.condition (of_both (boolean_fits count vs y.condition) (all (map (statement_fits count drivers vs) inside)) e))
        (parts_below count (statement_fits count drivers vs) statement_objects y.statements
        (second_of_both (boolean_fits count vs y.condition) (all (map (statement_fits count drivers vs) inside)) e)))

    statement_below : (x : Statement) → StatementKept x
    statement_below = folds.ind-Statement StatementKept BranchKept
        (λ x y is. subst (λ z. StatementKept (views.roll-Statement z)) is (statement_parts y))
        (λ x y is. subst (λ z. BranchKept (views.roll-Branch z)) is (branch_parts y))

    objects_below : (xs : List Statement) → all (map (statement_fits count drivers vs) xs) ≡ true → Below count (objects_of xs)
    unfolding objects_of
    objects_below xs e = all_below count (statement_fits count drivers vs) statement_objects statement_below xs e

-- ---- without repetitions
number_below : (count n : ℕ) (ns : List ℕ) → n < count → Below count ns → Below count (with_number n ns)
unfolding with_number
number_below count n [] lt h = (lt, tt)
number_below count n (x ∷ xs) lt h =
    by_cases (n == x) (λ t. rw t h) (λ t. by_cases (nat_lt n x) (λ s. rw (t, s) (lt, h)) (λ s. rw (t, s) (h.0, number_below count n xs lt h.1)))

rising_below : (count : ℕ) (ns : List ℕ) → Below count ns → Below count (rising ns)
unfolding rising
rising_below count [] h = tt
rising_below count (n ∷ ns) h = number_below count n (rising ns) h.0 (rising_below count ns h.1)

new_below : (count : ℕ) (ns : List ℕ) (n : ℕ) → Below count ns → n < count → Below count (with_new ns n)
unfolding with_new
new_below count ns n h lt =
    by_cases (list_any (λ m. n == m) ns) (λ t. rw t h) (λ t. rw t (below_both count ns (n ∷ []) h (lt, tt)))

pub gathered_below : (count : ℕ) (before ns : List ℕ) → Below count before → Below count ns → Below count (gathered before ns)
unfolding gathered
gathered_below count before [] h g = h
gathered_below count before (n ∷ ns) h g = gathered_below count (with_new before n) ns (new_below count before n h g.0) g.1

pub reads_there : (count drivers : ℕ) (vs : List Held) (xs : List Statement) → all (map (statement_fits count drivers vs) xs) ≡ true
    → AreThere count (rising (objects_of xs))
reads_there count drivers vs xs e = below_there count _ (rising_below count (objects_of xs) (objects_below count vs drivers xs e))
