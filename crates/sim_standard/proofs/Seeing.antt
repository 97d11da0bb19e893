-- Execution depends only on the ports and signals that are named.
use Rattle.std.proofs.Common.{◌≡◌, ℕ, List, [], ◌∷◌, map, fold, Bool, true, false, not, if◌then◌else◌, Option, Some, None, slice_set, refl, sym, ap, ◌∙◌, subst}
use Rattle.std.specs.List.{concat}
use Rattle.sim_logic.specs.declared.logic.Logic.{Logic}
use Rattle.sim_logic.specs.Logic.{is_same}
use Rattle.sim_logic.specs.Tables.{not_table}
use Rattle.sim_flat_design.specs.declared.held.Held.{Held}
use Rattle.sim_flat_design.specs.declared.held.Held.TheVariants as held
use Rattle.sim_flat_design.specs.declared.expression.LogicExpression.{LogicExpression}
use Rattle.sim_flat_design.specs.declared.expression.LogicExpression.TheOpen as lo
use Rattle.sim_flat_design.specs.declared.expression.LogicExpression.TheViews as logic_views
use Rattle.sim_flat_design.specs.declared.expression.LogicExpression.TheFolds as logic_folds
use Rattle.sim_flat_design.specs.declared.expression.BooleanExpression.{BooleanExpression}
use Rattle.sim_flat_design.specs.declared.expression.BooleanExpression.TheOpen as bo
use Rattle.sim_flat_design.specs.declared.expression.BooleanExpression.TheViews as boolean_views
use Rattle.sim_flat_design.specs.declared.expression.BooleanExpression.TheFolds as boolean_folds
use Rattle.sim_flat_design.specs.declared.waveform.Element.{Element}
use Rattle.sim_flat_design.specs.declared.statement.Delay.{Delay}
use Rattle.sim_flat_design.specs.declared.statement.ConditionalWaveform.{ConditionalWaveform}
use Rattle.sim_flat_design.specs.declared.statement.Statement.{Statement}
use Rattle.sim_flat_design.specs.Bodies.{logic_objects, boolean_objects, logic_objects_rule, boolean_objects_rule}
use Rattle.sim_flat_design.specs.Bodies.{waveform_objects, conditional_objects, last_objects, assignment_objects, objects_of}
use Rattle.sim_standard.specs.Drivers.{Transaction}
use Rattle.sim_standard.specs.declared.net_view.NetView.{NetView}
use Rattle.sim_standard.specs.State.{Owned, driver_at}
use Rattle.sim_standard.specs.Expressions.{logic_operation, boolean_operation, relation, condition, is_same_boolean, has_edge, logic_value_rule, logic_value}
use Rattle.sim_standard.specs.Expressions.{boolean_value_rule, boolean_value, element_values, taken_waveform}
use Rattle.sim_standard.specs.Statements.{own_steps, assigned, executed}
use Rattle.sim_standard.proofs.Names.{waveform_assigned}
use Rattle.sim_standard.proofs.Alongside.{Keeps, Each, each_left, each_right, all_go}

module _ (f g : ℕ → NetView) where
  -- those that are seen alike
  abbrev pub Alike : ℕ → Type 0
  Alike n = f n ≡ g n

  module _ (vs : List Held) where
    abbrev LogicSame : LogicExpression → Type 0
    LogicSame x = Each Alike (logic_objects x) → logic_value f vs x ≡ logic_value g vs x

    abbrev LogicPart : Type 0
    LogicPart = (x : LogicExpression) × LogicSame x

    logic_parts_same : (op : Logic → Logic → Logic) (qs : List LogicPart) → let xs : List LogicExpression = map (λ (q : LogicPart). q.0) qs in
        Each Alike (concat (map logic_objects xs)) → (a b : Logic) → a ≡ b
        → fold op a (map (logic_value f vs) xs) ≡ fold op b (map (logic_value g vs) xs)
    logic_parts_same op [] e a b same = same
    logic_parts_same op (q ∷ qs) e a b same =
        let rest : List ℕ = concat (map logic_objects (map (λ (p : LogicPart). p.0) qs)) in
        logic_parts_same op qs (each_right Alike (logic_objects q.0) rest e) (op a (logic_value f vs q.0)) (op b (logic_value g vs q.0))
        (ap (λ (x : Logic). op x (logic_value f vs q.0)) same ∙ ap (op b) (q.1 (each_left Alike (logic_objects q.0) rest e)))

    logic_step : (z : lo.LogicExpression-F LogicExpression)
        → (Each Alike (logic_objects_rule (logic_folds.map-LogicExpression _ _ logic_objects z))
        → logic_value_rule f vs (logic_folds.map-LogicExpression _ _ (logic_value f vs) z)
        ≡ logic_value_rule g vs (logic_folds.map-LogicExpression _ _ (logic_value g vs) z))
        → LogicSame (logic_views.roll-LogicExpression z)
    unfolding logic_value logic_objects
    logic_step z h e =
        logic_folds.fold-roll-LogicExpression Logic (logic_value_rule f vs) z
        ∙ (h (subst (Each Alike) (logic_folds.fold-roll-LogicExpression (List ℕ) logic_objects_rule z) e)
        ∙ sym (logic_folds.fold-roll-LogicExpression Logic (logic_value_rule g vs) z))

    logic_parts : (y : lo.LogicExpression-F LogicPart)
        → LogicSame (logic_views.roll-LogicExpression (logic_folds.map-LogicExpression _ _ (λ (q : LogicPart). q.0) y))
    logic_parts (lo.Literal v) = logic_step (lo.Literal v) (λ e. refl)
    logic_parts (lo.Object n) = logic_step (lo.Object n) (λ e. ap (λ (v : NetView). v.value) e.0)
    logic_parts (lo.Variable n) = logic_step (lo.Variable n) (λ e. refl)
    logic_parts (lo.Not q) = logic_step (lo.Not q.0) (λ e. ap not_table (q.1 e))
    logic_parts (lo.Chain op q qs) =
        let rest : List LogicExpression = map (λ (p : LogicPart). p.0) qs in
        logic_step (lo.Chain op q.0 rest) (λ e.
        logic_parts_same (logic_operation op) qs (each_right Alike (logic_objects q.0) (concat (map logic_objects rest)) e) (logic_value f vs q.0)
        (logic_value g vs q.0)
        (q.1 (each_left Alike (logic_objects q.0) (concat (map logic_objects rest)) e)))

    pub logic_same : (x : LogicExpression) → LogicSame x
    logic_same = logic_folds.ind-LogicExpression LogicSame (λ x y is. subst (λ z. LogicSame (logic_views.roll-LogicExpression z)) is (logic_parts y))

    abbrev BooleanSame : BooleanExpression → Type 0
    BooleanSame x = Each Alike (boolean_objects x) → boolean_value f vs x ≡ boolean_value g vs x

    abbrev BooleanPart : Type 0
    BooleanPart = (x : BooleanExpression) × BooleanSame x

    boolean_parts_same : (op : Bool → Bool → Bool) (qs : List BooleanPart) → let xs : List BooleanExpression = map (λ (q : BooleanPart). q.0) qs in
        Each Alike (concat (map boolean_objects xs)) → (a b : Bool) → a ≡ b
        → fold op a (map (boolean_value f vs) xs) ≡ fold op b (map (boolean_value g vs) xs)
    boolean_parts_same op [] e a b same = same
    boolean_parts_same op (q ∷ qs) e a b same =
        let rest : List ℕ = concat (map boolean_objects (map (λ (p : BooleanPart). p.0) qs)) in
        boolean_parts_same op qs (each_right Alike (boolean_objects q.0) rest e) (op a (boolean_value f vs q.0)) (op b (boolean_value g vs q.0))
        (ap (λ (x : Bool). op x (boolean_value f vs q.0)) same ∙ ap (op b) (q.1 (each_left Alike (boolean_objects q.0) rest e)))

    boolean_step : (z : bo.BooleanExpression-F BooleanExpression)
        → (Each Alike (boolean_objects_rule (boolean_folds.map-BooleanExpression _ _ boolean_objects z))
        → boolean_value_rule f vs (boolean_folds.map-BooleanExpression _ _ (boolean_value f vs) z)
        ≡ boolean_value_rule g vs (boolean_folds.map-BooleanExpression _ _ (boolean_value g vs) z))
        → BooleanSame (boolean_views.roll-BooleanExpression z)
    unfolding boolean_value boolean_objects
    boolean_step z h e =
        boolean_folds.fold-roll-BooleanExpression Bool (boolean_value_rule f vs) z
        ∙ (h (subst (Each Alike) (boolean_folds.fold-roll-BooleanExpression (List ℕ) boolean_objects_rule z) e)
        ∙ sym (boolean_folds.fold-roll-BooleanExpression Bool (boolean_value_rule g vs) z))

    boolean_parts : (y : bo.BooleanExpression-F BooleanPart)
        → BooleanSame (boolean_views.roll-BooleanExpression (boolean_folds.map-BooleanExpression _ _ (λ (q : BooleanPart). q.0) y))
    boolean_parts (bo.Literal v) = boolean_step (bo.Literal v) (λ e. refl)
    boolean_parts (bo.Variable n) = boolean_step (bo.Variable n) (λ e. refl)
    boolean_parts (bo.Event n) = boolean_step (bo.Event n) (λ e. ap (λ (v : NetView). v.event) e.0)
    boolean_parts (bo.Edge rises n) = boolean_step (bo.Edge rises n) (λ e. ap (has_edge rises) e.0)
    boolean_parts (bo.Not q) = boolean_step (bo.Not q.0) (λ e. ap not (q.1 e))
    boolean_parts (bo.Chain op q qs) =
        let rest : List BooleanExpression = map (λ (p : BooleanPart). p.0) qs in
        boolean_step (bo.Chain op q.0 rest) (λ e.
        boolean_parts_same (boolean_operation op) qs (each_right Alike (boolean_objects q.0) (concat (map boolean_objects rest)) e)
        (boolean_value f vs q.0) (boolean_value g vs q.0) (q.1 (each_left Alike (boolean_objects q.0) (concat (map boolean_objects rest)) e)))
    boolean_parts (bo.Condition x) = boolean_step (bo.Condition x) (λ e. ap condition (logic_same x e))
    boolean_parts (bo.LogicComparison x op y) = boolean_step (bo.LogicComparison x op y) (λ e.
        let a = logic_same x (each_left Alike (logic_objects x) (logic_objects y) e) in
        let b = logic_same y (each_right Alike (logic_objects x) (logic_objects y) e) in
        ap (λ (v : Logic). relation op (is_same v (logic_value f vs y))) a ∙ ap (λ (v : Logic). relation op (is_same (logic_value g vs x) v)) b)
    boolean_parts (bo.BooleanComparison q op r) = boolean_step (bo.BooleanComparison q.0 op r.0) (λ e.
        let a = q.1 (each_left Alike (boolean_objects q.0) (boolean_objects r.0) e) in
        let b = r.1 (each_right Alike (boolean_objects q.0) (boolean_objects r.0) e) in
        ap (λ (v : Bool). relation op (is_same_boolean v (boolean_value f vs r.0))) a
        ∙ ap (λ (v : Bool). relation op (is_same_boolean (boolean_value g vs q.0) v)) b)

    pub boolean_same : (x : BooleanExpression) → BooleanSame x
    boolean_same = boolean_folds.ind-BooleanExpression BooleanSame
        (λ x y is. subst (λ z. BooleanSame (boolean_views.roll-BooleanExpression z)) is (boolean_parts y))

    -- ---- waveforms
    elements_same : (w : List Element) → Each Alike (waveform_objects w) → element_values f vs w ≡ element_values g vs w
    elements_same [] e = refl
    elements_same (x ∷ xs) e =
        let rest : List ℕ = waveform_objects xs in
        ap (λ (v : Logic). (x.after, v) ∷ element_values f vs xs) (logic_same x.value (each_left Alike (logic_objects x.value) rest e))
        ∙ ap (λ (ys : List Transaction). (x.after, logic_value g vs x.value) ∷ ys) (elements_same xs (each_right Alike (logic_objects x.value) rest e))

  -- ---- statements
  assigned_same : (now place : ℕ) (d : Delay) (w : List Element) (own : Owned) → Each Alike (waveform_objects w)
      → waveform_assigned f now place d (Some w) own ≡ waveform_assigned g now place d (Some w) own
  assigned_same now place d w own e =
      ap (λ (xs : List Transaction). record own { drivers = slice_set own.drivers place (assigned now d xs (driver_at own.drivers place)) })
      (elements_same own.variables w e)

  last_same : (now place : ℕ) (d : Delay) (o : Option (List Element)) (own : Owned) → Each Alike (last_objects o)
      → waveform_assigned f now place d o own ≡ waveform_assigned g now place d o own
  last_same now place d None own e = refl
  last_same now place d (Some w) own e = assigned_same now place d w own e

  signal_same : (now place : ℕ) (d : Delay) (cs : List ConditionalWaveform) (o : Option (List Element)) (own : Owned)
      → Each Alike (concat (map conditional_objects cs)) → Each Alike (last_objects o)
      → waveform_assigned f now place d (taken_waveform f own.variables cs o) own ≡ waveform_assigned g now place d (taken_waveform g own.variables cs o) own
  unfolding taken_waveform
  signal_same now place d [] o own e l = last_same now place d o own l
  signal_same now place d (c ∷ cs) o own e l =
      let rest : List ℕ = concat (map conditional_objects cs) in
      let here = each_left Alike (conditional_objects c) rest e in
      let cond = each_left Alike (boolean_objects c.condition) (waveform_objects c.waveform) here in
      let wave = each_right Alike (boolean_objects c.condition) (waveform_objects c.waveform) here in
      go (boolean_value f own.variables c.condition) (boolean_value g own.variables c.condition) (boolean_same own.variables c.condition cond)
      (assigned_same now place d c.waveform own wave) (signal_same now place d cs o own (each_right Alike (conditional_objects c) rest e) l)
    where
      go : (a b : Bool) → a ≡ b → waveform_assigned f now place d (Some c.waveform) own ≡ waveform_assigned g now place d (Some c.waveform) own
          → waveform_assigned f now place d (taken_waveform f own.variables cs o) own
          ≡ waveform_assigned g now place d (taken_waveform g own.variables cs o) own
          → waveform_assigned f now place d (if a then Some c.waveform else taken_waveform f own.variables cs o) own
          ≡ waveform_assigned g now place d (if b then Some c.waveform else taken_waveform g own.variables cs o) own
      go true true e p q = p
      go true false e p q = absurd cc
      go false true e p q = absurd cc
      go false false e p q = q

  keeps : (now : ℕ) → Keeps (own_steps f now) (own_steps g now) Alike (λ (a b : Owned). a ≡ b)
  unfolding assignment_objects
  keeps now = record {
    holds = λ c e a b is. boolean_same a.variables c e ∙ ap (λ (o : Owned). boolean_value g o.variables c) is;
    signal = λ x e a b is.
        signal_same now x.driver x.delay x.conditional x.otherwise a
        (each_left Alike (concat (map conditional_objects x.conditional)) (last_objects x.otherwise) e)
        (each_right Alike (concat (map conditional_objects x.conditional)) (last_objects x.otherwise) e)
        ∙ ap ((own_steps g now).signal x) is;
    logic_variable = λ n x e a b is.
        ap (λ (v : Logic). record a { variables = slice_set a.variables n (held.Bit v) }) (logic_same a.variables x e)
        ∙ ap ((own_steps g now).logic_variable n x) is;
    boolean_variable = λ n x e a b is.
        ap (λ (v : Bool). record a { variables = slice_set a.variables n (held.Truth v) }) (boolean_same a.variables x e)
        ∙ ap ((own_steps g now).boolean_variable n x) is;
  }

  -- if all that is named is seen alike, statements leave the same
  pub executed_same : (now : ℕ) (xs : List Statement) (own : Owned) → Each Alike (objects_of xs) → executed f now xs own ≡ executed g now xs own
  unfolding executed
  executed_same now xs own e = all_go (own_steps f now) (own_steps g now) Alike (λ (a b : Owned). a ≡ b) (keeps now) xs e own own refl
