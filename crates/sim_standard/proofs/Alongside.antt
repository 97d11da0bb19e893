-- Statements carried out on two things keep a relation between these, if each step keeps it.
use Rattle.std.proofs.Common.{◌≡◌, ℕ, List, [], ◌∷◌, ◌++◌, map, Bool, true, false, if◌then◌else◌, sym, subst}
use Rattle.std.specs.List.{concat}
use Rattle.sim_flat_design.specs.declared.expression.LogicExpression.{LogicExpression}
use Rattle.sim_flat_design.specs.declared.expression.BooleanExpression.{BooleanExpression}
use Rattle.sim_flat_design.specs.declared.statement.SignalAssignment.{SignalAssignment}
use Rattle.sim_flat_design.specs.declared.statement.Branch.{Branch}
use Rattle.sim_flat_design.specs.declared.statement.Statement.{Statement}
use Rattle.sim_flat_design.specs.declared.statement.Statement.TheOpen as so
use Rattle.sim_flat_design.specs.declared.statement.Statement.TheViews as views
use Rattle.sim_flat_design.specs.declared.statement.Statement.TheFolds as folds
use Rattle.sim_flat_design.specs.Bodies.{logic_objects, boolean_objects, assignment_objects, statement_objects_rule, branch_objects_rule}
use Rattle.sim_flat_design.specs.Bodies.{statement_objects, objects_of}
use Rattle.sim_standard.specs.Statements.{Steps, Guarded, in_turn, if_taken, statement_rule, branch_rule, statement_done, branch_done, carried_out}

-- each number has the property
abbrev pub Each : (ℕ → Type 0) → List ℕ → Type 0
Each P [] = Unit {0}
Each P (n ∷ ns) = P n × Each P ns

pub each_left : (P : ℕ → Type 0) (ms ns : List ℕ) → Each P (ms ++ ns) → Each P ms
each_left P [] ns h = tt
each_left P (m ∷ ms) ns h = (h.0, each_left P ms ns h.1)

pub each_right : (P : ℕ → Type 0) (ms ns : List ℕ) → Each P (ms ++ ns) → Each P ns
each_right P [] ns h = h
each_right P (m ∷ ms) ns h = each_right P ms ns h.1

pub each_of_all : (P : ℕ → Type 0) → ((n : ℕ) → P n) → (ns : List ℕ) → Each P ns
each_of_all P h [] = tt
each_of_all P h (n ∷ ns) = (h n, each_of_all P h ns)

-- the ports and signals that a branch names
unfoldable pub branch_objects : Branch → List ℕ
branch_objects = folds.fold-Branch (List ℕ) (List ℕ) statement_objects_rule branch_objects_rule

-- the steps on both sides keep the relation, if they name only such ports and signals
pub record Keeps {S T : Type 0} (one : Steps S) (other : Steps T) (P : ℕ → Type 0) (R : S → T → Type 0) : Type 0 where
  pub holds : (c : BooleanExpression) → Each P (boolean_objects c) → (s : S) (t : T) → R s t → one.holds c s ≡ other.holds c t
  pub signal : (a : SignalAssignment) → Each P (assignment_objects a) → (s : S) (t : T) → R s t → R (one.signal a s) (other.signal a t)
  pub logic_variable : (n : ℕ) (x : LogicExpression) → Each P (logic_objects x) → (s : S) (t : T) → R s t
      → R (one.logic_variable n x s) (other.logic_variable n x t)
  pub boolean_variable : (n : ℕ) (x : BooleanExpression) → Each P (boolean_objects x) → (s : S) (t : T) → R s t
      → R (one.boolean_variable n x s) (other.boolean_variable n x t)

module _ {S T : Type 0} (one : Steps S) (other : Steps T) (P : ℕ → Type 0) (R : S → T → Type 0) (keeps : Keeps one other P R) where
  abbrev Goes : Statement → Type 0
  Goes x = Each P (statement_objects x) → (s : S) (t : T) → R s t → R (statement_done one x s) (statement_done other x t)

  -- a branch is taken on both sides or on neither
  abbrev BranchGoes : Branch → Type 0
  BranchGoes b = Each P (branch_objects b) → (s : S) (t : T) → R s t
      → ((branch_done one b).holds s ≡ (branch_done other b).holds t) × R ((branch_done one b).carried_out s) ((branch_done other b).carried_out t)

  abbrev Part : Type 0
  Part = (x : Statement) × Goes x

  abbrev BranchPart : Type 0
  BranchPart = (b : Branch) × BranchGoes b

  chosen : (a b : Bool) (s s' : S) (t t' : T) → a ≡ b → R s t → R s' t' → R (if a then s else s') (if b then t else t')
  chosen true true s s' t t' e p q = p
  chosen true false s s' t t' e p q = absurd cc
  chosen false true s s' t t' e p q = absurd cc
  chosen false false s s' t t' e p q = q

  parts_in_turn : (qs : List Part) → let xs : List Statement = map (λ (q : Part). q.0) qs in
      Each P (concat (map statement_objects xs)) → (s : S) (t : T) → R s t
      → R (in_turn (map (statement_done one) xs) s) (in_turn (map (statement_done other) xs) t)
  unfolding in_turn
  parts_in_turn [] e s t r = r
  parts_in_turn (q ∷ qs) e s t r =
      let rest : List ℕ = concat (map statement_objects (map (λ (p : Part). p.0) qs)) in
      parts_in_turn qs (each_right P (statement_objects q.0) rest e) (statement_done one q.0 s) (statement_done other q.0 t)
      (q.1 (each_left P (statement_objects q.0) rest e) s t r)

  parts_taken : (qs : List BranchPart) (f : S → S) (g : T → T) → let bs : List Branch = map (λ (q : BranchPart). q.0) qs in
      Each P (concat (map branch_objects bs)) → (s : S) (t : T) → R s t → R (f s) (g t)
      → R (if_taken (map (branch_done one) bs) f s) (if_taken (map (branch_done other) bs) g t)
  unfolding if_taken
  parts_taken [] f g e s t r last = last
  parts_taken (q ∷ qs) f g e s t r last =
      let rest : List ℕ = concat (map branch_objects (map (λ (p : BranchPart). p.0) qs)) in
      let first = q.1 (each_left P (branch_objects q.0) rest e) s t r in
      chosen ((branch_done one q.0).holds s) ((branch_done other q.0).holds t) _ _ _ _ first.0 first.1
      (parts_taken qs f g (each_right P (branch_objects q.0) rest e) s t r last)

  step : (z : so.Statement-F Statement Branch)
      → (Each P (statement_objects_rule (folds.map-Statement _ _ _ _ statement_objects branch_objects z)) → (s : S) (t : T) → R s t
      → R (statement_rule one (folds.map-Statement _ _ _ _ (statement_done one) (branch_done one) z) s)
      (statement_rule other (folds.map-Statement _ _ _ _ (statement_done other) (branch_done other) z) t))
      → Goes (views.roll-Statement z)
  unfolding statement_objects branch_objects statement_done branch_done
  step z h e s t r =
      let p = folds.fold-roll-Statement (S → S) (Guarded S) (statement_rule one) (branch_rule one) z in
      let q = folds.fold-roll-Statement (T → T) (Guarded T) (statement_rule other) (branch_rule other) z in
      subst (λ (f : S → S). R (f s) (statement_done other (views.roll-Statement z) t)) (sym p)
      (subst (λ (g : T → T). R (statement_rule one (folds.map-Statement _ _ _ _ (statement_done one) (branch_done one) z) s) (g t)) (sym q)
      (h (subst (Each P) (folds.fold-roll-Statement (List ℕ) (List ℕ) statement_objects_rule branch_objects_rule z) e) s t r))

  branch_step : (z : so.Branch-F Statement Branch)
      → (Each P (branch_objects_rule (folds.map-Branch _ _ _ _ statement_objects branch_objects z)) → (s : S) (t : T) → R s t
      → let f : Guarded S = branch_rule one (folds.map-Branch _ _ _ _ (statement_done one) (branch_done one) z) in
      let g : Guarded T = branch_rule other (folds.map-Branch _ _ _ _ (statement_done other) (branch_done other) z) in
      (f.holds s ≡ g.holds t) × R (f.carried_out s) (g.carried_out t))
      → BranchGoes (views.roll-Branch z)
  unfolding statement_objects branch_objects statement_done branch_done
  branch_step z h e s t r =
      let p = folds.fold-roll-Branch (S → S) (Guarded S) (statement_rule one) (branch_rule one) z in
      let q = folds.fold-roll-Branch (T → T) (Guarded T) (statement_rule other) (branch_rule other) z in
      let Both = λ (f : Guarded S) (g : Guarded T). (f.holds s ≡ g.holds t) × R (f.carried_out s) (g.carried_out t) in
      subst (λ (f : Guarded S). Both f (branch_done other (views.roll-Branch z))) (sym p)
      (subst (λ (g : Guarded T). Both (branch_rule one (folds.map-Branch _ _ _ _ (statement_done one) (branch_done one) z)) g) (sym q)
      (h (subst (Each P) (folds.fold-roll-Branch (List ℕ) (List ℕ) statement_objects_rule branch_objects_rule z) e) s t r))

  parts : (y : so.Statement-F Part BranchPart) → Goes (views.roll-Statement (folds.map-Statement _ _ _ _ (λ (q : Part). q.0) (λ (q : BranchPart). q.0) y))
  parts (so.Signal a) = step (so.Signal a) (keeps.signal a)
  parts (so.LogicVariable n x) = step (so.LogicVariable n x) (keeps.logic_variable n x)
  parts (so.BooleanVariable n x) = step (so.BooleanVariable n x) (keeps.boolean_variable n x)
  parts (so.If bs xs) =
      let branches : List Branch = map (λ (p : BranchPart). p.0) bs in
      let last : List Statement = map (λ (p : Part). p.0) xs in
      step (so.If branches last) (λ e s t r.
      parts_taken bs (in_turn (map (statement_done one) last)) (in_turn (map (statement_done other) last))
      (each_left P (concat (map branch_objects branches)) (concat (map statement_objects last)) e) s t r
      (parts_in_turn xs (each_right P (concat (map branch_objects branches)) (concat (map statement_objects last)) e) s t r))
  parts so.Null = step so.Null (λ e s t r. r)

  branch_parts : (y : so.Branch-F Part BranchPart) → BranchGoes (views.roll-Branch (folds.map-Branch _ _ _ _ (λ (q : Part). q.0) (λ (q : BranchPart). q.0) y))
  branch_parts y =
      let inside : List Statement = map (λ (p : Part). p.0) y.statements in
      branch_step (record { condition = y.condition; statements = inside }) (λ e s t r. (
        keeps.holds y.condition (each_left P (boolean_objects y.condition) (concat (map statement_objects inside)) e) s t r,
        parts_in_turn y.statements (each_right P (boolean_objects y.condition) (concat (map statement_objects inside)) e) s t r,
      ))

  pub goes : (x : Statement) → Goes x
  goes = folds.ind-Statement Goes BranchGoes
      (λ x y is. subst (λ z. Goes (views.roll-Statement z)) is (parts y))
      (λ x y is. subst (λ z. BranchGoes (views.roll-Branch z)) is (branch_parts y))

  -- and so do sequences of them
  pub all_go : (xs : List Statement) → Each P (objects_of xs) → (s : S) (t : T) → R s t → R (carried_out one xs s) (carried_out other xs t)
  unfolding objects_of in_turn
  all_go [] e s t r = r
  all_go (x ∷ xs) e s t r =
      let rest : List ℕ = concat (map statement_objects xs) in
      all_go xs (each_right P (statement_objects x) rest e) (statement_done one x s) (statement_done other x t)
      (goes x (each_left P (statement_objects x) rest e) s t r)
