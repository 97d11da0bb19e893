-- The translation and the targets of each statement, as equations, by its variants.
use Rattle.std.proofs.Common.{◌≡◌, ℕ, ◌+◌, ◌<◌, ◌++◌, List, [], ◌∷◌, length, drop, get_or, map, Bool, Option, Some, None, refl, sym, ap, ◌∙◌}
use Rattle.std.proofs.lemmas.List.{drop_more, append-nil}
use Rattle.std.specs.List.{concat}
use Rattle.sim_flat_scope.specs.Scopes.{Lookup}
use Rattle.sim_text_tree.specs.declared.sequential.SignalAssignment.{SignalAssignment}
use Rattle.sim_text_tree.specs.declared.sequential.VariableAssignment.{VariableAssignment}
use Rattle.sim_text_tree.specs.declared.sequential.Sequential.{Sequential}
use Rattle.sim_text_tree.specs.declared.sequential.Branch.{Branch}
use Rattle.sim_text_tree.specs.declared.sequential.Statement.{Statement}
use Rattle.sim_text_tree.specs.declared.sequential.Statement.TheVariants as s
use Rattle.sim_text_tree.specs.declared.sequential.Statement.TheOpen as o
use Rattle.sim_text_tree.specs.declared.sequential.Statement.TheFolds as folds
use Rattle.sim_text_tree.specs.declared.sequential.Statement.TheViews as views
use Rattle.sim_flat_design.specs.declared.statement.Branch as design
use Rattle.sim_flat_design.specs.declared.statement.Branch.{roll-Branch}
use Rattle.sim_flat_design.specs.declared.statement.Statement as design_statement
use Rattle.sim_flat_design.specs.declared.statement.Statement.TheVariants as d
use Rattle.sim_flat_bodies.specs.Expressions.{condition_of}
use Rattle.sim_flat_bodies.specs.Statements as spec
use Rattle.sim_flat_bodies.specs.Statements.{branches_targets, sequence_targets, gathered, with_new}
use Rattle.sim_flat_bodies.specs.Statements.{statement_targets, branch_targets, sequential_targets, target_of}
use Rattle.sim_flat_bodies.specs.Statements.{signal_of, variable_of, statement_of, branch_of, sequential_of}

-- ---- targets

-- numbers can be gathered piece by piece
pub gathered_both : (old xs ys : List ℕ) → gathered old (xs ++ ys) ≡ gathered (gathered old xs) ys
unfolding gathered
gathered_both old [] ys = refl
gathered_both old (x ∷ xs) ys = gathered_both (with_new old x) xs ys

-- one iteration of a loop that gathers the numbers of each item
pub gathers_more : {X : Type 0} (all : List X → List ℕ) (each : X → List ℕ) → ((x : X) (xs : List X) → all (x ∷ xs) ≡ each x ++ all xs)
    → (xs : List X) (i : ℕ) (x : X) → i < length xs → x ≡ get_or xs i x → (known more start : List ℕ)
    → more ≡ gathered known (each x) → gathered known (all (drop i xs)) ≡ start → gathered more (all (drop (i + 1) xs)) ≡ start
gathers_more {X} all each cons xs i x lt is known more start step so_far =
    let rest : List X = drop (i + 1) xs in
    ap (λ (f : List ℕ). gathered f (all rest)) step
    ∙ (sym (gathered_both known (each x) (all rest))
    ∙ (ap (gathered known) (sym (cons x rest) ∙ ap all (ap (λ (y : X). y ∷ rest) is ∙ sym (drop_more xs i x lt)))
    ∙ so_far))

module _ (look : Lookup) where
  pub signal_targets : (a : SignalAssignment) → statement_targets look (s.Signal a) ≡ target_of (look a.target.text)
  unfolding statement_targets branch_targets sequential_targets
  signal_targets a = ap (statement_targets look) (sym (s.rolls-Signal a))
      ∙ folds.fold-roll-Statement (List ℕ) (List ℕ) (List ℕ) (spec.statement_targets_rule look)
      (spec.branch_targets_rule look) (spec.sequential_targets_rule look) (o.Signal a)

  pub variable_targets : (a : VariableAssignment) → statement_targets look (s.Variable a) ≡ []
  unfolding statement_targets branch_targets sequential_targets
  variable_targets a = ap (statement_targets look) (sym (s.rolls-Variable a))
      ∙ folds.fold-roll-Statement (List ℕ) (List ℕ) (List ℕ) (spec.statement_targets_rule look)
      (spec.branch_targets_rule look) (spec.sequential_targets_rule look) (o.Variable a)

  if_else_targets : (bs : List Branch) (xs : List Sequential) (again : Bool) → statement_targets look (s.If bs (Some xs) again)
      ≡ concat (map (branch_targets look) bs) ++ concat (map (sequential_targets look) xs)
  unfolding statement_targets branch_targets sequential_targets
  if_else_targets bs xs again = ap (statement_targets look) (sym (s.rolls-If bs (Some xs) again))
      ∙ folds.fold-roll-Statement (List ℕ) (List ℕ) (List ℕ) (spec.statement_targets_rule look)
      (spec.branch_targets_rule look) (spec.sequential_targets_rule look) (o.If bs (Some xs) again)

  if_only_targets : (bs : List Branch) (again : Bool) → statement_targets look (s.If bs None again) ≡ concat (map (branch_targets look) bs) ++ []
  unfolding statement_targets branch_targets sequential_targets
  if_only_targets bs again = ap (statement_targets look) (sym (s.rolls-If bs None again))
      ∙ folds.fold-roll-Statement (List ℕ) (List ℕ) (List ℕ) (spec.statement_targets_rule look)
      (spec.branch_targets_rule look) (spec.sequential_targets_rule look) (o.If bs None again)

  pub null_targets : statement_targets look s.Null ≡ []
  unfolding statement_targets branch_targets sequential_targets
  null_targets = ap (statement_targets look) (sym s.rolls-Null) ∙ folds.fold-roll-Statement (List ℕ) (List ℕ) (List ℕ) (spec.statement_targets_rule look)
      (spec.branch_targets_rule look) (spec.sequential_targets_rule look) o.Null

  branch_targets_are : (b : Branch) → branch_targets look b ≡ concat (map (sequential_targets look) (views.out-Branch b).statements)
  unfolding statement_targets branch_targets sequential_targets
  branch_targets_are b = folds.fold_out-Branch (List ℕ) (List ℕ) (List ℕ) (spec.statement_targets_rule look)
      (spec.branch_targets_rule look) (spec.sequential_targets_rule look) b

  pub sequential_targets_are : (x : Sequential) → sequential_targets look x ≡ statement_targets look (views.out-Sequential x).statement
  unfolding statement_targets branch_targets sequential_targets
  sequential_targets_are x = folds.fold_out-Sequential (List ℕ) (List ℕ) (List ℕ) (spec.statement_targets_rule look)
      (spec.branch_targets_rule look) (spec.sequential_targets_rule look) x

  branches_concat : (bs : List Branch) → concat (map (branch_targets look) bs) ≡ branches_targets look bs
  unfolding branches_targets
  branches_concat [] = refl
  branches_concat (b ∷ bs) = ap (λ (ns : List ℕ). branch_targets look b ++ ns) (branches_concat bs)

  sequence_concat : (xs : List Sequential) → concat (map (sequential_targets look) xs) ≡ sequence_targets look xs
  unfolding sequence_targets
  sequence_concat [] = refl
  sequence_concat (x ∷ xs) = ap (λ (ns : List ℕ). sequential_targets look x ++ ns) (sequence_concat xs)

  pub branch_gathers : (b : Branch) → branch_targets look b ≡ sequence_targets look (views.out-Branch b).statements
  branch_gathers b = branch_targets_are b ∙ sequence_concat _

  pub else_gathered : (x : Statement) (bs bs' : List Branch) (o : Option (List Sequential)) (xs xs' : List Sequential) (again : Bool)
      (old middle new : List ℕ)
      → x ≡ s.If bs o again → o ≡ Some xs → bs' ≡ bs → xs' ≡ xs → middle ≡ gathered old (branches_targets look bs')
      → new ≡ gathered middle (sequence_targets look xs') → new ≡ gathered old (statement_targets look x)
  else_gathered x bs bs' o xs xs' again old middle new is some eb ex hm h =
      rw h (rw hm (rw is (rw some (rw eb (rw ex (rw (if_else_targets bs xs again) (rw (branches_concat bs) (rw (sequence_concat xs)
      (sym (gathered_both old (branches_targets look bs) (sequence_targets look xs)))))))))))

  pub only_gathered : (x : Statement) (bs bs' : List Branch) (o : Option (List Sequential)) (again : Bool) (old new : List ℕ) → x ≡ s.If bs o again
      → o ≡ None → bs' ≡ bs → new ≡ gathered old (branches_targets look bs') → new ≡ gathered old (statement_targets look x)
  only_gathered x bs bs' o again old new is none eb h =
      rw h (rw is (rw none (rw eb (rw (if_only_targets bs again) (rw (branches_concat bs) (ap (gathered old) (sym (append-nil
      (branches_targets look bs)))))))))

-- the targets of each kind of statement
pub ruleset targets_are = (signal_targets, variable_targets, null_targets, branch_gathers, sequential_targets_are)

-- ---- statements

module _ (look : Lookup) (targets : List ℕ) where
  pub signal_is : (a : SignalAssignment) → statement_of look targets (s.Signal a) ≡ signal_of look targets a
  unfolding statement_of branch_of sequential_of
  signal_is a =
      ap (statement_of look targets) (sym (s.rolls-Signal a))
      ∙ folds.fold-roll-Statement design_statement.Statement design.Branch design_statement.Statement (spec.statement_rule look targets)
      (spec.branch_rule look targets) (spec.sequential_rule look targets)
      (o.Signal a)

  pub variable_is : (a : VariableAssignment) → statement_of look targets (s.Variable a) ≡ variable_of look (look a.target.text) a.value
  unfolding statement_of branch_of sequential_of
  variable_is a =
      ap (statement_of look targets) (sym (s.rolls-Variable a))
      ∙ folds.fold-roll-Statement design_statement.Statement design.Branch design_statement.Statement (spec.statement_rule look targets)
      (spec.branch_rule look targets) (spec.sequential_rule look targets)
      (o.Variable a)

  if_else_is : (bs : List Branch) (xs : List Sequential) (again : Bool) → statement_of look targets (s.If bs (Some xs) again)
      ≡ d.If (map (branch_of look targets) bs) (map (sequential_of look targets) xs)
  unfolding statement_of branch_of sequential_of
  if_else_is bs xs again =
      ap (statement_of look targets) (sym (s.rolls-If bs (Some xs) again))
      ∙ folds.fold-roll-Statement design_statement.Statement design.Branch design_statement.Statement (spec.statement_rule look targets)
      (spec.branch_rule look targets) (spec.sequential_rule look targets)
      (o.If bs (Some xs) again)

  if_only_is : (bs : List Branch) (again : Bool) → statement_of look targets (s.If bs None again) ≡ d.If (map (branch_of look targets) bs) []
  unfolding statement_of branch_of sequential_of
  if_only_is bs again =
      ap (statement_of look targets) (sym (s.rolls-If bs None again))
      ∙ folds.fold-roll-Statement design_statement.Statement design.Branch design_statement.Statement (spec.statement_rule look targets)
      (spec.branch_rule look targets) (spec.sequential_rule look targets)
      (o.If bs None again)

  pub null_is : statement_of look targets s.Null ≡ d.Null
  unfolding statement_of branch_of sequential_of
  null_is =
      ap (statement_of look targets)
      (sym s.rolls-Null) ∙ folds.fold-roll-Statement design_statement.Statement design.Branch design_statement.Statement
      (spec.statement_rule look targets) (spec.branch_rule look targets) (spec.sequential_rule look targets)
      o.Null

  pub branch_is : (b : Branch) → branch_of look targets b ≡ roll-Branch (record {
    condition = condition_of look (views.out-Branch b).condition;
    statements = map (sequential_of look targets) (views.out-Branch b).statements;
  })
  unfolding statement_of branch_of sequential_of
  branch_is b = folds.fold_out-Branch design_statement.Statement design.Branch design_statement.Statement (spec.statement_rule look targets)
      (spec.branch_rule look targets) (spec.sequential_rule look targets) b

  pub sequential_is : (x : Sequential) → sequential_of look targets x ≡ statement_of look targets (views.out-Sequential x).statement
  unfolding statement_of branch_of sequential_of
  sequential_is x = folds.fold_out-Sequential design_statement.Statement design.Branch design_statement.Statement (spec.statement_rule look targets)
      (spec.branch_rule look targets) (spec.sequential_rule look targets) x

  pub if_else_made : (x : Statement) (bs cs : List Branch) (o : Option (List Sequential)) (xs ys : List Sequential) (again : Bool)
      (bodies : List design.Branch) (last : List design_statement.Statement) → x ≡ s.If bs o again → o ≡ Some xs → cs ≡ bs → ys ≡ xs
      → bodies ≡ map (branch_of look targets) cs → last ≡ map (sequential_of look targets) ys → d.If bodies last ≡ statement_of look targets x
  if_else_made x bs cs o xs ys again bodies last is some these those made found =
      rw is (rw some (rw found (rw made (rw these (rw those (sym (if_else_is bs xs again)))))))

  pub if_only_made : (x : Statement) (bs cs : List Branch) (o : Option (List Sequential)) (again : Bool) (bodies : List design.Branch)
      (last : List design_statement.Statement) → x ≡ s.If bs o again → o ≡ None → cs ≡ bs → bodies ≡ map (branch_of look targets) cs → last ≡ []
      → d.If bodies last ≡ statement_of look targets x
  if_only_made x bs cs o again bodies last is none these made found =
      rw is (rw none (rw found (rw made (rw these (sym (if_only_is bs again))))))

-- each kind of statement
pub ruleset statements_are = (signal_is, variable_is, null_is, branch_is, sequential_is)
