-- The faults of each sequential statement, as an equation.
use Rattle.std.proofs.Common.{◌≡◌, Bool, List, [], ◌∷◌, ◌++◌, map, Option, Some, None, refl, sym, ap, ◌∙◌}
use Rattle.sim_text_tree.specs.declared.sequential.SignalAssignment.{SignalAssignment}
use Rattle.sim_text_tree.specs.declared.sequential.VariableAssignment.{VariableAssignment}
use Rattle.sim_text_tree.specs.declared.sequential.Sequential.{Sequential}
use Rattle.sim_text_tree.specs.declared.sequential.Branch.{Branch}
use Rattle.sim_text_tree.specs.declared.sequential.Statement.{Statement}
use Rattle.sim_text_tree.specs.declared.sequential.Statement.TheVariants as s
use Rattle.sim_text_tree.specs.declared.sequential.Statement.TheOpen as o
use Rattle.sim_text_tree.specs.declared.sequential.Statement.TheFolds as folds
use Rattle.sim_text_tree.specs.declared.sequential.Statement.TheViews as views
use Rattle.sim_flat_scope.specs.declared.fault.Fault.{Fault}
use Rattle.sim_flat_scope.specs.Faults.{earliest}
use Rattle.sim_flat_scope.specs.Scopes.{Lookup}
use Rattle.sim_flat_scope.proofs.Faults.{of_both}
use Rattle.sim_flat_check.specs.Waveforms.{condition_faults}
use Rattle.sim_flat_check.specs.Statements.{signal_assignment_faults, variable_assignment_faults, each, statement_rule, branch_rule, sequential_rule}
use Rattle.sim_flat_check.specs.Statements.{statement_faults, branch_faults, sequential_faults, sequence_faults, branches_faults, else_faults}

module _ (look : Lookup) where
  sequence_each : (xs : List Sequential) → each look (map (sequential_faults look) xs) ≡ sequence_faults look xs
  unfolding sequence_faults
  sequence_each [] = refl
  sequence_each (x ∷ xs) = ap (λ (fs : List Fault). sequential_faults look x ++ fs) (sequence_each xs)

  branches_each : (bs : List Branch) → each look (map (branch_faults look) bs) ≡ branches_faults look bs
  unfolding branches_faults
  branches_each [] = refl
  branches_each (b ∷ bs) = ap (λ (fs : List Fault). branch_faults look b ++ fs) (branches_each bs)

  pub signal_is : (a : SignalAssignment) → statement_faults look (s.Signal a) ≡ signal_assignment_faults look a
  unfolding statement_faults
  signal_is a = ap (statement_faults look) (sym (s.rolls-Signal a))
      ∙ folds.fold-roll-Statement (List Fault) (List Fault) (List Fault) (statement_rule look) (branch_rule look) (sequential_rule look) (o.Signal a)

  pub variable_is : (a : VariableAssignment) → statement_faults look (s.Variable a) ≡ variable_assignment_faults look a
  unfolding statement_faults
  variable_is a = ap (statement_faults look) (sym (s.rolls-Variable a))
      ∙ folds.fold-roll-Statement (List Fault) (List Fault) (List Fault) (statement_rule look) (branch_rule look) (sequential_rule look) (o.Variable a)

  pub null_is : statement_faults look s.Null ≡ []
  unfolding statement_faults
  null_is = ap (statement_faults look) (sym s.rolls-Null)
      ∙ folds.fold-roll-Statement (List Fault) (List Fault) (List Fault) (statement_rule look) (branch_rule look) (sequential_rule look) o.Null

  pub if_is : (bs : List Branch) (x : Option (List Sequential)) (again : Bool) →
      statement_faults look (s.If bs x again) ≡ branches_faults look bs ++ else_faults look x
  unfolding statement_faults branch_faults sequential_faults
  if_is bs None again = ap (statement_faults look) (sym (s.rolls-If bs None again))
      ∙ (folds.fold-roll-Statement (List Fault) (List Fault) (List Fault) (statement_rule look) (branch_rule look) (sequential_rule look) (o.If bs None again)
      ∙ ap (λ (fs : List Fault). fs ++ []) (branches_each bs))
  if_is bs (Some xs) again = ap (statement_faults look) (sym (s.rolls-If bs (Some xs) again))
      ∙ (folds.fold-roll-Statement (List Fault) (List Fault) (List Fault) (statement_rule look) (branch_rule look) (sequential_rule look)
      (o.If bs (Some xs) again)
      ∙ (ap (λ (fs : List Fault). fs ++ each look (map (sequential_faults look) xs)) (branches_each bs)
      ∙ ap (λ (fs : List Fault). branches_faults look bs ++ fs) (sequence_each xs)))

  pub branch_is : (b : Branch) →
      branch_faults look b ≡ condition_faults look (views.out-Branch b).condition ++ sequence_faults look (views.out-Branch b).statements
  unfolding branch_faults sequential_faults
  branch_is b = folds.fold_out-Branch (List Fault) (List Fault) (List Fault) (statement_rule look) (branch_rule look) (sequential_rule look) b
      ∙ ap (λ (fs : List Fault). condition_faults look (views.out-Branch b).condition ++ fs) (sequence_each (views.out-Branch b).statements)

  pub sequential_is : (x : Sequential) → sequential_faults look x ≡ statement_faults look (views.out-Sequential x).statement
  unfolding statement_faults sequential_faults
  sequential_is x = folds.fold_out-Sequential (List Fault) (List Fault) (List Fault) (statement_rule look) (branch_rule look) (sequential_rule look) x

-- ---- the first fault of each kind of statement

module _ (look : Lookup) (known : Option Fault) (y : Statement) where
  pub first_of_signal : (a : SignalAssignment) → y ≡ s.Signal a → earliest known (statement_faults look y) ≡ earliest known (signal_assignment_faults look a)
  first_of_signal a is = ap (λ (z : Statement). earliest known (statement_faults look z)) is ∙ ap (earliest known) (signal_is look a)

  pub first_of_variable : (a : VariableAssignment) → y ≡ s.Variable a →
      earliest known (statement_faults look y) ≡ earliest known (variable_assignment_faults look a)
  first_of_variable a is = ap (λ (z : Statement). earliest known (statement_faults look z)) is ∙ ap (earliest known) (variable_is look a)

  pub first_of_null : y ≡ s.Null → earliest known (statement_faults look y) ≡ known
  unfolding earliest
  first_of_null is = ap (λ (z : Statement). earliest known (statement_faults look z)) is ∙ ap (earliest known) (null_is look)

  pub first_of_if : (bs : List Branch) (x : Option (List Sequential)) (again : Bool) → y ≡ s.If bs x again →
      earliest known (statement_faults look y) ≡ earliest (earliest known (branches_faults look bs)) (else_faults look x)
  first_of_if bs x again is = ap (λ (z : Statement). earliest known (statement_faults look z)) is
      ∙ (ap (earliest known) (if_is look bs x again) ∙ of_both known (branches_faults look bs) (else_faults look x))

pub ruleset statement_rules = (first_of_signal, first_of_variable, first_of_null, first_of_if)

-- ---- an if statement, from its parts in turn

pub no_else : (look : Lookup) (known : Option Fault) (y : Statement) (bs : List Branch) (x : Option (List Sequential)) (again : Bool) → y ≡ s.If bs x again
    → x ≡ None → (bs' : List Branch) → bs' ≡ bs → (new : Option Fault) → new ≡ earliest known (branches_faults look bs')
    → new ≡ earliest known (statement_faults look y)
unfolding earliest
no_else look known y bs x again is none bs' eb new h =
    h ∙ (ap (λ (l : List Branch). earliest known (branches_faults look l)) eb
    ∙ (ap (λ (o : Option (List Sequential)). earliest (earliest known (branches_faults look bs)) (else_faults look o)) (sym none)
    ∙ sym (first_of_if look known y bs x again is)))

pub with_else : (look : Lookup) (known : Option Fault) (y : Statement) (bs : List Branch) (x : Option (List Sequential)) (again : Bool) → y ≡ s.If bs x again
    → (xs : List Sequential) → x ≡ Some xs → (bs' : List Branch) → bs' ≡ bs → (xs' : List Sequential) → xs' ≡ xs → (middle new : Option Fault)
    → middle ≡ earliest known (branches_faults look bs') → new ≡ earliest middle (sequence_faults look xs') → new ≡ earliest known (statement_faults look y)
with_else look known y bs x again is xs some bs' eb xs' ex middle new hm h =
    h ∙ (ap (λ (f : Option Fault). earliest f (sequence_faults look xs')) (hm ∙ ap (λ (l : List Branch). earliest known (branches_faults look l)) eb)
    ∙ (ap (λ (l : List Sequential). earliest (earliest known (branches_faults look bs)) (sequence_faults look l)) ex
    ∙ (ap (λ (o : Option (List Sequential)). earliest (earliest known (branches_faults look bs)) (else_faults look o)) (sym some)
    ∙ sym (first_of_if look known y bs x again is))))
