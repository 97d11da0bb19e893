-- The labels of sequential statements, as equations.
use Rattle.std.proofs.Common.{◌≡◌, Bool, List, [], ◌∷◌, ◌++◌, map, Some, None, refl, sym, ap, ◌∙◌, append_assoc}
use Rattle.std.proofs.lemmas.List.{append-nil}
use Rattle.sim_text_tree.specs.Name.{Name}
use Rattle.sim_text_tree.specs.declared.sequential.SignalAssignment.{SignalAssignment}
use Rattle.sim_text_tree.specs.declared.sequential.VariableAssignment.{VariableAssignment}
use Rattle.sim_text_tree.specs.declared.sequential.Sequential.{Sequential}
use Rattle.sim_text_tree.specs.declared.sequential.Statement.TheVariants as s
use Rattle.sim_text_tree.specs.declared.sequential.Branch.{Branch}
use Rattle.sim_text_tree.specs.declared.sequential.Statement.TheOpen as o
use Rattle.sim_text_tree.specs.declared.sequential.Statement.TheFolds as folds
use Rattle.sim_text_tree.specs.declared.sequential.Statement.TheViews as views
use Rattle.sim_flat_scope.specs.DeclaredNames.{label_name, joined, statement_rule, branch_rule, sequential_rule}
use Rattle.sim_flat_scope.specs.DeclaredNames.{inner_labels, branch_labels, sequential_labels, statement_labels, branches_labels}

abbrev Ns : Type 0
Ns = List Name

each_statement : (xs : List Sequential) → joined (map sequential_labels xs) ≡ statement_labels xs
unfolding joined statement_labels
each_statement [] = refl
each_statement (x ∷ xs) = ap (λ (ns : List Name). sequential_labels x ++ ns) (each_statement xs)

each_branch : (bs : List Branch) → joined (map branch_labels bs) ≡ branches_labels bs
unfolding joined branches_labels
each_branch [] = refl
each_branch (b ∷ bs) = ap (λ (ns : List Name). branch_labels b ++ ns) (each_branch bs)

pub signal_labels : (a : SignalAssignment) → inner_labels (s.Signal a) ≡ []
unfolding inner_labels
signal_labels a = ap inner_labels (sym (s.rolls-Signal a)) ∙
    folds.fold-roll-Statement Ns Ns Ns statement_rule branch_rule sequential_rule (o.Signal a)

pub variable_labels : (a : VariableAssignment) → inner_labels (s.Variable a) ≡ []
unfolding inner_labels
variable_labels a = ap inner_labels (sym (s.rolls-Variable a)) ∙
    folds.fold-roll-Statement Ns Ns Ns statement_rule branch_rule sequential_rule (o.Variable a)

pub null_labels : inner_labels s.Null ≡ []
unfolding inner_labels
null_labels = ap inner_labels (sym s.rolls-Null) ∙
    folds.fold-roll-Statement Ns Ns Ns statement_rule branch_rule sequential_rule o.Null

if_joined : (bs : List Branch) (again : Bool) → inner_labels (s.If bs None again) ≡ joined (map branch_labels bs) ++ []
unfolding inner_labels branch_labels
if_joined bs again = ap inner_labels (sym (s.rolls-If bs None again)) ∙
    folds.fold-roll-Statement Ns Ns Ns statement_rule branch_rule sequential_rule (o.If bs None again)

pub if_labels : (bs : List Branch) (again : Bool) → inner_labels (s.If bs None again) ≡ branches_labels bs
if_labels bs again = if_joined bs again ∙ (append-nil (joined (map branch_labels bs)) ∙ each_branch bs)

else_joined : (bs : List Branch) (xs : List Sequential) (again : Bool) → inner_labels (s.If bs (Some xs) again) ≡
    joined (map branch_labels bs) ++ joined (map sequential_labels xs)
unfolding inner_labels branch_labels sequential_labels
else_joined bs xs again = ap inner_labels (sym (s.rolls-If bs (Some xs) again)) ∙
    folds.fold-roll-Statement Ns Ns Ns statement_rule branch_rule sequential_rule (o.If bs (Some xs) again)

pub else_labels : (bs : List Branch) (xs : List Sequential) (again : Bool) → inner_labels (s.If bs (Some xs) again) ≡
    branches_labels bs ++ statement_labels xs
else_labels bs xs again = else_joined bs xs again ∙
    (ap (λ (ns : List Name). ns ++ joined (map sequential_labels xs)) (each_branch bs) ∙
    ap (λ (ns : List Name). branches_labels bs ++ ns) (each_statement xs))

branch_joined : (b : Branch) → branch_labels b ≡ joined (map sequential_labels (views.out-Branch b).statements)
unfolding branch_labels sequential_labels
branch_joined b = folds.fold_out-Branch Ns Ns Ns statement_rule branch_rule sequential_rule b

pub labels_of_branch : (b : Branch) → branch_labels b ≡ statement_labels (views.out-Branch b).statements
labels_of_branch b = branch_joined b ∙ each_statement (views.out-Branch b).statements

pub labels_of_sequential : (x : Sequential) → sequential_labels x ≡
    label_name (views.out-Sequential x).label ++ inner_labels (views.out-Sequential x).statement
unfolding sequential_labels inner_labels
labels_of_sequential x = folds.fold_out-Sequential Ns Ns Ns statement_rule branch_rule sequential_rule x

pub ruleset label_rules = (
  append_assoc,
  append-nil,
  signal_labels,
  variable_labels,
  null_labels,
  if_labels,
  else_labels,
  labels_of_branch,
  labels_of_sequential,
)
