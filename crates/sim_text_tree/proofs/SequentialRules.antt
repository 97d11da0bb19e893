-- The spelling of each sequential statement, as an equation, and each statement as one of its variants.
use Rattle.std.proofs.Common.{◌≡◌, Bool, List, map, Option, Some, None, sym, ap, subst, ◌∙◌}
use Rattle.sim_text_tokens.specs.declared.kind.Kind.TheVariants as k
use Rattle.sim_text_tree.specs.Name.{Name}
use Rattle.sim_text_tree.specs.declared.expression.Expression.{Expression}
use Rattle.sim_text_tree.specs.declared.sequential.SignalAssignment.{SignalAssignment}
use Rattle.sim_text_tree.specs.declared.sequential.VariableAssignment.{VariableAssignment}
use Rattle.sim_text_tree.specs.declared.sequential.Sequential.{Sequential, roll-Sequential}
use Rattle.sim_text_tree.specs.declared.sequential.Statement.{Statement}
use Rattle.sim_text_tree.specs.declared.sequential.Statement.TheVariants as s
use Rattle.sim_text_tree.specs.declared.sequential.Branch.{Branch, roll-Branch}
use Rattle.sim_text_tree.specs.declared.sequential.Statement.TheOpen as o
use Rattle.sim_text_tree.specs.declared.sequential.Statement.TheFolds as folds
use Rattle.sim_text_tree.specs.declared.sequential.Statement.TheViews as views
use Rattle.sim_text_tree.specs.Writing.{Writing, mark, ◌▸◌, in_if, separated_by}
use Rattle.sim_text_tree.specs.Grammar.{of_expression, labelled, label_again, of_signal_assignment, of_variable_assignment, statement_rule, branch_rule}
use Rattle.sim_text_tree.specs.Grammar.{sequential_rule, of_otherwise, of_statement, of_sequential, of_branch, of_sequence}

abbrev OfLabel : Type 0
OfLabel = Option Name → Writing

pub signal_is : (a : SignalAssignment) (l : Option Name) → of_statement (s.Signal a) l ≡ of_signal_assignment a
unfolding of_statement
signal_is a l = ap (λ (w : OfLabel). w l) (ap of_statement (sym (s.rolls-Signal a)) ∙ folds.fold-roll-Statement (Option Name → Writing) Writing
    Writing statement_rule branch_rule sequential_rule (o.Signal a))

pub variable_is : (a : VariableAssignment) (l : Option Name) → of_statement (s.Variable a) l ≡ of_variable_assignment a
unfolding of_statement
variable_is a l = ap (λ (w : OfLabel). w l) (ap of_statement (sym (s.rolls-Variable a)) ∙ folds.fold-roll-Statement (Option Name → Writing) Writing
    Writing statement_rule branch_rule sequential_rule (o.Variable a))

pub null_is : (l : Option Name) → of_statement s.Null l ≡ mark k.Null ▸ mark k.Semicolon
unfolding of_statement
null_is l = ap (λ (w : OfLabel). w l) (ap of_statement (sym s.rolls-Null) ∙ folds.fold-roll-Statement (Option Name → Writing) Writing Writing
    statement_rule branch_rule sequential_rule o.Null)

pub if_is : (bs : List Branch) (x : Option (List Sequential)) (again : Bool) (l : Option Name) → of_statement (s.If bs x again) l
    ≡ mark k.If ▸ in_if (separated_by k.Elsif (map of_branch bs) ▸ of_otherwise x) ▸ mark k.End ▸ mark k.If ▸ label_again again l ▸ mark k.Semicolon
unfolding of_statement of_branch of_sequential of_sequence
if_is bs None again l = ap (λ (w : OfLabel). w l) (ap of_statement (sym (s.rolls-If bs None again)) ∙ folds.fold-roll-Statement
    (Option Name → Writing) Writing Writing statement_rule branch_rule sequential_rule (o.If bs None again))
if_is bs (Some xs) again l = ap (λ (w : OfLabel). w l) (ap of_statement (sym (s.rolls-If bs (Some xs) again)) ∙ folds.fold-roll-Statement
    (Option Name → Writing) Writing Writing statement_rule branch_rule sequential_rule (o.If bs (Some xs) again))

pub branch_is : (c : Expression) (x : List Sequential) →
    of_branch (roll-Branch (record { condition = c; statements = x })) ≡ of_expression c ▸ mark k.Then ▸ of_sequence x
unfolding of_branch of_sequence of_sequential
branch_is c x = folds.fold-roll-Branch (Option Name → Writing) Writing Writing statement_rule branch_rule sequential_rule
    (record { condition = c; statements = x })

pub sequential_is : (l : Option Name) (x : Statement) →
    of_sequential (roll-Sequential (record { label = l; statement = x })) ≡ labelled l ▸ of_statement x l
unfolding of_sequential of_statement
sequential_is l x = folds.fold-roll-Sequential (Option Name → Writing) Writing Writing statement_rule branch_rule sequential_rule
    (record { label = l; statement = x })

-- ---- each statement as one of its variants

pub cases_statement : (P : Statement → Type 0) → ((a : SignalAssignment) → P (s.Signal a)) → ((a : VariableAssignment) → P (s.Variable a))
    → ((bs : List Branch) (x : Option (List Sequential)) (again : Bool) → P (s.If bs x again)) → P s.Null → (x : Statement) → P x
cases_statement P signal variable ifs null x = subst P (views.roll-out-Statement x) (elim (views.out-Statement x) as (λ y. P (views.roll-Statement y)) [
  | o.Signal a ↦ subst P (sym (s.rolls-Signal a)) (signal a)
  | o.Variable a ↦ subst P (sym (s.rolls-Variable a)) (variable a)
  | o.If a b c ↦ subst P (sym (s.rolls-If a b c)) (ifs a b c)
  | o.Null ↦ subst P (sym s.rolls-Null) null
])

pub cases_branch : (P : Branch → Type 0) → ((c : Expression) (x : List Sequential) → P (roll-Branch (record { condition = c; statements = x })))
    → (x : Branch) → P x
cases_branch P f x = subst P (views.roll-out-Branch x) (f (views.out-Branch x).condition (views.out-Branch x).statements)

pub cases_sequential : (P : Sequential → Type 0) → ((l : Option Name) (x : Statement) → P (roll-Sequential (record { label = l; statement = x })))
    → (x : Sequential) → P x
cases_sequential P f x = subst P (views.roll-out-Sequential x) (f (views.out-Sequential x).label (views.out-Sequential x).statement)
