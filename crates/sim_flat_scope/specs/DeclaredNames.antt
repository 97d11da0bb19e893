-- The names that declarations and statements declare, in textual order.
use Rattle.std.specs.Prelude.{List, [], ◌∷◌, ◌++◌, Option, Some, None}
use Rattle.std.specs.Borrow.{Bor}
use Rattle.sim_text_tree.specs.Name.{Name}
use Rattle.sim_text_tree.specs.declared.declaration.PortDeclaration.{PortDeclaration}
use Rattle.sim_text_tree.specs.declared.declaration.ObjectDeclaration.{ObjectDeclaration}
use Rattle.sim_text_tree.specs.declared.declaration.Declaration.{Declaration}
use Rattle.sim_text_tree.specs.declared.declaration.Declaration.TheVariants as declaration
use Rattle.sim_text_tree.specs.declared.unit.Process.{Process}
use Rattle.sim_text_tree.specs.declared.unit.Concurrent.{Concurrent}
use Rattle.sim_text_tree.specs.declared.unit.Concurrent.TheVariants as concurrent
use Rattle.sim_text_tree.specs.declared.sequential.Statement.{Statement}
use Rattle.sim_text_tree.specs.declared.sequential.Sequential.{Sequential}
use Rattle.sim_text_tree.specs.declared.sequential.Branch.{Branch}
use Rattle.sim_text_tree.specs.declared.sequential.Statement.TheOpen as s
use Rattle.sim_text_tree.specs.declared.sequential.Statement.TheFolds as folds

-- the names behind references
unfoldable pub named_by : List (Bor Name) → List Name
named_by [] = []
named_by (n ∷ ns) = n.now ∷ named_by ns

-- the names of ports (6.5.2)
unfoldable pub port_names : List PortDeclaration → List Name
port_names [] = []
port_names (p ∷ ps) = p.names ++ port_names ps

-- the names of variables (6.4.2.4)
unfoldable pub variable_names : List ObjectDeclaration → List Name
variable_names [] = []
variable_names (o ∷ os) = o.names ++ variable_names os

-- the names of signals (6.4.2.3), or the name of a component (6.8)
abbrev pub names_of : Declaration → List Name
names_of (declaration.Signal o) = o.names
names_of (declaration.Component c) = c.name ∷ []

-- the names of an architecture's declarations (3.3.2)
unfoldable pub declaration_names : List Declaration → List Name
declaration_names [] = []
declaration_names (d ∷ ds) = names_of d ++ declaration_names ds

-- a label, if there is one
abbrev pub label_name : Option Name → List Name
label_name None = []
label_name (Some n) = n ∷ []

-- the label of a concurrent statement (11.1)
abbrev pub concurrent_label : Concurrent → List Name
concurrent_label (concurrent.Assignment a) = label_name a.label
concurrent_label (concurrent.Process p) = label_name p.label
concurrent_label (concurrent.Instance i) = i.label ∷ []

-- the labels of an architecture's statements
unfoldable pub concurrent_labels : List Concurrent → List Name
concurrent_labels [] = []
concurrent_labels (c ∷ cs) = concurrent_label c ++ concurrent_labels cs

-- lists of names, one after another
unfoldable pub joined : List (List Name) → List Name
joined [] = []
joined (ns ∷ more) = ns ++ joined more

-- the labels after `else`, if it is written
abbrev pub otherwise_rule : Option (List (List Name)) → List Name
otherwise_rule None = []
otherwise_rule (Some labels) = joined labels

-- the labels inside a statement, from those of its parts
abbrev pub statement_rule : s.Statement-F (List Name) (List Name) (List Name) → List Name
statement_rule (s.Signal a) = []
statement_rule (s.Variable a) = []
statement_rule (s.If branches otherwise again) = joined branches ++ otherwise_rule otherwise
statement_rule s.Null = []

-- the labels of the statements after a `then`
abbrev pub branch_rule : s.Branch-F (List Name) (List Name) (List Name) → List Name
branch_rule b = joined b.statements

-- the label of a statement, then those inside it
abbrev pub sequential_rule : s.Sequential-F (List Name) (List Name) (List Name) → List Name
sequential_rule x = label_name x.label ++ x.statement

-- the labels inside a statement (10.8)
unfoldable pub inner_labels : Statement → List Name
inner_labels = folds.fold-Statement (List Name) (List Name) (List Name) statement_rule branch_rule sequential_rule

-- the labels of the statements after a `then`
unfoldable pub branch_labels : Branch → List Name
branch_labels = folds.fold-Branch (List Name) (List Name) (List Name) statement_rule branch_rule sequential_rule

-- the label of a sequential statement (10.1), then those inside it
unfoldable pub sequential_labels : Sequential → List Name
sequential_labels = folds.fold-Sequential (List Name) (List Name) (List Name) statement_rule branch_rule sequential_rule

-- the labels of sequential statements, of those in ifs too
unfoldable pub statement_labels : List Sequential → List Name
statement_labels [] = []
statement_labels (x ∷ xs) = sequential_labels x ++ statement_labels xs

-- the labels in the branches of an if
unfoldable pub branches_labels : List Branch → List Name
branches_labels [] = []
branches_labels (b ∷ bs) = branch_labels b ++ branches_labels bs

-- the names of an architecture itself: its declarations, then its labels
abbrev pub body_names : List Declaration → List Concurrent → List Name
body_names ds cs = declaration_names ds ++ concurrent_labels cs

-- the names of a process: its variables, then the labels of its statements
abbrev pub process_names : Process → List Name
process_names p = variable_names p.variables ++ statement_labels p.statements
