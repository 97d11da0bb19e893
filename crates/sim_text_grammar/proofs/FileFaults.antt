-- The places of faults in declarations, statements, units and files. An `if` is at fault if 64 others are open. Any other reader has the `Blames` of
-- its parts, in the order in which it reads them; the last lemma says this for a file.
use Rattle.std.proofs.Common.{◌≡◌, ℕ, zero, suc, Bool, true, false, ◌||◌, List, [], ◌∷◌, ◌++◌, length, Option, Some, None, inr, refl}
use Rattle.sim_text_tokens.specs.declared.kind.Kind.{Kind}
use Rattle.sim_text_tokens.specs.declared.kind.Kind.TheVariants as k
use Rattle.sim_text_tree.specs.Name.{Name}
use Rattle.sim_text_tree.specs.declared.declaration.ObjectDeclaration.{ObjectDeclaration}
use Rattle.sim_text_tree.specs.declared.declaration.PortDeclaration.{PortDeclaration}
use Rattle.sim_text_tree.specs.declared.declaration.Declaration.{Declaration}
use Rattle.sim_text_tree.specs.declared.sequential.Statement.{Statement}
use Rattle.sim_text_tree.specs.declared.sequential.Sequential.{Sequential}
use Rattle.sim_text_tree.specs.declared.sequential.Branch.{Branch}
use Rattle.sim_text_tree.specs.declared.unit.Sensitivity.{Sensitivity}
use Rattle.sim_text_tree.specs.declared.unit.Association.{Association}
use Rattle.sim_text_tree.specs.declared.unit.Instantiated.{Instantiated}
use Rattle.sim_text_tree.specs.declared.unit.Instantiated.TheVariants as made
use Rattle.sim_text_tree.specs.Grammar.{is_named}
use Rattle.sim_text_tree.specs.Input.{Input, kind, next}
use Rattle.sim_text_grammar.specs.Readers.{Parser, ◌>>◌, take_token, left, sees, same_kind, word}
use Rattle.sim_text_grammar.proofs.FaultPlaces.{Blames, blames_then, blames_next, blames_done, blames_taken, blames_syntax, blames_deep, blames_if}
use Rattle.sim_text_grammar.proofs.FaultPlaces.{blames_or, word_blames}
use Rattle.sim_text_grammar.proofs.FaultPlaces.{literal_blames, repeat_blames, expect_blames, eat_blames, many_blames, many_from_blames, separated_blames}
use Rattle.sim_text_grammar.proofs.ExpressionFaults as e
use Rattle.sim_text_grammar.specs.Declarations as d
use Rattle.sim_text_grammar.specs.Statements as s
use Rattle.sim_text_grammar.specs.Concurrents as c
use Rattle.sim_text_grammar.specs.Units as u

-- ---- declarations

names_blames : (i : Input) → Blames i (d.names i)
unfolding d.names
names_blames i = separated_blames k.Comma word word_blames i

repeated_blames : (t : List ℕ) (i : Input) → Blames i (d.repeated t i)
unfolding d.repeated
repeated_blames t i = blames_or (sees k.Word i) _ _ i (blames_then (repeat_blames t i) (λ v j. blames_done j)) (blames_done i)

initial_by_blames : (x : Kind) (i : Input) → Blames i (d.initial_by x i)
initial_by_blames k.Literal i = blames_then (literal_blames i) (λ v j. blames_done j)
initial_by_blames _ i = blames_then (word_blames i) (λ v j. blames_done j)

initial_blames : (i : Input) → Blames i (d.initial i)
unfolding d.initial
initial_blames i = blames_then (eat_blames k.VariableAssign i) (λ b j. blames_if b _ _ j (initial_by_blames (kind j) j) (blames_done j))

mode_by_blames : (x : Kind) (i : Input) → Blames i (d.mode_by x i)
mode_by_blames k.In i = blames_taken i
mode_by_blames k.Out i = blames_taken i
mode_by_blames k.Inout i = blames_taken i
mode_by_blames _ i = blames_done i

mode_blames : (i : Input) → Blames i (d.mode i)
unfolding d.mode
mode_blames i = mode_by_blames (kind i) i

port_of_blames : (b : Bool) (ns : List Name) (i : Input) → Blames i (d.port_of b ns i)
unfolding d.port_of
port_of_blames b ns i = blames_then (expect_blames k.Colon i) (λ a j. blames_then (mode_blames j)
    (λ m q. blames_then (word_blames q) (λ w r. blames_then (initial_blames r) (λ f t. blames_done t))))

port_blames : (i : Input) → Blames i (d.port i)
unfolding d.port
port_blames i = blames_then (eat_blames k.Signal i) (λ b j. blames_then (names_blames j) (λ ns m. port_of_blames b ns m))

port_list_blames : (i : Input) → Blames i (d.port_list i)
unfolding d.port_list
port_list_blames i = separated_blames k.Semicolon d.port port_blames i

ports_blames : (i : Input) → Blames i (d.ports i)
unfolding d.ports
ports_blames i = blames_then (eat_blames k.Port i) (λ b j. blames_if b _ _ j
    (blames_then (expect_blames k.LeftParen j) (λ a m. blames_then (port_list_blames m)
    (λ ps q. blames_then (expect_blames k.RightParen q) (λ a r. blames_then (expect_blames k.Semicolon r) (λ a t. blames_done t))))) (blames_done j))

object_blames : (i : Input) → Blames i (d.object i)
unfolding d.object
object_blames i = blames_then (names_blames i) (λ ns j. blames_then (expect_blames k.Colon j)
    (λ a m. blames_then (word_blames m) (λ w q. blames_then (initial_blames q) (λ f r. blames_then (expect_blames k.Semicolon r) (λ a t. blames_done t)))))

variables_blames : (i : Input) → Blames i (d.variables i)
unfolding d.variables
variables_blames i = many_blames (λ y. same_kind y k.Variable) (take_token >> d.object) (λ j. blames_next j _ (object_blames (next j))) i

component_end_blames : (x : Name) (b : Bool) (ps : List PortDeclaration) (i : Input) → Blames i (d.component_end x b ps i)
unfolding d.component_end
component_end_blames x b ps i = blames_then (expect_blames k.End i) (λ a j. blames_then (expect_blames k.Component j)
    (λ a m. blames_then (repeated_blames x.text m) (λ w q. blames_then (expect_blames k.Semicolon q) (λ a r. blames_done r))))

component_blames : (i : Input) → Blames i (d.component i)
unfolding d.component
component_blames i = blames_then (expect_blames k.Component i) (λ a j. blames_then (word_blames j)
    (λ x m. blames_then (eat_blames k.Is m) (λ b q. blames_then (ports_blames q) (λ ps r. component_end_blames x b ps r))))

declaration_by_blames : (x : Kind) (i : Input) → Blames i (d.declaration_by x i)
declaration_by_blames k.Signal i = blames_next i _ (blames_then (object_blames (next i)) (λ o j. blames_done j))
declaration_by_blames _ i = blames_then (component_blames i) (λ o j. blames_done j)

declarations_blames : (i : Input) → Blames i (d.declarations i)
unfolding d.declarations d.declaration
declarations_blames i = many_blames d.begins_declaration d.declaration (λ j. declaration_by_blames (kind j) j) i

-- ---- sequential statements

label_by_blames : (l : Option Name) (i : Input) → Blames i (s.label_by l i)
label_by_blames None i = blames_syntax
label_by_blames (Some x) i = blames_then (repeat_blames x.text i) (λ v j. blames_done j)

label_blames : (l : Option Name) (i : Input) → Blames i (s.label_again l i)
unfolding s.label_again
label_blames l i = blames_or (sees k.Word i) _ _ i (label_by_blames l i) (blames_done i)

assigned_by_blames : (t : Name) (x : Kind) (i : Input) → Blames i (s.assigned_by t x i)
unfolding s.variable_assigned s.signal_assigned
assigned_by_blames t k.VariableAssign i = blames_next i _ (blames_then (e.expression_blames (next i))
    (λ v j. blames_then (expect_blames k.Semicolon j) (λ a m. blames_done m)))
assigned_by_blames t _ i = blames_then (expect_blames k.SignalAssign i)
    (λ a j. blames_then (e.delay_blames j) (λ v m. blames_then (e.waveform_blames m) (λ w q. blames_then (expect_blames k.Semicolon q) (λ a r. blames_done r))))

assigned_blames : (t : Name) (i : Input) → Blames i (s.assigned t i)
unfolding s.assigned
assigned_blames t i = assigned_by_blames t (kind i) i

null_blames : (i : Input) → Blames i (s.null i)
unfolding s.null
null_blames i = blames_next i _ (blames_then (expect_blames k.Semicolon (next i)) (λ a j. blames_done j))

with_label_blames : (l : Option Name) (reader : Parser Statement) (i : Input) → Blames i (reader i) → Blames i (s.with_label l reader i)
with_label_blames l reader i ok = blames_then ok (λ x j. blames_done j)

module _ (inner : Option Name → Parser Statement) (ok : (l : Option Name) (i : Input) → kind i ≡ k.If → Blames i (inner l i)) where
  labelled_by_blames : (l : Option Name) (x : Kind) (i : Input) → kind i ≡ x → Blames i (s.labelled_by inner l x i)
  labelled_by_blames l k.If i e = ok l i e
  labelled_by_blames l k.Null i e = null_blames i
  labelled_by_blames l _ i e = blames_then (word_blames i) (λ t j. assigned_blames t j)

  labelled_blames : (l : Option Name) (i : Input) → Blames i (s.labelled inner l i)
  unfolding s.labelled
  labelled_blames l i = labelled_by_blames l (kind i) i refl

  statement_by_blames : (x : Kind) (i : Input) → kind i ≡ x → Blames i (s.statement_by inner x i)
  statement_by_blames k.If i e = with_label_blames None (inner None) i (ok None i e)
  statement_by_blames k.Null i e = with_label_blames None s.null i (null_blames i)
  statement_by_blames _ i e =
      blames_then (word_blames i) (λ t j. blames_then (eat_blames k.Colon j) (λ b m. blames_if b _ _ m
      (with_label_blames (Some t) (s.labelled inner (Some t)) m (labelled_blames (Some t) m))
      (with_label_blames None (s.assigned t) m (assigned_blames t m))))

  sequence_blames : (i : Input) → Blames i (s.sequence inner i)
  unfolding s.sequence s.statement
  sequence_blames i = many_blames s.begins_statement (s.statement inner) (λ j. statement_by_blames (kind j) j refl) i

  branch_blames : (i : Input) → Blames i (s.branch inner i)
  unfolding s.branch
  branch_blames i = blames_then (e.expression_blames i)
      (λ x j. blames_then (expect_blames k.Then j) (λ a m. blames_then (sequence_blames m) (λ ss q. blames_done q)))

  branches_blames : (i : Input) → Blames i (s.branches inner i)
  unfolding s.branches
  branches_blames i = separated_blames k.Elsif (s.branch inner) branch_blames i

  otherwise_blames : (i : Input) → Blames i (s.otherwise inner i)
  unfolding s.otherwise
  otherwise_blames i = blames_then (eat_blames k.Else i) (λ b j. blames_if b _ _ j (blames_then (sequence_blames j) (λ ss m. blames_done m)) (blames_done j))

if_end_blames : (l : Option Name) (bs : List Branch) (o : Option (List Sequential)) (i : Input) → Blames i (s.if_end l bs o i)
unfolding s.if_end
if_end_blames l bs o i = blames_then (expect_blames k.End i) (λ a j. blames_then (expect_blames k.If j)
    (λ a m. blames_then (label_blames l m) (λ b q. blames_then (expect_blames k.Semicolon q) (λ a r. blames_done r))))

if_blames : (n : ℕ) (l : Option Name) (i : Input) → kind i ≡ k.If → Blames i (s.if_statement n l i)
unfolding s.if_statement
if_blames zero l i e = blames_deep i k.If e (λ z. absurd cc) (inr refl)
if_blames (suc n) l i e = blames_next i _ (blames_then (branches_blames (s.if_statement n) (if_blames n) (next i))
    (λ bs j. blames_then (otherwise_blames (s.if_statement n) (if_blames n) j) (λ o m. if_end_blames l bs o m)))

statements_blames : (i : Input) → Blames i (s.statements i)
unfolding s.statements
statements_blames i = sequence_blames (s.if_statement 64) (if_blames 64) i

-- ---- concurrent statements

sensitivity_blames : (i : Input) → Blames i (c.sensitivity i)
unfolding c.sensitivity
sensitivity_blames i = blames_then (eat_blames k.All i) (λ b j. blames_if b _ _ j (blames_done j) (blames_then (names_blames j) (λ ns m. blames_done m)))

postponed_again_blames : (p : Bool) (i : Input) → Blames i (c.postponed_again p i)
postponed_again_blames true i = eat_blames k.Postponed i
postponed_again_blames false i = blames_done i

process_body_blames : (l : Option Name) (p : Bool) (x : Sensitivity) (b : Bool) (vs : List ObjectDeclaration) (i : Input)
    → Blames i (c.process_body l p x b vs i)
unfolding c.process_body
process_body_blames l p x b vs i = blames_then (expect_blames k.Begin i) (λ a j. blames_then (statements_blames j)
    (λ ss m. blames_then (expect_blames k.End m) (λ a n. blames_then (postponed_again_blames p n) (λ g q. blames_then (expect_blames k.Process q)
    (λ a r. blames_then (label_blames l r) (λ g t. blames_then (expect_blames k.Semicolon t) (λ a v. blames_done v)))))))

process_blames : (l : Option Name) (p : Bool) (i : Input) → Blames i (c.process l p i)
unfolding c.process
process_blames l p i = blames_then (expect_blames k.Process i) (λ a j. blames_then (expect_blames k.LeftParen j)
    (λ a m. blames_then (sensitivity_blames m) (λ x q. blames_then (expect_blames k.RightParen q)
    (λ a r. blames_then (eat_blames k.Is r) (λ b t. blames_then (variables_blames t) (λ vs v. process_body_blames l p x b vs v))))))

actual_by_blames : (x : Kind) (i : Input) → Blames i (c.actual_by x i)
actual_by_blames k.Literal i = blames_then (literal_blames i) (λ v j. blames_done j)
actual_by_blames k.Open i = blames_taken i
actual_by_blames _ i = blames_then (word_blames i) (λ v j. blames_done j)

actual_blames : (i : Input) → Blames i (c.actual i)
unfolding c.actual
actual_blames i = actual_by_blames (kind i) i

associated_blames : (f : Name) (i : Input) → Blames i (c.associated f i)
unfolding c.associated
associated_blames f i = blames_then (actual_blames i) (λ x j. blames_done j)

free_by_blames : (x : Kind) (i : Input) → Blames i (c.free_by x i)
free_by_blames k.Word i = blames_then (word_blames i)
    (λ w j. blames_then (eat_blames k.Arrow j) (λ b m. blames_if b _ _ m (associated_blames w m) (blames_done m)))
free_by_blames _ i = blames_then (actual_blames i) (λ x j. blames_done j)

association_blames : (b : Bool) (i : Input) → Blames i (c.association b i)
unfolding c.association c.named_association c.free_association
association_blames true i = blames_then (word_blames i) (λ f j. blames_then (expect_blames k.Arrow j) (λ a m. associated_blames f m))
association_blames false i = free_by_blames (kind i) i

associations_blames : (m : ℕ) (b : Bool) (found : List Association) (i : Input) → Blames i (c.associations_from m b found i)
unfolding c.associations_from
associations_blames zero b found i = blames_syntax
associations_blames (suc m) b found i = blames_then (association_blames b i)
    (λ x j. blames_then (eat_blames k.Comma j) (λ y q. blames_if y _ _ q (associations_blames m (b || is_named x.formal) (found ++ x ∷ []) q) (blames_done q)))

port_map_blames : (i : Input) → Blames i (c.port_map i)
unfolding c.port_map c.associations left
port_map_blames i = blames_then (eat_blames k.Port i) (λ b j. blames_if b _ _ j
    (blames_then (expect_blames k.Map j) (λ a m. blames_then (expect_blames k.LeftParen m)
    (λ a q. blames_then (associations_blames (length q) false [] q) (λ xs r. blames_then (expect_blames k.RightParen r) (λ a t. blames_done t)))))
    (blames_done j))

instance_blames : (l : Name) (x : Instantiated) (i : Input) → Blames i (c.instance l x i)
unfolding c.instance
instance_blames l x i = blames_then (port_map_blames i) (λ xs j. blames_then (expect_blames k.Semicolon j) (λ a m. blames_done m))

chosen_blames : (i : Input) → Blames i (c.chosen i)
unfolding c.chosen
chosen_blames i = blames_then (eat_blames k.LeftParen i) (λ b j. blames_if b _ _ j
    (blames_then (word_blames j) (λ w m. blames_then (expect_blames k.RightParen m) (λ a q. blames_done q))) (blames_done j))

entity_named_blames : (i : Input) → Blames i (c.entity_named i)
unfolding c.entity_named
entity_named_blames i = blames_next i _ (blames_then (word_blames (next i))
    (λ l j. blames_then (expect_blames k.Dot j) (λ a m. blames_then (word_blames m) (λ w q. blames_then (chosen_blames q) (λ o r. blames_done r)))))

concurrent_assigned_blames : (l : Option Name) (p : Bool) (t : Name) (i : Input) → Blames i (c.concurrent_assigned l p t i)
unfolding c.concurrent_assigned
concurrent_assigned_blames l p t i = blames_then (e.assigned_blames l p t i) (λ x j. blames_done j)

concurrent_process_blames : (l : Option Name) (p : Bool) (i : Input) → Blames i (c.concurrent_process l p i)
unfolding c.concurrent_process
concurrent_process_blames l p i = blames_then (process_blames l p i) (λ x j. blames_done j)

postponed_by_blames : (l : Option Name) (x : Kind) (i : Input) → Blames i (c.postponed_by l x i)
postponed_by_blames l k.Process i = concurrent_process_blames l true i
postponed_by_blames l _ i = blames_then (word_blames i) (λ w j. concurrent_assigned_blames l true w j)

postponed_blames : (l : Option Name) (i : Input) → Blames i (c.postponed l i)
unfolding c.postponed
postponed_blames l i = blames_next i _ (postponed_by_blames l (kind (next i)) (next i))

target_by_blames : (l w : Name) (x : Kind) (i : Input) → Blames i (c.target_by l w x i)
target_by_blames l w k.SignalAssign i = concurrent_assigned_blames (Some l) false w i
target_by_blames l w _ i = instance_blames l (made.Component false w) i

labelled_after : (l : Name) (x : Kind) (i : Input) → Blames i (c.labelled_by l x i)
labelled_after l k.Process i = concurrent_process_blames (Some l) false i
labelled_after l k.Postponed i = postponed_blames (Some l) i
labelled_after l k.Component i = blames_next i _ (blames_then (word_blames (next i)) (λ w j. instance_blames l (made.Component true w) j))
labelled_after l k.Entity i = blames_then (entity_named_blames i) (λ x j. instance_blames l x j)
labelled_after l _ i = blames_then (word_blames i) (λ w j. target_by_blames l w (kind j) j)

first_by_blames : (w : Name) (x : Kind) (i : Input) → Blames i (c.first_by w x i)
unfolding c.labelled
first_by_blames w k.SignalAssign i = concurrent_assigned_blames None false w i
first_by_blames w _ i = blames_then (expect_blames k.Colon i) (λ a j. labelled_after w (kind j) j)

concurrent_by_blames : (x : Kind) (i : Input) → Blames i (c.concurrent_by x i)
concurrent_by_blames k.Process i = concurrent_process_blames None false i
concurrent_by_blames k.Postponed i = postponed_blames None i
concurrent_by_blames _ i = blames_then (word_blames i) (λ w j. first_by_blames w (kind j) j)

concurrents_blames : (i : Input) → Blames i (c.concurrents i)
unfolding c.concurrents c.concurrent
concurrents_blames i = many_blames c.begins_concurrent c.concurrent (λ j. concurrent_by_blames (kind j) j) i

-- ---- units

suffixes_blames : (m : ℕ) (found : List Name) (i : Input) → Blames i (u.suffixes_from m found i)
unfolding u.suffixes_from
suffixes_blames zero found i = blames_syntax
suffixes_blames (suc m) found i = blames_then (expect_blames k.Dot i) (λ a j. blames_then (eat_blames k.All j)
    (λ b q. blames_if b _ _ q (blames_done q) (blames_then (word_blames q)
    (λ w r. blames_or (sees k.Dot r) _ _ r (suffixes_blames m (found ++ w ∷ []) r) (blames_done r)))))

selected_blames : (i : Input) → Blames i (u.selected i)
unfolding u.selected u.suffixes left
selected_blames i = blames_then (word_blames i) (λ w j. blames_then (suffixes_blames (length j) [] j) (λ x m. blames_done m))

item_by_blames : (x : Kind) (i : Input) → Blames i (u.item_by x i)
unfolding u.selected_names
item_by_blames k.Library i = blames_next i _ (blames_then (names_blames (next i)) (λ ns j. blames_then (expect_blames k.Semicolon j) (λ a m. blames_done m)))
item_by_blames _ i = blames_then (expect_blames k.Use i) (λ a j. blames_then (separated_blames k.Comma u.selected selected_blames j)
    (λ xs m. blames_then (expect_blames k.Semicolon m) (λ a q. blames_done q)))

context_blames : (i : Input) → Blames i (u.context i)
unfolding u.context u.context_item
context_blames i = many_blames u.begins_context u.context_item (λ j. item_by_blames (kind j) j) i

entity_blames : (i : Input) → Blames i (u.entity i)
unfolding u.entity
entity_blames i = blames_then (expect_blames k.Entity i) (λ a j. blames_then (word_blames j)
    (λ x m. blames_then (expect_blames k.Is m) (λ a q. blames_then (ports_blames q)
    (λ ps r. blames_then (expect_blames k.End r) (λ a t. blames_then (eat_blames k.Entity t)
    (λ b v. blames_then (repeated_blames x.text v) (λ g w. blames_then (expect_blames k.Semicolon w) (λ a y. blames_done y))))))))

architecture_body_blames : (x y : Name) (ds : List Declaration) (i : Input) → Blames i (u.architecture_body x y ds i)
unfolding u.architecture_body
architecture_body_blames x y ds i = blames_then (expect_blames k.Begin i)
    (λ a j. blames_then (concurrents_blames j) (λ cs m. blames_then (expect_blames k.End m)
    (λ a q. blames_then (eat_blames k.Architecture q) (λ b r. blames_then (repeated_blames x.text r)
    (λ g t. blames_then (expect_blames k.Semicolon t) (λ a v. blames_done v))))))

architecture_blames : (i : Input) → Blames i (u.architecture i)
unfolding u.architecture
architecture_blames i = blames_then (expect_blames k.Architecture i) (λ a j. blames_then (word_blames j)
    (λ x m. blames_then (expect_blames k.Of m) (λ a q. blames_then (word_blames q)
    (λ y r. blames_then (expect_blames k.Is r) (λ a t. blames_then (declarations_blames t) (λ ds v. architecture_body_blames x y ds v))))))

library_by_blames : (x : Kind) (i : Input) → Blames i (u.library_by x i)
library_by_blames k.Architecture i = blames_then (architecture_blames i) (λ x j. blames_done j)
library_by_blames _ i = blames_then (entity_blames i) (λ x j. blames_done j)

unit_blames : (i : Input) → Blames i (u.unit i)
unfolding u.unit u.library_unit
unit_blames i = blames_then (context_blames i) (λ cs j. blames_then (library_by_blames (kind j) j) (λ x m. blames_done m))

finish_by_blames : (i m : Input) → Blames m (u.finish_by m m)
finish_by_blames i [] = blames_done []
finish_by_blames i (t ∷ ts) = blames_syntax

-- in a file, a `TimeRange` fault is at a time that is too large, and a `TooDeep` fault at a parenthesis or an `if`
pub file_blames : (i : Input) → Blames i (u.file i)
unfolding u.file u.units_of u.finish left
file_blames i = blames_then (blames_then (unit_blames i) (λ x j. many_from_blames u.goes_on u.unit unit_blames (length j) (x ∷ []) j))
    (λ xs j. blames_then (finish_by_blames j j) (λ a m. blames_done m))
