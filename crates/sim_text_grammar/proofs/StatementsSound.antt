-- Soundness for sequential statements: the tokens that a reader consumes spell its result. For each reader a lemma says that it `Gives` its spelling.
-- The proof follows the steps of the reader with `then_` and joins the spellings of the parts with `◌&◌`; nested ifs by induction on how many may still
-- be open.
use Rattle.std.proofs.Common.{◌≡◌, ℕ, zero, suc, List, map, Option, Some, None, refl}
use Rattle.sim_text_tokens.specs.declared.kind.Kind.{Kind}
use Rattle.sim_text_tokens.specs.declared.kind.Kind.TheVariants as k
use Rattle.sim_text_tree.specs.Name.{Name}
use Rattle.sim_text_tree.specs.declared.sequential.Statement.{Statement}
use Rattle.sim_text_tree.specs.declared.sequential.Sequential.{Sequential}
use Rattle.sim_text_tree.specs.declared.sequential.Branch.{Branch}
use Rattle.sim_text_tree.specs.Input.{Input, kind, next}
use Rattle.sim_text_grammar.specs.Readers.{Parser}
use Rattle.sim_text_tree.specs.Writing.{mark, separated_by, word_at, Fits}
use Rattle.sim_text_tree.specs.Grammar as g
use Rattle.sim_text_tree.specs.Grammar.{of_signal_assignment, of_variable_assignment, of_statement, of_sequential, of_branch, of_otherwise}
use Rattle.sim_text_tree.specs.Grammar.{of_sequence}
use Rattle.sim_text_tree.proofs.Writings.{◌&◌, none, marks, if_fits}
use Rattle.sim_text_grammar.proofs.Gives.{Gives, then_, done, refused}
use Rattle.sim_text_grammar.proofs.Tokens.{word_gives, repeat_gives, eat_then, sees_then, expect_gives}
use Rattle.sim_text_grammar.proofs.Lists.{separated_gives, many_all_gives}
use Rattle.sim_text_tree.proofs.SequentialRules.{signal_is, variable_is, if_is, null_is, branch_is, sequential_is}
use Rattle.sim_text_grammar.proofs.ExpressionsSound.{expression_gives}
use Rattle.sim_text_grammar.proofs.WaveformsSound.{delay_gives, waveform_gives}
use Rattle.sim_text_grammar.specs.Statements.{label_again, label_by, variable_assigned, signal_assigned, assigned, assigned_by, null, with_label}
use Rattle.sim_text_grammar.specs.Statements.{begins_statement, labelled, labelled_by, statement, statement_by, sequence, branch, branches, otherwise}
use Rattle.sim_text_grammar.specs.Statements.{if_end, if_statement, statements}

label_by_gives : (p n : ℕ) (label : Option Name) (i : Input) → Gives (λ b j. Fits p n (g.label_again b label) i j) (label_by label i)
label_by_gives p n None i = refused
label_by_gives p n (Some x) i = then_ (repeat_gives {p = p} {n = n} x.text i) (λ u j h. done h)

pub label_again_gives : {p n : ℕ} (label : Option Name) (i : Input) → Gives (λ b j. Fits p n (g.label_again b label) i j) (label_again label i)
unfolding label_again
label_again_gives {p} {n} label i = sees_then k.Word i (λ e. label_by_gives p n label i) (λ e. done none)

variable_gives : (n : ℕ) (l : Option Name) (target : Name) (t j : Input) → Fits 64 n (word_at target) t j → kind j ≡ k.VariableAssign
    → Gives (λ x m. Fits 64 n (of_statement x l) t m) (variable_assigned target j)
unfolding variable_assigned of_variable_assignment
variable_gives n l target t j w e =
    then_ (expression_gives {n = n} (next j)) (λ v m x.
    then_ (expect_gives {p = 64} {n = n} k.Semicolon m (λ z. absurd cc)) (λ u q y.
    done (rw variable_is (w & marks j k.VariableAssign e (λ z. absurd cc) & x & y))))

signal_gives : (n : ℕ) (l : Option Name) (target : Name) (t j : Input) → Fits 64 n (word_at target) t j
    → Gives (λ x m. Fits 64 n (of_statement x l) t m) (signal_assigned target j)
unfolding signal_assigned of_signal_assignment
signal_gives n l target t j w =
    then_ (expect_gives {p = 64} {n = n} k.SignalAssign j (λ z. absurd cc)) (λ u m x.
    then_ (delay_gives {n = n} m) (λ d q y.
    then_ (waveform_gives {n = n} q) (λ v r z.
    then_ (expect_gives {p = 64} {n = n} k.Semicolon r (λ z. absurd cc)) (λ o s f.
    done (rw signal_is (w & x & y & z & f))))))

assigned_by_gives : (n : ℕ) (l : Option Name) (target : Name) (t j : Input) → Fits 64 n (word_at target) t j → (x : Kind) → kind j ≡ x
    → Gives (λ x m. Fits 64 n (of_statement x l) t m) (assigned_by target x j)
assigned_by_gives n l target t j w k.VariableAssign e = variable_gives n l target t j w e
assigned_by_gives n l target t j w _ e = signal_gives n l target t j w

assigned_gives : (n : ℕ) (l : Option Name) (target : Name) (t j : Input) → Fits 64 n (word_at target) t j
    → Gives (λ x m. Fits 64 n (of_statement x l) t m) (assigned target j)
unfolding assigned
assigned_gives n l target t j w = assigned_by_gives n l target t j w (kind j) refl

null_gives : (n : ℕ) (l : Option Name) (t : Input) → kind t ≡ k.Null → Gives (λ x m. Fits 64 n (of_statement x l) t m) (null t)
unfolding null
null_gives n l t e =
    then_ (expect_gives {p = 64} {n = n} k.Semicolon (next t) (λ z. absurd cc)) (λ u m x.
    done (rw null_is (marks t k.Null e (λ z. absurd cc) & x)))

-- an optional label, and then a statement
labels_give : (n : ℕ) (l : Option Name) (i t j : Input) (reader : Parser Statement) → Fits 64 n (g.labelled l) i t
    → Gives (λ x m. Fits 64 n (of_statement x l) t m) (reader j) → Gives (λ x m. Fits 64 n (of_sequential x) i m) (with_label l reader j)
labels_give n l i t j reader h ok = then_ ok (λ x m y. done (rw sequential_is (h & y)))

abbrev Inner : ℕ → (Option Name → Parser Statement) → Type 0
Inner n inner = (l : Option Name) (t : Input) → kind t ≡ k.If → Gives (λ x m. Fits 64 n (of_statement x l) t m) (inner l t)

module _ (inner : Option Name → Parser Statement) (n : ℕ) (ok : Inner n inner) where
  labelled_by_gives : (l : Option Name) (t : Input) → (x : Kind) → kind t ≡ x → Gives (λ x m. Fits 64 n (of_statement x l) t m) (labelled_by inner l x t)
  labelled_by_gives l t k.If e = ok l t e
  labelled_by_gives l t k.Null e = null_gives n l t e
  labelled_by_gives l t _ e = then_ (word_gives {p = 64} {n = n} t) (λ x j w. assigned_gives n l x t j w)

  labelled_gives : (l : Option Name) (t : Input) → Gives (λ x m. Fits 64 n (of_statement x l) t m) (labelled inner l t)
  unfolding labelled
  labelled_gives l t = labelled_by_gives l t (kind t) refl

  statement_by_gives : (i : Input) (x : Kind) → kind i ≡ x → Gives (λ x m. Fits 64 n (of_sequential x) i m) (statement_by inner x i)
  statement_by_gives i k.If e = labels_give n None i i i (inner None) none (ok None i e)
  statement_by_gives i k.Null e = labels_give n None i i i null none (null_gives n None i e)
  statement_by_gives i _ e =
      then_ (word_gives {p = 64} {n = n} i) (λ x j w.
      eat_then _ _ 64 n k.Colon j (λ z. absurd cc)
      (λ c. labels_give n (Some x) i (next j) (next j) (labelled inner (Some x)) (w & c) (labelled_gives (Some x) (next j)))
      (λ c. labels_give n None i i j (assigned x) none (assigned_gives n None x i j w)))

  statement_gives : (i : Input) → Gives (λ x m. Fits 64 n (of_sequential x) i m) (statement inner i)
  unfolding statement
  statement_gives i = statement_by_gives i (kind i) refl

  pub sequence_gives : (i : Input) → Gives (λ xs m. Fits 64 n (of_sequence xs) i m) (sequence inner i)
  unfolding sequence of_sequence
  sequence_gives i = many_all_gives 64 n begins_statement (statement inner) of_sequential (λ j e. statement_gives j) i

  branch_gives : (i : Input) → Gives (λ x m. Fits 64 n (of_branch x) i m) (branch inner i)
  unfolding branch
  branch_gives i =
      then_ (expression_gives {n = n} i) (λ c j x.
      then_ (expect_gives {p = 64} {n = n} k.Then j (λ z. absurd cc)) (λ u m y.
      then_ (sequence_gives m) (λ ss q z.
      done (rw branch_is (x & y & z)))))

  branches_give : (i : Input) → Gives (λ xs m. Fits 64 n (separated_by k.Elsif (map of_branch xs)) i m) (branches inner i)
  unfolding branches
  branches_give i = separated_gives 64 n k.Elsif (branch inner) of_branch (λ z. absurd cc) (λ j. branch_gives j) i

  otherwise_gives : (i : Input) → Gives (λ x m. Fits 64 n (of_otherwise x) i m) (otherwise inner i)
  unfolding otherwise
  otherwise_gives i = eat_then _ _ 64 n k.Else i (λ z. absurd cc)
      (λ x. then_ (sequence_gives (next i)) (λ ss m y. done (x & y)))
      (λ x. done none)

if_end_gives : (n : ℕ) (l : Option Name) (bs : List Branch) (x : Option (List Sequential)) (t a b c : Input) → Fits 64 (suc n) (mark k.If) t a
    → Fits 64 n (separated_by k.Elsif (map of_branch bs)) a b → Fits 64 n (of_otherwise x) b c
    → Gives (λ x m. Fits 64 (suc n) (of_statement x l) t m) (if_end l bs x c)
unfolding if_end
if_end_gives n l bs x t a b c f d e =
    then_ (expect_gives {p = 64} {n = suc n} k.End c (λ z. absurd cc)) (λ u m y.
    then_ (expect_gives {p = 64} {n = suc n} k.If m (λ z. absurd cc)) (λ v q z.
    then_ (label_again_gives {p = 64} {n = suc n} l q) (λ w r o.
    then_ (expect_gives {p = 64} {n = suc n} k.Semicolon r (λ z. absurd cc)) (λ j s h.
    done (rw if_is (f & if_fits (d & e) & y & z & o & h))))))

if_gives : (n : ℕ) → Inner n (if_statement n)
unfolding if_statement
if_gives zero l t e = refused
if_gives (suc n) l t e =
    then_ (branches_give (if_statement n) n (if_gives n) (next t)) (λ bs j x.
    then_ (otherwise_gives (if_statement n) n (if_gives n) j) (λ o m y.
    if_end_gives n l bs o t (next t) j m (marks t k.If e (λ z. absurd cc)) x y))

pub statements_give : (i : Input) → Gives (λ xs m. Fits 64 64 (of_sequence xs) i m) (statements i)
unfolding statements
statements_give i = sequence_gives (if_statement 64) 64 (if_gives 64) i
