-- Completeness for sequential statements: reading the tokens that spell one returns it. `split` takes the spelling apart, which gives the tokens that the
-- reader sees at each step, and so its answer; nested ifs by induction on how many may still be open. A token after a list or an optional part must not
-- continue it, so lemmas require this of the next token.
use Rattle.std.proofs.Common.{◌≡◌, ℕ, zero, suc, ◌≤◌, Bool, true, false, List, length, map, Option, Some, None, Ok, refl, sym, subst, arith}
use Rattle.sim_text_tokens.specs.declared.kind.Kind.{Kind}
use Rattle.sim_text_tokens.specs.declared.kind.Kind.TheVariants as k
use Rattle.sim_text_tree.specs.Name.{Name}
use Rattle.sim_text_tree.specs.declared.expression.Expression.{Expression}
use Rattle.sim_text_tree.specs.declared.sequential.SignalAssignment.{SignalAssignment}
use Rattle.sim_text_tree.specs.declared.sequential.VariableAssignment.{VariableAssignment}
use Rattle.sim_text_tree.specs.declared.sequential.Statement.{Statement}
use Rattle.sim_text_tree.specs.declared.sequential.Statement.TheVariants as s
use Rattle.sim_text_tree.specs.declared.sequential.Sequential.{Sequential, roll-Sequential}
use Rattle.sim_text_tree.specs.declared.sequential.Branch.{Branch, roll-Branch}
use Rattle.sim_text_tree.specs.Input.{Input, kind}
use Rattle.sim_text_grammar.specs.Readers.{Parser}
use Rattle.sim_text_tree.specs.Writing.{Piece, Mark, WordAt, Writing, just, mark, ◌▸◌, in_if, separated_by, Fits}
use Rattle.sim_text_tree.specs.Grammar as g
use Rattle.sim_text_tree.specs.Grammar.{of_expression, of_delay, of_waveform, of_signal_assignment, of_variable_assignment, of_statement, of_sequential}
use Rattle.sim_text_tree.specs.Grammar.{of_branch, of_otherwise, of_sequence}
use Rattle.sim_text_tree.proofs.Writings.{split, only, none_read, never_fits, mark_read, less, then_less, if_read, if_none}
use Rattle.sim_text_grammar.proofs.Tokens.{other, word_read, word_kind, repeat_read, this_kind, is_seen, not_seen, eat_read, eat_not, expect_read}
use Rattle.sim_text_grammar.proofs.Lists.{separated_again, many_all_again}
use Rattle.sim_text_tree.proofs.SequentialRules.{signal_is, variable_is, if_is, null_is, branch_is, sequential_is, cases_statement, cases_branch}
use Rattle.sim_text_tree.proofs.SequentialRules.{cases_sequential}
use Rattle.sim_text_grammar.proofs.ExpressionsComplete.{expression_again}
use Rattle.sim_text_grammar.proofs.WaveformsComplete.{closed_ends, waveform_again, waveform_opens, delay_again, opens_no_delay}
use Rattle.sim_text_grammar.specs.Statements.{label_again, variable_assigned, signal_assigned, assigned, null, begins_statement, labelled, statement}
use Rattle.sim_text_grammar.specs.Statements.{sequence, branch, branches, otherwise, if_end, if_statement, statements}

pub label_again_again : {p n : ℕ} (b : Bool) (label : Option Name) (i j : Input) → Fits p n (g.label_again b label) i j → (kind j ≡ k.Word → ⊥)
    → label_again label i ≡ Ok (b, j)
unfolding label_again
label_again_again true None i j h stop = absurd (never_fits i j h)
label_again_again true (Some x) i j h stop = rw (is_seen k.Word i (this_kind x.text i j h), repeat_read x.text i j h) refl
label_again_again false label i j h stop = rw (none_read h, not_seen k.Word j stop) refl

signal_again : (n : ℕ) (a : SignalAssignment) (i j : Input)
    → Fits 64 n (mark k.SignalAssign ▸ of_delay a.delay ▸ of_waveform a.waveform ▸ mark k.Semicolon) i j → assigned a.target i ≡ Ok (s.Signal a, j)
unfolding assigned signal_assigned
signal_again n a i j h =
    let x = split h in
    let t = split x.back in
    let u = split t.back in
    let w = (mark_read u.mid j k.Semicolon u.back).0 in
    rw (
      (mark_read i x.mid k.SignalAssign x.front).0,
      expect_read k.SignalAssign i x.mid x.front,
      delay_again {n = n} a.delay x.mid t.mid t.front
          (opens_no_delay (kind t.mid) (waveform_opens n a.waveform t.mid u.mid u.front)),
      waveform_again {n = n} a.waveform t.mid u.mid u.front
          (closed_ends u.mid w) (other w (λ z. absurd cc)),
      expect_read k.Semicolon u.mid j u.back,
    ) refl

variable_again : (n : ℕ) (a : VariableAssignment) (i j : Input) → Fits 64 n (mark k.VariableAssign ▸ of_expression a.value ▸ mark k.Semicolon) i j
    → assigned a.target i ≡ Ok (s.Variable a, j)
unfolding assigned variable_assigned
variable_again n a i j h =
    let x = split h in
    let t = split x.back in
    let v = mark_read i x.mid k.VariableAssign x.front in
    let w = (mark_read t.mid j k.Semicolon t.back).0 in
    rw (v.0, v.1, expression_again {n = n} a.value x.mid t.mid t.front (rw w (omega arith)), expect_read k.Semicolon t.mid j t.back) refl

abbrev InnerAgain : ℕ → (Option Name → Parser Statement) → Type 0
InnerAgain n inner = (l : Option Name) (bs : List Branch) (x : Option (List Sequential)) (again : Bool) (i j : Input) → Fits 64 n
    (mark k.If ▸ in_if (separated_by k.Elsif (map of_branch bs) ▸ of_otherwise x) ▸ mark k.End ▸ mark k.If ▸ g.label_again again l ▸ mark k.Semicolon)
    i j → inner l i ≡ Ok (s.If bs x again, j)

abbrev Begins : Input → Type 0
Begins i = begins_statement (kind i) ≡ true

labelled_begins : (n : ℕ) (l : Option Name) (i t : Input) → Fits 64 n (g.labelled l) i t → Begins t → Begins i
labelled_begins n None i t h e = subst Begins (sym (none_read h)) e
labelled_begins n (Some x) i t h e = let q = split h in rw (word_kind i q.mid x q.front) refl

-- facts about a statement before it is read
abbrev Known : Input → Input → Type 0
Known i j = Begins i × (suc (length j) ≤ length i)

known : (x : Piece) (w : Writing) (n : ℕ) (i j : Input) → Fits 64 n (just x ▸ w) i j → Begins i → Known i j
known x w n i j h e = (e, less x w i j h)

module _ (inner : Option Name → Parser Statement) (n : ℕ) (ok : InnerAgain n inner) where
  -- how a statement is read after its label: its first token and its reader, with a label and without
  record StatementAgain (l : Option Name) (x : Statement) (i j : Input) : Type 0 where
    pub known_is : Known i j
    pub after_label : labelled inner l i ≡ Ok (x, j)
    pub alone : l ≡ None → statement inner i ≡ Ok (roll-Sequential (record { label = None; statement = x }), j)

  simple_again : (l : Option Name) (a : SignalAssignment) (i j : Input) → Fits 64 n (of_statement (s.Signal a) l) i j → StatementAgain l (s.Signal a) i j
  unfolding of_signal_assignment statement labelled
  simple_again l a i j h =
      let v = rw signal_is at h in
      let w = split v in
      let m = (mark_read w.mid (split w.back).mid k.SignalAssign (split w.back).front).0 in
      let e = signal_again n a w.mid j w.back in
      record {
        known_is = known (WordAt a.target.text a.target.at) _ n i j v (rw (word_kind i w.mid a.target w.front) refl);
        after_label = rw (word_kind i w.mid a.target w.front, word_read i w.mid a.target w.front) e;
        alone = λ _. rw (word_kind i w.mid a.target w.front, word_read i w.mid a.target w.front, eat_not k.Colon w.mid (other m (λ z. absurd cc)), e) refl;
      }

  assignment_again : (l : Option Name) (a : VariableAssignment) (i j : Input) → Fits 64 n (of_statement (s.Variable a) l) i j
      → StatementAgain l (s.Variable a) i j
  unfolding of_variable_assignment statement labelled
  assignment_again l a i j h =
      let v = rw variable_is at h in
      let w = split v in
      let m = (mark_read w.mid (split w.back).mid k.VariableAssign (split w.back).front).0 in
      let e = variable_again n a w.mid j w.back in
      record {
        known_is = known (WordAt a.target.text a.target.at) _ n i j v (rw (word_kind i w.mid a.target w.front) refl);
        after_label = rw (word_kind i w.mid a.target w.front, word_read i w.mid a.target w.front) e;
        alone = λ _. rw (word_kind i w.mid a.target w.front, word_read i w.mid a.target w.front, eat_not k.Colon w.mid (other m (λ z. absurd cc)), e) refl;
      }

  ifs_again : (l : Option Name) (bs : List Branch) (x : Option (List Sequential)) (again : Bool) (i j : Input)
      → Fits 64 n (of_statement (s.If bs x again) l) i j → StatementAgain l (s.If bs x again) i j
  unfolding statement labelled
  ifs_again l bs x again i j h =
      let v = rw if_is at h in
      let m = (mark_read i (split v).mid k.If (split v).front).0 in
      let e = ok l bs x again i j v in
      record {
        known_is = known (Mark k.If) _ n i j v (rw m refl);
        after_label = rw m e;
        alone = λ none. let f : inner None i ≡ Ok (s.If bs x again, j) = subst (λ (z : Option Name). inner z i ≡ Ok (s.If bs x again, j)) none e in rw
            (m, f) refl;
      }

  nulls_again : (l : Option Name) (i j : Input) → Fits 64 n (of_statement s.Null l) i j → StatementAgain l s.Null i j
  unfolding statement labelled null
  nulls_again l i j h =
      let v = rw null_is at h in
      let w = split v in
      let m = mark_read i w.mid k.Null w.front in
      record {
        known_is = known (Mark k.Null) _ n i j v (rw m.0 refl);
        after_label = rw (m.0, m.1, expect_read k.Semicolon w.mid j w.back) refl;
        alone = λ _. rw (m.0, m.1, expect_read k.Semicolon w.mid j w.back) refl;
      }

  statement_again_by : (l : Option Name) (x : Statement) (i j : Input) → Fits 64 n (of_statement x l) i j → StatementAgain l x i j
  statement_again_by l = cases_statement (λ x. (i j : Input) → Fits 64 n (of_statement x l) i j → StatementAgain l x i j)
      (simple_again l) (assignment_again l) (ifs_again l) (nulls_again l)

  abbrev SequentialAgain : Sequential → Type 0
  SequentialAgain x = (i j : Input) → Fits 64 n (of_sequential x) i j → Known i j × (statement inner i ≡ Ok (x, j))

  labelled_again : (l : Option Name) (x : Statement) (i j : Input) → Fits 64 n (g.labelled l ▸ of_statement x l) i j
      → Known i j × (statement inner i ≡ Ok (roll-Sequential (record { label = l; statement = x }), j))
  unfolding statement
  labelled_again None x i j h =
      let v = split h in
      let r = statement_again_by None x i j (only (none_read v.front) v.back) in
      (r.known_is, r.alone refl)
  labelled_again (Some a) x i j h =
      let v = split h in
      let q = split v.front in
      let r = statement_again_by (Some a) x v.mid j v.back in (
        (labelled_begins n (Some a) i v.mid v.front r.known_is.0, then_less i j v r.known_is.1),
        rw
            (word_kind i q.mid a q.front, word_read i q.mid a q.front, eat_read k.Colon q.mid v.mid q.back, r.after_label) refl,
      )

  statement_again : (x : Sequential) → SequentialAgain x
  statement_again = cases_sequential SequentialAgain (λ l x i j h. labelled_again l x i j (rw sequential_is at h))

  abbrev Ends : Kind → Type 0
  Ends x = begins_statement x ≡ false

  pub sequence_again : (xs : List Sequential) (i j : Input) → Fits 64 n (of_sequence xs) i j → Ends (kind j) → sequence inner i ≡ Ok (xs, j)
  unfolding sequence of_sequence
  sequence_again xs i j h stop = many_all_again 64 n begins_statement (statement inner) of_sequential (λ x. Unit {0})
      (λ x a b f. (statement_again x a b f).0.0) (λ x e. tt) (λ x a b f. (statement_again x a b f).0.1) (λ x a b f d. (statement_again x a b f).1) xs
      i j h tt stop

  abbrev BranchAgain : Branch → Type 0
  BranchAgain x = (i j : Input) → Fits 64 n (of_branch x) i j → Ends (kind j) → branch inner i ≡ Ok (x, j)

  branch_again_by : (c : Expression) (xs : List Sequential) → BranchAgain (roll-Branch (record { condition = c; statements = xs }))
  unfolding branch
  branch_again_by c xs i j h stop =
      let v = split (rw branch_is at h) in
      let w = split v.back in
      rw (
        expression_again {n = n} c i v.mid v.front (rw (mark_read v.mid w.mid k.Then w.front).0 (omega arith)),
        expect_read k.Then v.mid w.mid
            w.front,
        sequence_again xs w.mid j w.back stop,
      ) refl

  branch_again : (x : Branch) → BranchAgain x
  branch_again = cases_branch BranchAgain branch_again_by

  pub branches_again : (xs : List Branch) (i j : Input) → Fits 64 n (separated_by k.Elsif (map of_branch xs)) i j → Ends (kind j)
      → (kind j ≡ k.Elsif → ⊥) → branches inner i ≡ Ok (xs, j)
  unfolding branches
  branches_again xs i j h e stop = separated_again 64 n k.Elsif (branch inner) of_branch Ends refl (λ x a b f d. branch_again x a b f d) xs i j h e stop

  abbrev OtherwiseAgain : Option (List Sequential) → Type 0
  OtherwiseAgain x = (i j : Input) → Fits 64 n (of_otherwise x) i j → kind j ≡ k.End → (Ends (kind i) × (kind i ≡ k.Elsif → ⊥)) ×
      (otherwise inner i ≡ Ok (x, j))

  pub otherwise_again : (x : Option (List Sequential)) → OtherwiseAgain x
  unfolding otherwise
  otherwise_again None i j h e =
      let z = none_read h in
      ((rw (z, e) refl, rw z (other e (λ y. absurd cc))), rw (z, eat_not k.Else j (other e (λ y. absurd cc))) refl)
  otherwise_again (Some xs) i j h e =
      let v = split h in
      let m = (mark_read i v.mid k.Else v.front).0 in
      ((rw m refl, other m (λ y. absurd cc)), rw (eat_read k.Else i v.mid v.front, sequence_again xs v.mid j v.back (rw e refl)) refl)

inner_again : (n : ℕ) → InnerAgain n (if_statement n)
unfolding if_statement if_end
inner_again zero l bs x again i j h = let v = split h in absurd (if_none (split v.back).front)
inner_again (suc n) l bs x again i j h =
    let v = split h in
    let w = split v.back in
    let q = split (if_read w.front) in
    let t = split w.back in
    let u = split t.back in
    let y = split u.back in
    let e = (mark_read w.mid t.mid k.End t.front).0 in
    let z = otherwise_again (if_statement n) n (inner_again n) x q.mid w.mid q.back e in
    rw (
      (mark_read i v.mid k.If v.front).1,
      branches_again (if_statement n) n (inner_again n) bs v.mid q.mid q.front z.0.0 z.0.1,
      z.1,
      expect_read
          k.End w.mid t.mid t.front,
      expect_read k.If t.mid u.mid u.front,
      label_again_again again l u.mid y.mid y.front
          (other (mark_read y.mid j k.Semicolon y.back).0 (λ a. absurd cc)),
      expect_read k.Semicolon y.mid j y.back,
    ) refl

pub statements_again : (xs : List Sequential) (i j : Input) → Fits 64 64 (of_sequence xs) i j → begins_statement (kind j) ≡ false → statements i ≡ Ok (xs, j)
unfolding statements
statements_again xs i j h e = sequence_again (if_statement 64) 64 (inner_again 64) xs i j h e
