-- Any interleaving of the statements of processes ends in the state in which these are executed together.
use Rattle.std.proofs.Common.{ℕ, zero, suc, ◌+◌, ◌<◌, ◌≤◌, ◌≡◌, ◌≢◌, ◌⊎◌, inl, inr, Bool, true, false, if◌then◌else◌, List, [], ◌∷◌, ◌++◌, Some, None}
use Rattle.std.proofs.Common.{length, set, map, refl, ap, sym, ◌∙◌, subst, arith}
use Rattle.std.specs.List.{All}
use Rattle.std.proofs.lemmas.List.Elements.{All-get_or}
use Rattle.std.proofs.lemmas.List.{append-nil}
use Rattle.std.proofs.lemmas.List.{get_or-set_same, get_or-set_other, get_or_past, set-set, set-get_or, length-set}
use Rattle.sim_flat_design.specs.declared.statement.SignalAssignment.{SignalAssignment}
use Rattle.sim_flat_design.specs.declared.statement.ConditionalWaveform.{ConditionalWaveform}
use Rattle.sim_flat_design.specs.declared.statement.Branch.{Branch}
use Rattle.sim_flat_design.specs.declared.statement.Statement.{Statement}
use Rattle.sim_flat_design.specs.declared.statement.Statement.TheVariants as statement
use Rattle.sim_flat_design.specs.declared.statement.Statement.TheOpen as so
use Rattle.sim_flat_design.specs.declared.statement.Statement.TheViews as views
use Rattle.sim_flat_design.specs.declared.statement.Statement.TheFolds as folds
use Rattle.sim_flat_design.specs.Processes.{Process, IsProcess}
use Rattle.sim_standard.specs.declared.net_view.NetView.{NetView}
use Rattle.sim_standard.specs.State.{State, Owned, owned_at}
use Rattle.sim_standard.specs.Statements.{Steps, Guarded, in_turn, statement_rule, branch_rule, statement_done, branch_done, carried_out, own_steps, executed}
use Rattle.sim_standard.specs.Processes.{object_net, seen, state_steps, part, owned_after, process_at}
use Rattle.sim_standard.proofs.Names.{no_process, with_owned}
use Rattle.sim_standard.proofs.Owning.{with-itself}
use Rattle.sim_standard.proofs.Frame.{same_owned_after}
use Rattle.sim_standard.specs.Together.{merged, together}
use Rattle.sim_standard.specs.Expressions.{boolean_value}
use Rattle.sim_flat_design.specs.declared.held.Held.{Held}
use Rattle.sim_standard.specs.Interleaving.{taken_statements, selected_assignment, selected_rule, selected_in, to_do, Interleaved, Over}
use Rattle.sim_standard.specs.Interleaving.{Carries_out, Selects, bodies}
use Rattle.sim_standard.proofs.Selecting.{unconditional, carried-append, own_sees, state_sees, selected_leaves}

-- ---- what each process owns once it has done what it has to do

abbrev pub finishing : (ℕ → ℕ → NetView) → ℕ → (ℕ → List Statement) → ℕ → List Owned → List Owned
finishing looks now b i [] = []
finishing looks now b i (o ∷ os) = executed (looks i) now (b i) o ∷ finishing looks now b (suc i) os

abbrev pub looks_of : List Process → State → ℕ → ℕ → NetView
looks_of ps s p = seen (object_net (process_at ps p)) s

abbrev pub finished : List Process → (ℕ → List Statement) → State → State
finished ps b s = record s { owned = finishing (looks_of ps s) s.time b 0 s.owned }

pub finishing-same : (looks : ℕ → ℕ → NetView) (now : ℕ) (b c : ℕ → List Statement) (i : ℕ) (os : List Owned) → ((k : ℕ) → i ≤ k → c k ≡ b k)
    → finishing looks now c i os ≡ finishing looks now b i os
finishing-same looks now b c i [] same = refl
finishing-same looks now b c i (o ∷ os) same =
    ap (λ (x : List Statement). executed (looks i) now x o ∷ finishing looks now c (suc i) os) (same i (omega arith))
    ∙ ap (λ w. executed (looks i) now (b i) o ∷ w) (finishing-same looks now b c (suc i) os (λ k h. same k (omega arith)))

pub finishing-none : (looks : ℕ → ℕ → NetView) (now : ℕ) (b : ℕ → List Statement) (i : ℕ) (os : List Owned) → ((k : ℕ) → b k ≡ [])
    → finishing looks now b i os ≡ os
unfolding executed in_turn
finishing-none looks now b i [] none = refl
finishing-none looks now b i (o ∷ os) none =
    ap (λ (x : List Statement). executed (looks i) now x o ∷ finishing looks now b (suc i) os) (none i)
    ∙ ap (λ w. o ∷ w) (finishing-none looks now b (suc i) os none)

-- a step of the process n
finishing-step : (looks : ℕ → ℕ → NetView) (now : ℕ) (b c : ℕ → List Statement) (i p n : ℕ) (os : List Owned) (own : Owned) → n ≡ i + p
    → ((k : ℕ) → k ≢ n → c k ≡ b k) → executed (looks n) now (c n) own ≡ executed (looks n) now (b n) (owned_at os p)
    → finishing looks now c i (set os p own) ≡ finishing looks now b i os
finishing-step looks now b c i p n [] own q same step = refl
finishing-step looks now b c i zero n (x ∷ os) own q same step =
    let at : n ≡ i = omega arith in
    let first : executed (looks i) now (c i) own ≡ executed (looks i) now (b i) x =
    subst (λ m. executed (looks m) now (c m) own ≡ executed (looks m) now (b m) x) at step in
    let rest = finishing-same looks now b c (suc i) os (λ k h. same k (omega arith)) in
    ap (λ w. w ∷ finishing looks now c (suc i) os) first ∙ ap (λ w. executed (looks i) now (b i) x ∷ w) rest
finishing-step looks now b c i (suc p) n (x ∷ os) own q same step =
    let first : c i ≡ b i = same i (omega arith) in
    ap (λ (y : List Statement). executed (looks i) now y x ∷ finishing looks now c (suc i) (set os p own)) first
    ∙ ap (λ w. executed (looks i) now (b i) x ∷ w) (finishing-step looks now b c (suc i) p n os own (omega arith) same step)

-- ---- what there is to do

-- a process that has something to do has a place
busy : (todo : List (List Statement)) (p : ℕ) → (to_do todo p ≡ [] → ⊥) → p < length todo
busy todo p h = go (upto p (length todo))
  where
    go : (p < length todo) ⊎ (length todo ≤ p) → p < length todo
    go (inl lt) = lt
    go (inr le) = absurd (h (get_or_past todo p [] le))

    upto : (a b : ℕ) → (a < b) ⊎ (b ≤ a)
    upto a b = grind arith

something : (todo : List (List Statement)) (p : ℕ) (x : Statement) (rest : List Statement) → to_do todo p ≡ x ∷ rest → p < length todo
something todo p x rest is = busy todo p (λ none. absurd (cc (none, is)))

other-todo : (todo : List (List Statement)) (p : ℕ) (rest : List Statement) (k : ℕ) → k ≢ p → to_do (set todo p rest) k ≡ to_do todo k
other-todo todo p rest k ne = get_or-set_other todo p k rest [] ne

own-todo : (todo : List (List Statement)) (p : ℕ) (rest : List Statement) → p < length todo → to_do (set todo p rest) p ≡ rest
own-todo todo p rest lt = get_or-set_same todo p rest [] lt

-- a step that changes what p owns and has to do leads on to the same end
onward : (ps : List Process) (s : State) (todo : List (List Statement)) (p : ℕ) (rest : List Statement) (own : Owned) → p < length todo
    → executed (looks_of ps s p) s.time rest own ≡ executed (looks_of ps s p) s.time (to_do todo p) (owned_at s.owned p)
    → finished ps (to_do (set todo p rest)) (with_owned p own s) ≡ finished ps (to_do todo) s
onward ps s todo p rest own lt step =
    let at : executed (looks_of ps s p) s.time (to_do (set todo p rest) p) own ≡ executed (looks_of ps s p) s.time (to_do todo p) (owned_at s.owned p) =
    ap (λ (x : List Statement). executed (looks_of ps s p) s.time x own) (own-todo todo p rest lt) ∙ step in
    ap (λ (w : List Owned). record s { owned = w })
    (finishing-step (looks_of ps s) s.time (to_do todo) (to_do (set todo p rest)) 0 p p s.owned own (omega arith) (other-todo todo p rest) at)

-- ---- a statement that is carried out at once

module _ (q : Process) (p : ℕ) (s : State) where
  abbrev on_state : Steps State
  on_state = state_steps (object_net q) p

  abbrev on_own : Steps Owned
  on_own = own_steps (seen (object_net q) s) s.time

  at_once_rule : (z : so.Statement-F Statement Branch) → selected_rule (seen (object_net q) s) (owned_at s.owned p).variables z ≡ None
      → statement_rule on_state (folds.map-Statement _ _ _ _ (statement_done on_state) (branch_done on_state) z) s
      ≡ with_owned p (statement_rule on_own (folds.map-Statement _ _ _ _ (statement_done on_own) (branch_done on_own) z) (owned_at s.owned p)) s
  at_once_rule (so.Signal a) e = refl
  at_once_rule (so.LogicVariable place value) e = refl
  at_once_rule (so.BooleanVariable place value) e = refl
  at_once_rule (so.If bs os) e = absurd cc
  at_once_rule so.Null e = with-itself p s

  -- it changes what its process owns just as it does by itself
  at_once : (x : Statement) → selected_in q p s x ≡ None
      → statement_done (state_steps (object_net q) p) x s ≡ with_owned p (statement_done (own_steps (seen (object_net q) s) s.time) x (owned_at s.owned p)) s
  unfolding statement_done branch_done
  at_once x e =
      let whole = folds.fold_out-Statement (State → State) (Guarded State) (statement_rule on_state) (branch_rule on_state) x in
      let own = folds.fold_out-Statement (Owned → Owned) (Guarded Owned) (statement_rule on_own) (branch_rule on_own) x in
      ap (λ (f : State → State). f s) whole
      ∙ (at_once_rule (views.out-Statement x) e
      ∙ ap (λ (f : Owned → Owned). with_owned p (f (owned_at s.owned p)) s) (sym own))

-- ---- each interleaving ends so

pub interleaved-finished : (ps : List Process) (s t : State) (todo : List (List Statement)) → Interleaved ps s todo t → t ≡ finished ps (to_do todo) s
unfolding executed in_turn
interleaved-finished ps s t todo (Over s' todo' none) =
    sym (ap (λ (w : List Owned). record s' { owned = w }) (finishing-none (looks_of ps s') s'.time (to_do todo') 0 s'.owned none))
interleaved-finished ps s t todo (Carries_out s' t' todo' p x rest is at w) =
    let q : Process = process_at ps p in
    let own : Owned = statement_done (own_steps (seen (object_net q) s') s'.time) x (owned_at s'.owned p) in
    let step : executed (looks_of ps s' p) s'.time rest own ≡ executed (looks_of ps s' p) s'.time (to_do todo' p) (owned_at s'.owned p) =
    ap (λ (y : List Statement). executed (looks_of ps s' p) s'.time y (owned_at s'.owned p)) (sym is) in
    interleaved-finished ps (statement_done (state_steps (object_net q) p) x s') t' (set todo' p rest) w
    ∙ (ap (finished ps (to_do (set todo' p rest))) (at_once q p s' x at)
    ∙ onward ps s' todo' p rest own (something todo' p x rest is) step)
interleaved-finished ps s t todo (Selects s' t' todo' p x rest chosen is at w) =
    let q : Process = process_at ps p in
    let own : Owned = owned_at s'.owned p in
    let steps = own_steps (seen (object_net q) s') s'.time in
    let left : statement_done steps x own ≡ carried_out steps chosen own =
    selected_leaves steps own (seen (object_net q) s') own.variables (own_sees (seen (object_net q) s') s'.time own) x chosen at in
    let step : executed (looks_of ps s' p) s'.time (chosen ++ rest) own ≡ executed (looks_of ps s' p) s'.time (to_do todo' p) own =
    carried-append steps chosen rest own
    ∙ (ap (carried_out steps rest) (sym left)
    ∙ ap (λ (y : List Statement). executed (looks_of ps s' p) s'.time y own) (sym is)) in
    interleaved-finished ps s' t' (set todo' p (chosen ++ rest)) w
    ∙ (ap (finished ps (to_do (set todo' p (chosen ++ rest)))) (with-itself p s')
    ∙ onward ps s' todo' p (chosen ++ rest) own (something todo' p x rest is) step)

-- ---- together is the end of an interleaving

module _ (ps : List Process) (f : ℕ → Bool) (s : State) (all : (p : ℕ) → p < length s.owned → IsProcess (process_at ps p)) where
  to_do-bodies : (i : ℕ) (qs : List Process) (k n : ℕ) → n ≡ i + k → to_do (bodies f i qs) k ≡ (if f n then (process_at qs k).body.statements else [])
  unfolding bodies
  to_do-bodies i [] k n q = sym (nothing (f n) [])
    where
      nothing : (c : Bool) (xs : List Statement) → (if c then xs else xs) ≡ xs
      nothing true xs = refl
      nothing false xs = refl
  to_do-bodies i (process ∷ qs) zero n q = let at : n ≡ i = omega arith in rw at refl
  to_do-bodies i (process ∷ qs) (suc k) n q = to_do-bodies (suc i) qs k n (omega arith)

  finishing-merged : (i : ℕ) (os : List Owned) → ((k : ℕ) → k < length os → owned_at os k ≡ owned_at s.owned (i + k)) → i + length os ≤ length s.owned
      → finishing (looks_of ps s) s.time (λ p. if f p then (process_at ps p).body.statements else []) i os
      ≡ merged f (λ p. owned_after (process_at ps p) (part (process_at ps p) p s)) i os
  unfolding executed in_turn merged
  finishing-merged i [] at le = refl
  finishing-merged i (o ∷ os) at le =
      let mine : o ≡ owned_at s.owned i = at 0 (omega arith) ∙ ap (owned_at s.owned) (omega arith) in
      let here : executed (looks_of ps s i) s.time (process_at ps i).body.statements o ≡ owned_after (process_at ps i) (part (process_at ps i) i s) =
      ap (executed (looks_of ps s i) s.time (process_at ps i).body.statements) mine ∙ same_owned_after (process_at ps i) i s (all i (omega (arith, le))) in
      let rest = finishing-merged (suc i) os (λ k h. at (suc k) (omega (arith, h)) ∙ ap (owned_at s.owned) (omega arith)) (omega (arith, le)) in
      ap (λ w. executed (looks_of ps s i) s.time (if f i then (process_at ps i).body.statements else []) o ∷ w) rest
      ∙ ap (λ w. w ∷ merged f (λ p. owned_after (process_at ps p) (part (process_at ps p) p s)) (suc i) os) (pick (f i) here)
    where
      pick : (c : Bool) {r : Owned} → executed (looks_of ps s i) s.time (process_at ps i).body.statements o ≡ r
          → executed (looks_of ps s i) s.time (if c then (process_at ps i).body.statements else []) o ≡ (if c then r else o)
      pick true e = e
      pick false e = refl

  pub finished-together : finished ps (to_do (bodies f 0 ps)) s ≡ together ps f s
  finished-together =
      let a = finishing-same (looks_of ps s) s.time (λ p. if f p then (process_at ps p).body.statements else []) (to_do (bodies f 0 ps)) 0 s.owned
      (λ k h. to_do-bodies 0 ps k k (omega arith)) in
      let b = finishing-merged 0 s.owned (λ k h. ap (owned_at s.owned) (omega arith)) (omega arith) in
      ap (λ (w : List Owned). record s { owned = w }) (a ∙ b)

-- ---- there is an interleaving: one process after another

module _ (ps : List Process) (p : ℕ) (t : State) where
  abbrev net : ℕ → ℕ
  net = object_net (process_at ps p)

  abbrev steps : Steps State
  steps = state_steps net p

  -- a statement goes first, and then what else its process has to do
  abbrev GoesFirst : Statement → Type 0
  GoesFirst x = (rest : List Statement) (s : State) (todo : List (List Statement)) → p < length todo
      → Interleaved ps (statement_done steps x s) (set todo p rest) t → Interleaved ps s (set todo p (x ∷ rest)) t

  -- and so do statements
  abbrev AllGoFirst : List Statement → Type 0
  AllGoFirst xs = (rest : List Statement) (s : State) (todo : List (List Statement)) → p < length todo
      → Interleaved ps (carried_out steps xs s) (set todo p rest) t → Interleaved ps s (set todo p (xs ++ rest)) t

  -- the statements of a branch
  abbrev BranchGoesFirst : Branch → Type 0
  BranchGoesFirst b = AllGoFirst (views.out-Branch b).statements

  abbrev Part : Type 0
  Part = (x : Statement) × GoesFirst x

  abbrev BranchPart : Type 0
  BranchPart = (b : Branch) × BranchGoesFirst b

  parts_go : (qs : List Part) → AllGoFirst (map (λ (q : Part). q.0) qs)
  unfolding in_turn
  parts_go [] rest s todo lt w = w
  parts_go (q ∷ qs) rest s todo lt w =
      q.1 (map (λ (r : Part). r.0) qs ++ rest) s todo lt (parts_go qs rest (statement_done steps q.0 s) todo lt w)

  -- what is carried out at once
  carries : (x : Statement) (rest : List Statement) (s : State) (todo : List (List Statement)) → p < length todo → selected_in (process_at ps p) p s x ≡ None
      → Interleaved ps (statement_done steps x s) (set todo p rest) t → Interleaved ps s (set todo p (x ∷ rest)) t
  carries x rest s todo lt at w =
      Carries_out s t (set todo p (x ∷ rest)) p x rest (own-todo todo p (x ∷ rest) lt) at
      (subst (λ (l : List (List Statement)). Interleaved ps (statement_done steps x s) l t) (sym (set-set todo p (x ∷ rest) rest)) w)

  -- what selects others that go first
  selects : (x : Statement) (chosen rest : List Statement) (s : State) (todo : List (List Statement)) → p < length todo
      → selected_in (process_at ps p) p s x ≡ Some chosen
      → AllGoFirst chosen → Interleaved ps (statement_done steps x s) (set todo p rest) t → Interleaved ps s (set todo p (x ∷ rest)) t
  selects x chosen rest s todo lt at go w =
      let same : statement_done steps x s ≡ carried_out steps chosen s =
      selected_leaves steps s (seen net s) (owned_at s.owned p).variables (state_sees net p s) x chosen at in
      let then_ = go rest s todo lt (subst (λ (u : State). Interleaved ps u (set todo p rest) t) same w) in
      Selects s t (set todo p (x ∷ rest)) p x rest chosen (own-todo todo p (x ∷ rest) lt) at
      (subst (λ (l : List (List Statement)). Interleaved ps s l t) (sym (set-set todo p (x ∷ rest) (chosen ++ rest))) then_)

  -- the statements of the branch that is taken go first
  taken_go : (s : State) (look : ℕ → NetView) (variables : List Held) (qs : List BranchPart) (os : List Statement) → AllGoFirst os
      → AllGoFirst (taken_statements look variables (map (λ (q : BranchPart). q.0) qs) os)
  unfolding taken_statements
  taken_go s look variables [] os last = last
  taken_go s look variables (q ∷ qs) os last =
      go (boolean_value look variables (views.out-Branch q.0).condition) (taken_go s look variables qs os last)
    where
      go : (c : Bool) → AllGoFirst (taken_statements look variables (map (λ (r : BranchPart). r.0) qs) os)
          → AllGoFirst (if c then (views.out-Branch q.0).statements else taken_statements look variables (map (λ (r : BranchPart). r.0) qs) os)
      go true rest = q.1
      go false rest = rest

  -- what a statement selects, by its outermost part
  rolled : (z : so.Statement-F Statement Branch) (s : State) → selected_in (process_at ps p) p s (views.roll-Statement z)
      ≡ selected_rule (seen net s) (owned_at s.owned p).variables z
  rolled z s = ap (selected_rule (seen net s) (owned_at s.owned p).variables) (views.out-roll-Statement z)

  signal_goes : (a : SignalAssignment) (cs : List ConditionalWaveform) → a.conditional ≡ cs → GoesFirst (views.roll-Statement (so.Signal a))
  unfolding in_turn
  signal_goes a [] none rest s todo lt w =
      carries (views.roll-Statement (so.Signal a)) rest s todo lt
      (rolled (so.Signal a) s ∙ ap (selected_assignment (seen net s) (owned_at s.owned p).variables a) none) w
  signal_goes a (c ∷ cs) some rest s todo lt w =
      let b : SignalAssignment = unconditional (seen net s) (owned_at s.owned p).variables a in
      selects (views.roll-Statement (so.Signal a)) (views.roll-Statement (so.Signal b) ∷ []) rest s todo lt
      (rolled (so.Signal a) s
      ∙ (ap (selected_assignment (seen net s) (owned_at s.owned p).variables a) some
      ∙ ap (λ (y : Statement). Some (y ∷ [])) (sym (statement.rolls-Signal b))))
      (λ rest' s' todo' lt' w'. carries (views.roll-Statement (so.Signal b)) rest' s' todo' lt' (rolled (so.Signal b) s') w') w

  parts : (y : so.Statement-F Part BranchPart) → GoesFirst (views.roll-Statement (folds.map-Statement _ _ _ _ (λ (q : Part). q.0) (λ (q : BranchPart). q.0) y))
  parts (so.Signal a) = signal_goes a a.conditional refl
  parts (so.LogicVariable n x) = λ rest s todo lt w. carries (views.roll-Statement (so.LogicVariable n x)) rest s todo lt (rolled (so.LogicVariable n x) s) w
  parts (so.BooleanVariable n x) = λ rest s todo lt w. carries (views.roll-Statement (so.BooleanVariable n x)) rest s todo lt
      (rolled (so.BooleanVariable n x) s) w
  parts (so.If bs xs) = λ rest s todo lt w.
      let branches : List Branch = map (λ (q : BranchPart). q.0) bs in
      let last : List Statement = map (λ (q : Part). q.0) xs in
      selects (views.roll-Statement (so.If branches last)) (taken_statements (seen net s) (owned_at s.owned p).variables branches last) rest s todo lt
      (rolled (so.If branches last) s) (taken_go s (seen net s) (owned_at s.owned p).variables bs last (parts_go xs)) w
  parts so.Null = λ rest s todo lt w. carries (views.roll-Statement so.Null) rest s todo lt (rolled so.Null s) w

  branch_parts : (y : so.Branch-F Part BranchPart)
      → BranchGoesFirst (views.roll-Branch (folds.map-Branch _ _ _ _ (λ (q : Part). q.0) (λ (q : BranchPart). q.0) y))
  branch_parts y = parts_go y.statements

  goes_first : (x : Statement) → GoesFirst x
  goes_first = folds.ind-Statement GoesFirst BranchGoesFirst
      (λ x y is. subst (λ z. GoesFirst (views.roll-Statement z)) is (parts y))
      (λ x y is. subst (λ z. BranchGoesFirst (views.roll-Branch z)) is (branch_parts y))

  all_go_first : (xs : List Statement) → AllGoFirst xs
  unfolding in_turn
  all_go_first [] rest s todo lt w = w
  all_go_first (x ∷ xs) rest s todo lt w = goes_first x (xs ++ rest) s todo lt (all_go_first xs rest (statement_done steps x s) todo lt w)

-- there is an order of steps to the end: one process after another, the last first
some_interleaving : (ps : List Process) (m : ℕ) (s : State) (todo : List (List Statement)) → m ≤ length todo → ((p : ℕ) → m ≤ p → to_do todo p ≡ [])
    → (t : State) × Interleaved ps s todo t
some_interleaving ps zero s todo le none = (s, Over s todo (λ p. none p (omega arith)))
some_interleaving ps (suc m) s todo le none =
    let b : List Statement = to_do todo m in
    let rest = some_interleaving ps m (carried_out (state_steps (object_net (process_at ps m)) m) b s) (set todo m []) (omega (arith, length-set todo m []))
    (λ p h. after p (up m p h)) in
    let w : Interleaved ps s (set todo m (b ++ [])) rest.0 = all_go_first ps m rest.0 b [] s todo (omega arith) rest.1 in
    (rest.0, subst (λ (l : List (List Statement)). Interleaved ps s l rest.0) (ap (set todo m) (append-nil b) ∙ set-get_or todo m []) w)
  where
    up : (a c : ℕ) → a ≤ c → (c ≡ a) ⊎ (suc a ≤ c)
    up a c h = grind arith

    after : (p : ℕ) → (p ≡ m) ⊎ (suc m ≤ p) → to_do (set todo m []) p ≡ []
    after p (inl e) = subst (λ q. to_do (set todo m []) q ≡ []) (sym e) (own-todo todo m [] (omega arith))
    after p (inr h) = other-todo todo m [] p (omega arith) ∙ none p h

-- ---- both ways

module _ (ps : List Process) (f : ℕ → Bool) (s t : State) (is : All IsProcess ps) (len : length s.owned ≡ length ps) where
  all_are : (p : ℕ) → p < length s.owned → IsProcess (process_at ps p)
  all_are p h = All-get_or IsProcess ps p no_process (omega (arith, h, len)) is

  pub interleaved-together : Interleaved ps s (bodies f 0 ps) t → t ≡ together ps f s
  interleaved-together w = interleaved-finished ps s t (bodies f 0 ps) w ∙ finished-together ps f s all_are

  pub together-interleaved : t ≡ together ps f s → Interleaved ps s (bodies f 0 ps) t
  together-interleaved e =
      let w = some_interleaving ps (length (bodies f 0 ps)) s (bodies f 0 ps) (omega arith) (λ p h. get_or_past (bodies f 0 ps) p [] h) in
      let end : w.0 ≡ t = interleaved-finished ps s w.0 (bodies f 0 ps) w.1 ∙ (finished-together ps f s all_are ∙ sym e) in
      subst (λ (x : State). Interleaved ps s (bodies f 0 ps) x) end w.1
