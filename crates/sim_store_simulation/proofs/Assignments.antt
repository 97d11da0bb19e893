-- Due processes that are executed one after another, by what they own, without marks.
use Rattle.std.proofs.Common.{ℕ, zero, suc, ◌<◌, ◌≡◌, ◌&&◌, ◌||◌, eqb, not, cond, Bool, true, false, if◌then◌else◌, List, [], ◌∷◌, length}
use Rattle.std.proofs.Common.{refl, ap, sym, ◌∙◌, subst, arith}
use Rattle.std.specs.List.{All, filter}
use Rattle.std.proofs.lemmas.Bool.Decides.{nat_tests}
use Rattle.std.proofs.lemmas.List.{length-set}
use Rattle.std.proofs.lemmas.List.Elements.{All-cons, All-nil}
use Rattle.sim_flat_design.specs.Designs.{Design}
use Rattle.sim_containers.specs.Numbers.{is_beside}
use Rattle.sim_standard.proofs.Numbers.{counted, counted-in, counted-once, counted-same, ranged}
use Rattle.sim_standard.specs.Orders.{is_among, NoRepeats}
use Rattle.sim_standard.specs.Processes.{process_at}
use Rattle.sim_store_state.specs.FlatState.{FlatState}
use Rattle.sim_store_state.specs.InTurn as turn
use Rattle.sim_store_state.specs.InTurn.{AreExecuted, after_one}
use Rattle.sim_store_simulation.specs.declared.simulation.Contents.{Contents}
use Rattle.sim_store_simulation.specs.Contents.{IsWith, simulation_with, unmarked_of}
use Rattle.sim_store_simulation.specs.Simulation.{Simulation, IsComplete, IsMissing, IsStateOf, is_due, listed, those_in, with_marks, with_one}
use Rattle.sim_store_simulation.proofs.Going.{executed-are-due, executed-keeps, held-count, one-marked, ready-here}
use Rattle.sim_store_simulation.proofs.Walks.{missing-beside, others-missing}

-- ---- numbers that pass a test

-- those of them that pass another one
filter-counted : (f g : ℕ → Bool) (from count : ℕ) → filter g (counted f from count) ≡ counted (λ p. f p && g p) from count
unfolding counted
filter-counted f g from zero = refl
filter-counted f g from (suc count) = go (f from) (filter-counted f g (suc from) count)
  where
    keep : (c : Bool) → filter g (counted f (suc from) count) ≡ counted (λ p. f p && g p) (suc from) count
        → cond c (from ∷ filter g (counted f (suc from) count)) (filter g (counted f (suc from) count))
        ≡ (if c then from ∷ counted (λ p. f p && g p) (suc from) count else counted (λ p. f p && g p) (suc from) count)
    keep true e = ap (λ ns. from ∷ ns) e
    keep false e = e

    go : (b : Bool) → filter g (counted f (suc from) count) ≡ counted (λ p. f p && g p) (suc from) count
        → filter g (if b then from ∷ counted f (suc from) count else counted f (suc from) count)
        ≡ (if b && g from then from ∷ counted (λ p. f p && g p) (suc from) count else counted (λ p. f p && g p) (suc from) count)
    go true e = keep (g from) e
    go false e = e

-- each of them passes it
among-passes : (f : ℕ → Bool) (from count n : ℕ) → is_among (counted f from count) n ≡ true → f n ≡ true
unfolding counted
among-passes f from zero n e = absurd (cc e)
among-passes f from (suc count) n e = go (f from) refl (eqb from n) refl (among-passes f (suc from) count n) e
  where
    go : (b : Bool) → f from ≡ b → (c : Bool) → eqb from n ≡ c → (is_among (counted f (suc from) count) n ≡ true → f n ≡ true)
        → is_among (if b then from ∷ counted f (suc from) count else counted f (suc from) count) n ≡ true → f n ≡ true
    go true is true e rest a = let at : from ≡ n = grind (arith, nat_tests) in ap f (sym at) ∙ is
    go true is false e rest a = rest (ap (λ (c : Bool). c || is_among (counted f (suc from) count) n) (sym e) ∙ a)
    go false is c e rest a = rest a

-- and what holds of each number that passes it holds of them all
counted-each : (test : ℕ → Bool) (from count : ℕ) (P : ℕ → Type 0) → ((p : ℕ) → test p ≡ true → P p) → All P (counted test from count)
unfolding counted
counted-each test from zero P holds = All-nil P
counted-each test from (suc count) P holds = go (test from) refl (counted-each test (suc from) count P holds)
  where
    go : (b : Bool) → test from ≡ b → All P (counted test (suc from) count)
        → All P (if b then from ∷ counted test (suc from) count else counted test (suc from) count)
    go true is rest = All-cons P from (counted test (suc from) count) (holds from is) rest
    go false is rest = rest

-- ---- one after another

-- a simulation with these processes executed
abbrev with_all : Simulation → List ℕ → Simulation
with_all h [] = h
with_all h (n ∷ ns) = with_all (with_one h n) ns

with_all-marks : (ns : List ℕ) (h : Simulation) → with_all h ns ≡ with_marks h (with_all h ns).deposited
with_all-marks [] h = refl
with_all-marks (n ∷ ns) h = with_all-marks ns (with_one h n)

-- they have been executed, and those before
marked-all : (ns : List ℕ) (h : Simulation) → ((q : ℕ) → is_among ns q ≡ true → q < length h.deposited) → (p : ℕ)
    → those_in (with_all h ns).deposited p ≡ (is_among ns p || those_in h.deposited p)
marked-all [] h within p = refl
marked-all (n ∷ ns) h within p =
    let sized = length-set h.deposited n true in
    let there : n < length h.deposited = within n (first (eqb n n) (is_among ns n) (grind (arith, nat_tests))) in
    marked-all ns (with_one h n) (λ q a. omega (arith, sized, within q (later (eqb n q) (is_among ns q) a))) p
    ∙ (ap (λ (b : Bool). is_among ns p || b) (sym (one-marked h.deposited n p there))
    ∙ apart (is_among ns p) (eqb n p) (those_in h.deposited p))
  where
    first : (a b : Bool) → a ≡ true → (a || b) ≡ true
    first true b e = refl
    first false b e = absurd (cc e)

    later : (a b : Bool) → b ≡ true → (a || b) ≡ true
    later true b e = refl
    later false b e = e

    apart : (a b c : Bool) → (a || (b || c)) ≡ ((b || a) || c)
    apart true true c = refl
    apart true false c = refl
    apart false true c = refl
    apart false false c = refl

-- what is held is still that of the simulation
some-executed : (ns : List ℕ) {h : Simulation} {time delta : ℕ} {held : FlatState} {due waiting : List Bool} (i : IsStateOf h time delta held due waiting)
    → NoRepeats ns → ((p : ℕ) → is_among ns p ≡ true → IsMissing h p) → (held' : FlatState)
    → AreExecuted h.design.processes time ns held held' → IsStateOf (with_all h ns) time delta held' due waiting
some-executed [] {h} {time} {delta} {held} {due} {waiting} i once missing held' e =
    subst (λ (w : FlatState). IsStateOf h time delta w due waiting) (sym e) i
some-executed (n ∷ ns) {h} {time} {delta} {held} i once missing held' e =
    let here : eqb n n ≡ true = grind (arith, nat_tests) in
    let m : IsMissing h n = missing n (ap (λ (b : Bool). b || is_among ns n) here) in
    let process = process_at h.design.processes n in
    some-executed ns
    (executed-keeps i n m.due.number m.fresh process (after_one h.design.processes time held n) refl m.due.resumed refl e.0) once.1
    (λ p a. others-missing h n p (λ same. cc (a, ap (is_among ns) same, once.0)) (missing p (later (eqb n p) (is_among ns p) a))) held' e.1
  where
    later : (a b : Bool) → b ≡ true → (a || b) ≡ true
    later true b e = refl
    later false b e = e

-- ---- all that are missing

module _ (design : Design) (m : Contents) (of : IsWith design m m.deposited) where
  abbrev h : Simulation
  h = simulation_with design m m.deposited

  abbrev numbers : List ℕ
  numbers = counted (is_beside m.due m.deposited) 0 (length m.due)

  unmarked-are : unmarked_of m.due m.deposited ≡ numbers
  unmarked-are =
      let fresh : ℕ → Bool = λ p. not (those_in m.deposited p) in
      ap (filter fresh) (ranged (those_in m.due) 0 (length m.due)) ∙ filter-counted (those_in m.due) fresh 0 (length m.due)

  are-missing : (p : ℕ) → is_among numbers p ≡ true → IsMissing h p
  are-missing p a = missing-beside of.state p (among-passes (is_beside m.due m.deposited) 0 (length m.due) p a)

  -- they can be executed
  pub unmarked-executable : All (turn.IsExecutable design.processes m.time m.state.owned) (unmarked_of m.due m.deposited)
  unmarked-executable =
      subst (All (turn.IsExecutable design.processes m.time m.state.owned)) (sym unmarked-are)
      (counted-each (is_beside m.due m.deposited) 0 (length m.due) (turn.IsExecutable design.processes m.time m.state.owned)
      (λ p passes.
      let missing = missing-beside of.state p passes in
      record {
        number = missing.due.number;
        owns = omega (arith, missing.due.number, held-count of.state);
        ready = ready-here of.state p missing.due.number missing.fresh;
      }))

  -- and once they have been, all due processes have
  module _ (state : FlatState) (e : AreExecuted design.processes m.time (unmarked_of m.due m.deposited) m.state state) where
    done : IsStateOf (with_all h numbers) m.time m.delta state m.due m.waiting.waiting
    done =
        some-executed numbers of.state (counted-once (is_beside m.due m.deposited) 0 (length m.due)) are-missing state
        (subst (λ (ns : List ℕ). AreExecuted design.processes m.time ns m.state state) unmarked-are e)

    complete : IsComplete (with_all h numbers)
    complete p lt resumed =
        marked-all numbers h (λ q a. omega (arith, (are-missing q a).due.number, of.state.sized)) p
        ∙ go (those_in m.deposited p) refl
      where
        is_due_here : those_in m.due p ≡ true
        is_due_here = of.state.due_are p lt-here ∙ resumed-here
          where
            as_before : with_all h numbers ≡ with_marks h (with_all h numbers).deposited
            as_before = with_all-marks numbers h

            lt-here : p < length design.processes
            lt-here = subst (λ (g : Simulation). p < length g.design.processes) as_before lt

            resumed-here : is_due h p ≡ true
            resumed-here = subst (λ (g : Simulation). is_due g p ≡ true) as_before resumed

        go : (b : Bool) → those_in m.deposited p ≡ b → (is_among numbers p || those_in m.deposited p) ≡ true
        go true marked = rw marked (last (is_among numbers p))
          where
            last : (b : Bool) → (b || true) ≡ true
            last true = refl
            last false = refl
        go false marked =
            let there : p < length m.due = omega (
              arith,
              of.state.due_sized,
              subst (λ (g : Simulation). p < length g.design.processes)
                  (with_all-marks numbers h) lt,
            ) in
            let listed_there : is_among numbers p ≡ true =
            counted-in (is_beside m.due m.deposited) 0 (length m.due) p (omega arith) (omega (arith, there)) ∙ rw (is_due_here, marked) refl in
            ap (λ (b : Bool). b || those_in m.deposited p) listed_there

    pub all-held : IsStateOf (simulation_with design m m.due) m.time m.delta state m.due m.waiting.waiting
    all-held =
        subst (λ (g : Simulation). IsStateOf g m.time m.delta state m.due m.waiting.waiting)
        (with_all-marks numbers h ∙ ap (with_marks h) (executed-are-due done complete)) done

-- where none is marked, these are all due ones
pub unmarked-all : (due marks : List Bool) → ((p : ℕ) → those_in marks p ≡ false) → unmarked_of due marks ≡ listed due
unmarked-all due marks none =
    let fresh : ℕ → Bool = λ p. not (those_in marks p) in
    ap (filter fresh) (ranged (those_in due) 0 (length due)) ∙ (filter-counted (those_in due) fresh 0 (length due)
    ∙ (counted-same (λ p. those_in due p && fresh p) (those_in due) 0 (length due) (λ p ge lt. rw (none p) (and_true (those_in due p)))
    ∙ sym (ranged (those_in due) 0 (length due))))
  where
    and_true : (b : Bool) → (b && true) ≡ b
    and_true true = refl
    and_true false = refl
