-- A cycle of a design without postponed processes executes what it resumes, and nothing else.
use Rattle.std.proofs.Common.{ℕ, ◌≡◌, ◌<◌, ◌≤◌, ◌&&◌, ◌||◌, not, nat_lt, Bool, true, false, if◌then◌else◌, List, [], length}
use Rattle.std.proofs.Common.{refl, ap, sym, ◌∙◌, arith}
use Rattle.std.proofs.lemmas.Bool.Decides.{nat_tests}
use Rattle.std.proofs.lemmas.List.{get_or_past}
use Rattle.std.specs.List.{All}
use Rattle.std.proofs.lemmas.List.Elements.{All-get_or}
use Rattle.sim_flat_design.specs.Designs.{Design}
use Rattle.sim_flat_design.specs.Processes.{Process, IsProcess}
use Rattle.sim_standard.specs.State.{State}
use Rattle.sim_standard.specs.Processes.{process_at}
use Rattle.sim_standard.specs.Orders.{is_among, one_by_one}
use Rattle.sim_standard.specs.Cycle.{is_at_once, is_resumed, is_waiting, cycle_end, first_executed, is_delta_next, processes_where}
use Rattle.sim_standard.proofs.Names.{is_postponed, no_process, with_waiting}
use Rattle.sim_standard.proofs.Numbers.{counted-none, counted-same, ranged}
use Rattle.sim_standard.proofs.Parallel.{first_is_together}

-- tests that agree on each number
where-same : (d : Design) (f g : ℕ → Bool) → ((p : ℕ) → f p ≡ g p) → processes_where d f ≡ processes_where d g
where-same d f g same =
    let n = length d.processes in
    ranged f 0 n ∙ (counted-same f g 0 n (λ p ge lt. same p) ∙ sym (ranged g 0 n))

not_one : (ps : List Process) (p : ℕ) → All (λ (q : Process). q.postponed ≡ false) ps → (process_at ps p).postponed ≡ false
not_one ps p none = go (nat_lt p (length ps)) refl
  where
    go : (b : Bool) → nat_lt p (length ps) ≡ b → (process_at ps p).postponed ≡ false
    go true e = let there : p < length ps = grind (arith, nat_tests) in All-get_or (λ (q : Process). q.postponed ≡ false) ps p no_process there none
    go false e = let past : length ps ≤ p = grind (arith, nat_tests) in ap (λ (q : Process). q.postponed) (get_or_past ps p no_process past)

and_not : (a b : Bool) → b ≡ false → (a && not b) ≡ a
and_not true b e = rw e refl
and_not false b e = refl

none_and : (a b : Bool) → a ≡ false → (a && b) ≡ false
none_and a b e = rw e refl

module _ (d : Design) (is : All IsProcess d.processes) (none : All (λ (q : Process). q.postponed ≡ false) d.processes) where
  pub without_postponed : (k : ℕ) (s : State) → length s.owned ≡ length d.processes → s.waiting ≡ []
      → cycle_end d k s ≡ one_by_one d.processes (processes_where d (is_resumed d k s)) s
  unfolding one_by_one
  without_postponed k s len nobody =
      let n = length d.processes in
      let nobody_now : processes_where d (is_waiting d k s) ≡ [] =
      ranged (is_waiting d k s) 0 n
      ∙ counted-none (is_waiting d k s) 0 n (λ p. none_and (is_postponed d p) (is_resumed d k s p || is_among s.waiting p) (not_one d.processes p none)) in
      let x = first_executed d k s in
      let still : x.waiting ≡ [] = ap (λ (y : State). y.waiting) (first_is_together d is k s len) ∙ nobody in
      let all : x ≡ one_by_one d.processes (processes_where d (is_resumed d k s)) s =
      ap (λ (ps : List ℕ). one_by_one d.processes ps s)
      (where-same d (is_at_once d k s) (is_resumed d k s) (λ p. and_not (is_resumed d k s p) (is_postponed d p) (not_one d.processes p none))) in
      ap (λ (ps : List ℕ). if is_delta_next k x then with_waiting ps x else with_waiting [] (one_by_one d.processes ps x)) nobody_now
      ∙ (go (is_delta_next k x) x still ∙ all)
    where
      go : (b : Bool) (y : State) → y.waiting ≡ [] → (if b then with_waiting [] y else with_waiting [] (one_by_one d.processes [] y)) ≡ y
      go true y e = ap (λ (ps : List ℕ). with_waiting ps y) (sym e)
      go false y e = ap (λ (ps : List ℕ). with_waiting ps y) (sym e)
