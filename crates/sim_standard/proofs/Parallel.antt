-- The states of processes that are executed together are those of processes that are executed one after another.
use Rattle.std.proofs.Common.{ℕ, zero, suc, ◌+◌, ◌<◌, ◌≤◌, ◌≡◌, eqb, Bool, true, false, if◌then◌else◌, List, [], ◌∷◌, Option, None, Some, option_map}
use Rattle.std.proofs.Common.{length, map, refl, ap, sym, ◌∙◌, subst, arith}
use Rattle.std.specs.List.{All}
use Rattle.std.proofs.lemmas.List.{length-map}
use Rattle.std.proofs.lemmas.List.Elements.{All-from_recursion}
use Rattle.sim_flat_design.specs.Designs.{Design, Net}
use Rattle.sim_flat_design.specs.Processes.{IsProcess}
use Rattle.sim_standard.specs.State.{State, Owned, all_drivers}
use Rattle.sim_standard.specs.Processes.{part, owned_after, process_at}
use Rattle.sim_standard.specs.Drivers.{DriverState, next_time}
use Rattle.sim_standard.specs.declared.net_view.NetView.{NetView}
use Rattle.sim_standard.specs.Cycle.{updated, is_at_once, is_waiting, first_executed, is_delta_next, processes_where, cycle_end, next_updated, ended}
use Rattle.sim_standard.specs.Midway.{updated_in}
use Rattle.sim_standard.specs.Initialization.{first_owned, first_state}
use Rattle.sim_standard.specs.Orders.{is_among, one_by_one}
use Rattle.sim_standard.specs.Together.{merged, together, cycle_end_together, parallel}
use Rattle.sim_standard.proofs.Names.{own_taken, net_started, nets_updated, with_waiting}
use Rattle.sim_standard.proofs.Numbers.{counted, ranged, counted-once, counted-below, counted-in}
use Rattle.sim_standard.proofs.Together.{length-merged, in_any_order}

pub merged-below : (f g : ℕ → Bool) (r : ℕ → Owned) (i : ℕ) (os : List Owned) → ((k : ℕ) → i ≤ k → k < i + length os → f k ≡ g k) → merged f r i os
    ≡ merged g r i os
unfolding merged
merged-below f g r i [] same = refl
merged-below f g r i (o ∷ os) same =
    rw (same i (omega arith) (omega arith))
    (ap (λ w. (if g i then r i else o) ∷ w) (merged-below f g r (suc i) os (λ k h l. same k (omega arith) (omega arith))))

pub length-nets_updated : (ds : List DriverState) (nets : List Net) (olds : List NetView) → length olds ≡ length nets
    → length (nets_updated ds nets olds) ≡ length nets
length-nets_updated ds [] olds e = refl
length-nets_updated ds (n ∷ ns) [] e = absurd (omega (arith, e))
length-nets_updated ds (n ∷ ns) (o ∷ os) e = ap suc (length-nets_updated ds ns os (omega (arith, e)))

-- A state has what each process owns.
abbrev pub HasAll : Design → Option State → Type 0
HasAll d None = Unit {0}
HasAll d (Some s) = length s.owned ≡ length d.processes

-- A state has the design's nets, and its delta number is at most that of the cycles before it.
abbrev pub FitsCycles : Design → ℕ → Option State → Type 0
FitsCycles d k None = Unit {0}
FitsCycles d k (Some s) = (length s.nets ≡ length d.nets) × (s.delta ≤ k)

-- ---- the first state

pub first_all : (d : Design) → length (first_state d).owned ≡ length d.processes
first_all d = length-map d.processes (first_owned d.drivers)

pub first_nets : (d : Design) → length (first_state d).nets ≡ length d.nets
first_nets d = length-map d.nets (net_started (all_drivers (map (first_owned d.drivers) d.processes)))

-- ---- what processes that are executed together leave as it was

module _ (d : Design) (k : ℕ) (s : State) where
  together_owned : (f : ℕ → Bool) (x : State) → length (together d.processes f x).owned ≡ length x.owned
  together_owned f x = length-merged f (λ p. owned_after (process_at d.processes p) (part (process_at d.processes p) p x)) 0 x.owned

  abbrev at_first : State
  at_first = together d.processes (is_at_once d k s) s

  abbrev at_last : State
  at_last = together d.processes (is_waiting d k s) at_first

  abbrev waiting_now : List ℕ
  waiting_now = processes_where d (is_waiting d k s)

  pub executed_owned : length (cycle_end_together d k s).owned ≡ length s.owned
  executed_owned = go (is_delta_next k at_first) at_first at_last (together_owned (is_at_once d k s) s)
      (together_owned (is_waiting d k s) at_first ∙ together_owned (is_at_once d k s) s)
    where
      go : (b : Bool) (x y : State) → length x.owned ≡ length s.owned → length y.owned ≡ length s.owned
          → length (if b then with_waiting waiting_now x else with_waiting [] y).owned ≡ length s.owned
      go true x y ex ey = ex
      go false x y ex ey = ey

  pub executed_nets : (cycle_end_together d k s).nets ≡ s.nets
  executed_nets = go (is_delta_next k at_first) at_first at_last refl refl
    where
      go : (b : Bool) (x y : State) → x.nets ≡ s.nets → y.nets ≡ s.nets → (if b then with_waiting waiting_now x else with_waiting [] y).nets ≡ s.nets
      go true x y ex ey = ex
      go false x y ex ey = ey

  pub executed_delta : (cycle_end_together d k s).delta ≡ s.delta
  executed_delta = go (is_delta_next k at_first) at_first at_last refl refl
    where
      go : (b : Bool) (x y : State) → x.delta ≡ s.delta → y.delta ≡ s.delta → (if b then with_waiting waiting_now x else with_waiting [] y).delta ≡ s.delta
      go true x y ex ey = ex
      go false x y ex ey = ey

  pub executed_time : (cycle_end_together d k s).time ≡ s.time
  executed_time = go (is_delta_next k at_first) at_first at_last refl refl
    where
      go : (b : Bool) (x y : State) → x.time ≡ s.time → y.time ≡ s.time → (if b then with_waiting waiting_now x else with_waiting [] y).time ≡ s.time
      go true x y ex ey = ex
      go false x y ex ey = ey

-- the delta number of the next cycle
next_slow : (b : Bool) (delta k : ℕ) → delta ≤ k → (if b then delta + 1 else 0) ≤ suc k
next_slow true delta k slow = omega (arith, slow)
next_slow false delta k slow = omega arith

module _ (d : Design) (is : All IsProcess d.processes) where
  -- those of a set, one after another, leave what they leave together
  pub set_is_together : (f : ℕ → Bool) (s : State) → length s.owned ≡ length d.processes
      → one_by_one d.processes (processes_where d f) s ≡ together d.processes f s
  set_is_together f s len =
      let n = length d.processes in
      let below = All-from_recursion (λ (p : ℕ). p < length s.owned) (counted f 0 n) (counted-below f 0 n (length s.owned) (omega (arith, len))) in
      ap (λ (ps : List ℕ). one_by_one d.processes ps s) (ranged f 0 n)
      ∙ (in_any_order d.processes (counted f 0 n) s is len (counted-once f 0 n) below
      ∙ ap (λ (os : List Owned). record s { owned = os })
      (merged-below (is_among (counted f 0 n)) f (λ p. owned_after (process_at d.processes p) (part (process_at d.processes p) p s)) 0 s.owned
      (λ j h l. counted-in f 0 n j h (omega (arith, l, len)))))

  pub first_is_together : (k : ℕ) (s : State) → length s.owned ≡ length d.processes → first_executed d k s ≡ together d.processes (is_at_once d k s) s
  first_is_together k s len = set_is_together (is_at_once d k s) s len

  -- the processes of a cycle, one after another, leave what they leave together
  pub in_turn_is_together : (k : ℕ) (s : State) → length s.owned ≡ length d.processes → cycle_end d k s ≡ cycle_end_together d k s
  in_turn_is_together k s len =
      let x = together d.processes (is_at_once d k s) s in
      let ps = processes_where d (is_waiting d k s) in
      ap (λ (y : State). if is_delta_next k y then with_waiting ps y else with_waiting [] (one_by_one d.processes ps y)) (first_is_together k s len)
      ∙ ap (λ (y : State). if is_delta_next k x then with_waiting ps x else with_waiting [] y)
      (set_is_together (is_waiting d k s) x (together_owned d k s (is_at_once d k s) s ∙ len))

  -- the nets at the end of a cycle are those after its update
  pub end_nets : (k : ℕ) (s : State) → length s.owned ≡ length d.processes → (cycle_end d k s).nets ≡ s.nets
  end_nets k s len = ap (λ (x : State). x.nets) (in_turn_is_together k s len) ∙ executed_nets d k s

  -- ---- each state has what each process owns

  next_all : (o : Option State) → HasAll d o → HasAll d (next_updated d o)
  next_all None h = tt
  next_all (Some s) h = go (next_time (all_drivers s.owned))
    where
      go : (t : Option ℕ) → HasAll d (option_map (updated d s) t)
      go None = tt
      go (Some t) = length-map s.owned (own_taken t) ∙ h

  end_all : (k : ℕ) (o : Option State) → HasAll d o → HasAll d (option_map (cycle_end_together d k) o)
  end_all k None h = tt
  end_all k (Some s) h = executed_owned d k s ∙ h

  pub parallel_all : (k : ℕ) → HasAll d (parallel d k)
  unfolding parallel
  parallel_all zero = executed_owned d 0 (first_state d) ∙ first_all d
  parallel_all (suc k) = end_all (suc k) (next_updated d (parallel d k)) (next_all (parallel d k) (parallel_all k))

  same_end : (k : ℕ) (o : Option State) → HasAll d o → option_map (cycle_end d k) o ≡ option_map (cycle_end_together d k) o
  same_end k None h = refl
  same_end k (Some s) h = ap (λ (x : State). Some x) (in_turn_is_together k s h)

  pub parallel_standard : (k : ℕ) → parallel d k ≡ ended d k
  unfolding parallel ended
  parallel_standard zero = sym (same_end 0 (Some (first_state d)) (first_all d))
  parallel_standard (suc k) =
      sym (same_end (suc k) (next_updated d (parallel d k)) (next_all (parallel d k) (parallel_all k)))
      ∙ ap (λ (o : Option State). option_map (cycle_end d (suc k)) (next_updated d o)) (parallel_standard k)

  pub ended_all : (k : ℕ) → HasAll d (ended d k)
  ended_all k = subst (HasAll d) (parallel_standard k) (parallel_all k)

  pub updated_all : (k : ℕ) → HasAll d (updated_in d k)
  updated_all zero = first_all d
  updated_all (suc k) = next_all (ended d k) (ended_all k)

  -- ---- each has the design's nets, and few delta cycles

  next_fits : (k : ℕ) (o : Option State) → FitsCycles d k o → FitsCycles d (suc k) (next_updated d o)
  next_fits k None f = tt
  next_fits k (Some s) f = go (next_time (all_drivers s.owned))
    where
      go : (t : Option ℕ) → FitsCycles d (suc k) (option_map (updated d s) t)
      go None = tt
      go (Some t) = (length-nets_updated (all_drivers (map (own_taken t) s.owned)) d.nets s.nets f.0, next_slow (eqb t s.time) s.delta k f.1)

  end_fits : (k : ℕ) (o : Option State) → FitsCycles d k o → FitsCycles d k (option_map (cycle_end_together d k) o)
  end_fits k None f = tt
  end_fits k (Some s) f =
      let slow = executed_delta d k s in
      (ap (λ (ns : List NetView). length ns) (executed_nets d k s) ∙ f.0, omega (arith, slow, f.1))

  parallel_fits : (k : ℕ) → FitsCycles d k (parallel d k)
  unfolding parallel
  parallel_fits zero = end_fits 0 (Some (first_state d)) (first_nets d, omega arith)
  parallel_fits (suc k) = end_fits (suc k) (next_updated d (parallel d k)) (next_fits k (parallel d k) (parallel_fits k))

  pub ended_fits : (k : ℕ) → FitsCycles d k (ended d k)
  ended_fits k = subst (FitsCycles d k) (parallel_standard k) (parallel_fits k)

  pub updated_fits : (k : ℕ) → FitsCycles d k (updated_in d k)
  updated_fits zero = (first_nets d, omega arith)
  updated_fits (suc k) = next_fits k (ended d k) (ended_fits k)
