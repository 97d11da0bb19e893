-- The records of a run: each change is of a net that there is, how many records there are, and how many changes.
use Rattle.std.proofs.Common.{◌≡◌, ℕ, zero, suc, ◌+◌, ◌<◌, ◌≤◌, Bool, List, [], ◌∷◌, ◌++◌, drop, length, map, Option, None, Some, option_map, option_to_list}
use Rattle.std.proofs.Common.{refl, sym, ap, subst, ◌∙◌, arith, length-append, append-nil}
use Rattle.std.proofs.lemmas.List.{length-map}
use Rattle.std.proofs.lemmas.List.Concat.{length-flat_map}
use Rattle.std.proofs.lemmas.List.Elements.{All-append, All-filter, All-from_recursion, All-map}
use Rattle.std.proofs.lemmas.List.FromFn.{length-enumerate_from}
use Rattle.std.specs.List.{All, AllByRecursion, enumerate_from, filter, flat_map}
use Rattle.sim_logic.specs.declared.logic.Logic.{Logic}
use Rattle.sim_flat_design.specs.Designs.{Design}
use Rattle.sim_flat_design.specs.Processes.{IsProcess}
use Rattle.sim_standard.specs.declared.net_view.NetView.{NetView}
use Rattle.sim_standard.specs.State.{State}
use Rattle.sim_standard.specs.declared.record.Record.{Record}
use Rattle.sim_standard.specs.Initialization.{first_state}
use Rattle.sim_standard.specs.Records.{IsNamed, all_changes, changes_from, event_count, records_to, values_of}
use Rattle.sim_standard.specs.Cycle.{cycle_end, ended, next_updated}
use Rattle.sim_standard.specs.Midway.{updated_in}
use Rattle.sim_standard.specs.Together.{cycle_end_together}
use Rattle.sim_standard.proofs.Names.{first_record, numbered_value, record_of, record_with}
use Rattle.sim_standard.proofs.Midway.{carried_on}
use Rattle.sim_standard.proofs.Parallel.{FitsCycles, HasAll, ended_fits, executed_delta, executed_nets, executed_time, first_nets, in_turn_is_together}
use Rattle.sim_standard.proofs.Parallel.{updated_all}

-- ---- each change is of a net that there is

numbers_below : (high n : ℕ) (nets : List NetView) → n + length nets ≤ high → All (λ (x : ℕ × NetView). x.0 < high) (enumerate_from n nets)
numbers_below high n nets h = All-from_recursion (λ (x : ℕ × NetView). x.0 < high) (enumerate_from n nets) (go n nets h)
  where
    go : (m : ℕ) (xs : List NetView) → m + length xs ≤ high → AllByRecursion (λ (x : ℕ × NetView). x.0 < high) (enumerate_from m xs)
    go m [] h = tt
    go m (x ∷ xs) h = (omega arith, go (m + 1) xs (omega arith))

values_named : (high : ℕ) (nets : List NetView) → length nets ≤ high → All (λ (c : ℕ × Logic). c.0 < high) (values_of nets)
values_named high nets h = All-map (λ (c : ℕ × Logic). c.0 < high) numbered_value (enumerate_from 0 nets) (numbers_below high 0 nets (omega arith))

abbrev is_changed : ℕ × NetView → Bool
is_changed x = x.1.event

changes_named : (high : ℕ) (nets : List NetView) → length nets ≤ high → All (λ (c : ℕ × Logic). c.0 < high) (changes_from 0 nets)
changes_named high nets h =
    All-map (λ (c : ℕ × Logic). c.0 < high) numbered_value (filter is_changed (enumerate_from 0 nets))
    (All-filter is_changed (λ (x : ℕ × NetView). x.0 < high) (enumerate_from 0 nets) (numbers_below high 0 nets (omega arith)))

pub all_named : (d : Design) → All IsProcess d.processes → (k : ℕ) → All (IsNamed (length d.nets)) (records_to d k)
unfolding records_to
all_named d is zero =
    let fits : length (first_state d).nets ≤ length d.nets = let e = first_nets d in omega (arith, e) in
    All-from_recursion (IsNamed (length d.nets)) (first_record d ∷ []) (values_named (length d.nets) (first_state d).nets fits, tt)
all_named d is (suc k) = go (ended d (suc k)) (ended_fits d is (suc k)) (all_named d is k)
  where
    go : (o : Option State) → FitsCycles d (suc k) o → All (IsNamed (length d.nets)) (records_to d k)
        → All (IsNamed (length d.nets)) (records_to d k ++ map record_of (option_to_list o))
    go None f named = subst (λ (rs : List Record). All (IsNamed (length d.nets)) rs) (sym (append-nil (records_to d k))) named
    go (Some s) f named =
        let fits : length s.nets ≤ length d.nets = let e = f.0 in omega (arith, e) in
        All-append (IsNamed (length d.nets)) (records_to d k) (record_of s ∷ []) named
        (All-from_recursion (IsNamed (length d.nets)) (record_of s ∷ []) (changes_named (length d.nets) s.nets fits, tt))

-- ---- the record of one more cycle

-- by its end
pub one-more-record : (d : Design) (k : ℕ) (s : State) → ended d (suc k) ≡ Some s → records_to d (suc k) ≡ records_to d k ++ record_of s ∷ []
unfolding records_to
one-more-record d k s e = ap (λ (o : Option State). records_to d k ++ map record_of (option_to_list o)) e

record-same : (s u : State) → s.time ≡ u.time → s.delta ≡ u.delta → s.nets ≡ u.nets → record_of s ≡ record_of u
record-same s u t d n =
    ap (λ (x : ℕ). record_with x s.delta s.nets) t
    ∙ (ap (λ (x : ℕ). record_with u.time x s.nets) d ∙ ap (λ (x : List NetView). record_with u.time u.delta x) n)

-- by the state after its update: executions change neither time nor nets
pub one-recorded : (d : Design) → All IsProcess d.processes → (k : ℕ) (u : State) → updated_in d (suc k) ≡ Some u
    → records_to d (suc k) ≡ records_to d k ++ record_of u ∷ []
one-recorded d is k u e =
    let end : ended d (suc k) ≡ Some (cycle_end d (suc k) u) = carried_on d (suc k) ∙ ap (option_map (cycle_end d (suc k))) e in
    let counted : length u.owned ≡ length d.processes = subst (HasAll d) e (updated_all d is (suc k)) in
    let same : record_of (cycle_end d (suc k) u) ≡ record_of u =
    ap record_of (in_turn_is_together d is (suc k) u counted)
    ∙ record-same (cycle_end_together d (suc k) u) u (executed_time d (suc k) u) (executed_delta d (suc k) u) (executed_nets d (suc k) u) in
    one-more-record d k (cycle_end d (suc k) u) end ∙ ap (λ (r : Record). records_to d k ++ r ∷ []) same

-- ---- how many records there are

one-more-counted : (d : Design) (k : ℕ) (s : State) → ended d (suc k) ≡ Some s → length (records_to d k) ≡ suc k → length (records_to d (suc k)) ≡ suc (suc k)
one-more-counted d k s e before =
    let whole : length (records_to d (suc k)) ≡ length (records_to d k) + length (record_of s ∷ []) =
    ap (λ (rs : List Record). length rs) (one-more-record d k s e) ∙ length-append (records_to d k) (record_of s ∷ []) in
    omega (arith, whole, before)

-- there is an earlier cycle for each, and a record of each
pub length-records_to : (d : Design) (k : ℕ) (s : State) → ended d k ≡ Some s → length (records_to d k) ≡ suc k
unfolding records_to ended
length-records_to d zero s e = refl
length-records_to d (suc k) s e = one-more-counted d k s e (go (ended d k) e (λ t at. length-records_to d k t at))
  where
    go : (o : Option State) → option_map (cycle_end d (suc k)) (next_updated d o) ≡ Some s → ((t : State) → o ≡ Some t → length (records_to d k) ≡ suc k)
        → length (records_to d k) ≡ suc k
    go None f before = absurd (cc f)
    go (Some t) f before = before t refl

-- ---- how many changes there are

pub first-recorded : (d : Design) (k : ℕ) → records_to d k ≡ first_record d ∷ drop 1 (records_to d k)
unfolding records_to
first-recorded d zero = refl
first-recorded d (suc k) =
    let more : List Record = map record_of (option_to_list (ended d (suc k))) in
    let whole = ap (λ (rs : List Record). rs ++ more) (first-recorded d k) in
    whole ∙ ap (λ (rs : List Record). first_record d ∷ rs) (ap (drop 1) (sym whole))

pub records-begun : (d : Design) (k : ℕ) → 0 < length (records_to d k)
records-begun d k = omega (arith, ap length (first-recorded d k))

-- all changes are those of the initialization, one for each net, and the events of the cycles
pub change_count : (d : Design) → All IsProcess d.processes → (k : ℕ) → length (all_changes (records_to d k)) ≡ length d.nets + event_count (records_to d k)
change_count d is k =
    let first : Record = first_record d in
    let rest = drop 1 (records_to d k) in
    let all : length (all_changes (records_to d k)) ≡ length (first.changes ++ flat_map (λ (r : Record). r.changes) rest) =
    ap (λ (rs : List Record). length (all_changes rs)) (first-recorded d k) in
    let nets : length first.changes ≡ length d.nets =
    length-map (enumerate_from 0 (first_state d).nets) numbered_value ∙ (length-enumerate_from 0 (first_state d).nets ∙ first_nets d) in
    omega (arith, all, length-append first.changes (flat_map (λ (r : Record). r.changes) rest), nets, length-flat_map (λ (r : Record). r.changes) rest)
