-- The values and totals of nets are those in the records.
use Rattle.std.proofs.Common.{ℕ, zero, suc, ◌+◌, ◌<◌, ◌≤◌, ◌≡◌, eqb, Bool, true, false, not, if◌then◌else◌, List, [], ◌∷◌, ◌++◌, Option, None, Some}
use Rattle.std.proofs.Common.{length, map, drop, option_map, unwrap_or, refl, ap, sym, ◌∙◌, subst, arith, cond, append-nil}
use Rattle.std.specs.List.{All, enumerate_from, filter, fold}
use Rattle.std.proofs.lemmas.Bool.Decides.{nat_tests}
use Rattle.std.proofs.lemmas.List.{length-append, length-map}
use Rattle.std.proofs.lemmas.List.Elements.{filter-append}
use Rattle.std.proofs.lemmas.List.Sums.{fold-append}
use Rattle.std.proofs.lemmas.Grind.{flat_map-append}
use Rattle.sim_logic.specs.declared.logic.Logic.{Logic}
use Rattle.sim_logic.specs.Logic.{is_same}
use Rattle.sim_logic.proofs.SameValues.{same_from_is_same}
use Rattle.sim_standard.specs.Drivers.{DriverState, next_time}
use Rattle.sim_flat_design.specs.Designs.{Design, Net}
use Rattle.sim_flat_design.specs.Processes.{IsProcess}
use Rattle.sim_standard.specs.declared.net_view.NetView.{NetView}
use Rattle.sim_standard.specs.State.{State, net_at, all_drivers}
use Rattle.sim_standard.specs.declared.record.Record.{Record}
use Rattle.sim_standard.specs.Initialization.{first_state}
use Rattle.sim_standard.specs.Cycle.{updated, cycle_end, next_updated, ended}
use Rattle.sim_standard.specs.Midway.{updated_in}
use Rattle.sim_standard.specs.Records.{all_changes, changes_from, records_to, values_of}
use Rattle.sim_standard.specs.Nets.{net_value}
use Rattle.sim_standard.specs.Agreement.{changes_of, is_of, total_of, value_by}
use Rattle.sim_standard.proofs.Names.{changed, nets_updated, numbered_value, own_taken, record_of}
use Rattle.sim_standard.proofs.Midway.{carried_on}
use Rattle.sim_standard.proofs.Parallel.{FitsCycles, HasAll, end_nets, ended_all, ended_fits, first_all, updated_all}
use Rattle.sim_standard.proofs.Records.{one-more-record, records-begun}

-- ---- filters

-- the order of two filters makes no difference
filter-filter : {X : Type 0} (p q : X → Bool) (xs : List X) → filter p (filter q xs) ≡ filter q (filter p xs)
filter-filter p q [] = refl
filter-filter {X} p q (x ∷ xs) = go (p x) (q x) refl refl (filter-filter p q xs)
  where
    go : (b c : Bool) → p x ≡ b → q x ≡ c → filter p (filter q xs) ≡ filter q (filter p xs)
        → filter p (cond c (x ∷ filter q xs) (filter q xs)) ≡ filter q (cond b (x ∷ filter p xs) (filter p xs))
    go true true e f rest = rw (e, f) (ap (λ ys. x ∷ ys) rest)
    go true false e f rest = rw f rest
    go false true e f rest = rw e rest
    go false false e f rest = rest

-- whether a net is the one with this number
abbrev is_at : ℕ → ℕ × NetView → Bool
is_at n x = eqb x.0 n

abbrev has_event : ℕ × NetView → Bool
has_event x = x.1.event

-- the changes of a net are those of the net with its number
of-net : (n : ℕ) (xs : List (ℕ × NetView)) → filter (is_of n) (map numbered_value xs) ≡ map numbered_value (filter (is_at n) xs)
of-net n [] = refl
of-net n (x ∷ xs) = go (eqb x.0 n) (of-net n xs)
  where
    go : (b : Bool) {ys : List (ℕ × Logic)} → ys ≡ map numbered_value (filter (is_at n) xs)
        → cond b (numbered_value x ∷ ys) ys ≡ map numbered_value (cond b (x ∷ filter (is_at n) xs) (filter (is_at n) xs))
    go true e = ap (λ ys. numbered_value x ∷ ys) e
    go false e = e

-- a number is that of no later net
none-later : (nets : List NetView) (i n : ℕ) → n < i → filter (is_at n) (enumerate_from i nets) ≡ []
none-later [] i n lt = refl
none-later (v ∷ nets) i n lt =
    let apart : eqb i n ≡ false = grind (arith, nat_tests) in
    rw apart (none-later nets (i + 1) n (omega arith))

-- a number is that of one net
one-there : (nets : List NetView) (i n m : ℕ) → n ≡ i + m → m < length nets → filter (is_at n) (enumerate_from i nets) ≡ (n, net_at nets m) ∷ []
one-there [] i n m e lt = absurd (omega (arith, lt))
one-there (v ∷ nets) i n zero e lt =
    let same : i ≡ n = omega (arith, e) in
    let at : eqb i n ≡ true = grind (arith, nat_tests) in
    rw (at, same) (ap (λ ys. (n, v) ∷ ys) (none-later nets (n + 1) n (omega arith)))
one-there (v ∷ nets) i n (suc m) e lt =
    let apart : eqb i n ≡ false = grind (arith, nat_tests) in
    rw apart (one-there nets (i + 1) n m (omega (arith, e)) (omega (arith, lt)))

-- ---- the changes of one record

-- the first record has each net once
pub first-changes : (nets : List NetView) (n : ℕ) → n < length nets → filter (is_of n) (values_of nets) ≡ (n, (net_at nets n).value) ∷ []
first-changes nets n lt = of-net n (enumerate_from 0 nets) ∙ ap (map numbered_value) (one-there nets 0 n n (omega arith) lt)

-- a later one has a net once if it has an event, else not at all
pub later-changes : (nets : List NetView) (n : ℕ) → n < length nets
    → filter (is_of n) (changes_from 0 nets) ≡ (if (net_at nets n).event then (n, (net_at nets n).value) ∷ [] else [])
later-changes nets n lt =
    of-net n (filter has_event (enumerate_from 0 nets))
    ∙ (ap (map numbered_value) (filter-filter (is_at n) has_event (enumerate_from 0 nets)
    ∙ ap (filter has_event) (one-there nets 0 n n (omega arith) lt))
    ∙ go (net_at nets n).event)
  where
    go : (b : Bool) → map numbered_value (cond b ((n, net_at nets n) ∷ []) []) ≡ (if b then (n, (net_at nets n).value) ∷ [] else [])
    go true = refl
    go false = refl

-- ---- one more record

changes-more : (rs : List Record) (r : Record) (n : ℕ) → changes_of (rs ++ r ∷ []) n ≡ changes_of rs n ++ filter (is_of n) r.changes
changes-more rs r n =
    ap (filter (is_of n)) (flat_map-append (λ (x : Record). x.changes) rs (r ∷ []) ∙ ap (λ cs. all_changes rs ++ cs) (append-nil r.changes))
    ∙ filter-append (is_of n) (all_changes rs) r.changes

value-more : (rs : List Record) (r : Record) (n : ℕ) → value_by (rs ++ r ∷ []) n ≡ fold changed (value_by rs n) (filter (is_of n) r.changes)
value-more rs r n = ap (fold changed None) (changes-more rs r n) ∙ fold-append changed None (changes_of rs n) (filter (is_of n) r.changes)

drop-more : (rs : List Record) (r : Record) → 0 < length rs → drop 1 (rs ++ r ∷ []) ≡ drop 1 rs ++ r ∷ []
drop-more [] r lt = absurd (omega (arith, lt))
drop-more (x ∷ rs) r lt = refl

pub total-more : (rs : List Record) (r : Record) (n : ℕ) → 0 < length rs → total_of (rs ++ r ∷ []) n ≡ total_of rs n + length (filter (is_of n) r.changes)
total-more rs r n lt =
    ap (λ (xs : List Record). length (changes_of xs n)) (drop-more rs r lt)
    ∙ (ap length (changes-more (drop 1 rs) r n) ∙ length-append (changes_of (drop 1 rs) n) (filter (is_of n) r.changes))

-- at first a net has had no event
pub total-first : (d : Design) (n : ℕ) → total_of (records_to d 0) n ≡ 0
unfolding records_to
total-first d n = refl

-- ---- the values of nets

-- a net without an event keeps its value
quiet : (ds : List DriverState) (nets : List Net) (olds : List NetView) (n : ℕ) → length olds ≡ length nets → n < length nets
    → (net_at (nets_updated ds nets olds) n).event ≡ false → (net_at (nets_updated ds nets olds) n).value ≡ (net_at olds n).value
quiet ds [] olds n e lt none = absurd (omega (arith, lt))
quiet ds (net ∷ nets) [] n e lt none = absurd (omega (arith, e))
quiet ds (net ∷ nets) (old ∷ olds) zero e lt none = sym (same_from_is_same old.value (net_value ds net) (go (is_same old.value (net_value ds net)) none))
  where
    go : (b : Bool) → not b ≡ false → b ≡ true
    go true e = refl
    go false e = absurd (cc e)
quiet ds (net ∷ nets) (old ∷ olds) (suc n) e lt none = quiet ds nets olds n (omega (arith, e)) (omega (arith, lt)) none

-- The nets of a state are those of the state before, each updated.
record Follows (d : Design) (before now : State) : Type 0 where
  drivers : List DriverState
  nets : now.nets ≡ nets_updated drivers d.nets before.nets

module _ (d : Design) (is : All IsProcess d.processes) where
  -- if there is one more cycle, there is the one before
  record HasBefore (k : ℕ) (now : State) : Type 0 where
    before : State
    there : ended d k ≡ Some before
    follows : Follows d before now

  cycle-follows : (k : ℕ) (now : State) (o : Option State) → ended d k ≡ o → option_map (cycle_end d (suc k)) (next_updated d o) ≡ Some now
      → HasBefore k now
  cycle-follows k now None at e = absurd (cc e)
  cycle-follows k now (Some s) at e = go (next_time (all_drivers s.owned)) e
    where
      go : (t : Option ℕ) → option_map (cycle_end d (suc k)) (option_map (updated d s) t) ≡ Some now → HasBefore k now
      go None f = absurd (cc f)
      go (Some t) f =
          let counted : length s.owned ≡ length d.processes = subst (HasAll d) at (ended_all d is k) in
          let same : (cycle_end d (suc k) (updated d s t)).nets ≡ (updated d s t).nets =
          end_nets d is (suc k) (updated d s t) (length-map s.owned (own_taken t) ∙ counted) in
          record {
            before = s;
            there = at;
            follows = record {
              drivers = all_drivers (map (own_taken t) s.owned);
              nets = ap (λ (o : Option State). (unwrap_or o s).nets) (sym f) ∙ same;
            };
          }

  one-before : (k : ℕ) (now : State) → ended d (suc k) ≡ Some now → HasBefore k now
  unfolding ended
  one-before k now e = cycle-follows k now (ended d k) refl e

  net-count : (k : ℕ) (s : State) → ended d k ≡ Some s → length s.nets ≡ length d.nets
  net-count k s e = (subst (FitsCycles d k) e (ended_fits d is k)).0

  -- the nets at the end of the initialization are the first ones
  first-end : (s : State) → ended d 0 ≡ Some s → (first_state d).nets ≡ s.nets
  unfolding ended
  first-end s e = sym (end_nets d is 0 (first_state d) (first_all d)) ∙ ap (λ (o : Option State). (unwrap_or o s).nets) e

  -- the value of each net is that of its last change in the records
  pub ended-values : (k n : ℕ) (s : State) → ended d k ≡ Some s → n < length d.nets → value_by (records_to d k) n ≡ Some (net_at s.nets n).value
  unfolding records_to
  ended-values zero n s e lt =
      let first = first-end s e in
      let counted = net-count 0 s e in
      let whole : changes_of (records_to d 0) n ≡ filter (is_of n) (values_of (first_state d).nets) =
      ap (filter (is_of n)) (append-nil (values_of (first_state d).nets)) in
      ap (fold changed None) (whole ∙ (ap (λ ns. filter (is_of n) (values_of ns)) first ∙ first-changes s.nets n (omega (arith, lt, counted))))
  ended-values (suc k) n s e lt =
      let b = one-before k s e in
      let counted = net-count (suc k) s e in
      let known : value_by (records_to d k) n ≡ Some (net_at b.before.nets n).value = ended-values k n b.before b.there lt in
      let more : value_by (records_to d (suc k)) n ≡ fold changed (value_by (records_to d k) n) (filter (is_of n) (changes_from 0 s.nets)) =
      ap (λ (rs : List Record). value_by rs n) (one-more-record d k s e) ∙ value-more (records_to d k) (record_of s) n in
      let kept : (net_at s.nets n).event ≡ false → (net_at s.nets n).value ≡ (net_at b.before.nets n).value =
      λ none. still b.before b.follows (net-count k b.before b.there) none in
      more ∙ (ap (λ cs. fold changed (value_by (records_to d k) n) cs) (later-changes s.nets n (omega (arith, lt, counted)))
      ∙ (ap (λ v. fold changed v (if (net_at s.nets n).event then (n, (net_at s.nets n).value) ∷ [] else [])) known
      ∙ go (net_at s.nets n).event (net_at b.before.nets n).value (net_at s.nets n).value refl kept))
    where
      go : (b : Bool) (old new : Logic) → (net_at s.nets n).event ≡ b → ((net_at s.nets n).event ≡ false → new ≡ old)
          → fold changed (Some old) (if b then (n, new) ∷ [] else []) ≡ Some new
      go true old new is_so keeps = refl
      go false old new is_so keeps = ap Some (sym (keeps is_so))

      still : (old : State) → Follows d old s → length old.nets ≡ length d.nets → (net_at s.nets n).event ≡ false
          → (net_at s.nets n).value ≡ (net_at old.nets n).value
      still old f counted none =
          let nets = nets_updated f.drivers d.nets old.nets in
          let out : (net_at nets n).event ≡ false = ap (λ ns. (net_at ns n).event) (sym f.nets) ∙ none in
          ap (λ ns. (net_at ns n).value) f.nets ∙ quiet f.drivers d.nets old.nets n counted lt out

  -- ---- how many events a net had

  pub total-counts : (k n : ℕ) (s : State) → ended d (suc k) ≡ Some s → n < length d.nets
      → total_of (records_to d (suc k)) n ≡ (if (net_at s.nets n).event then suc (total_of (records_to d k) n) else total_of (records_to d k) n)
  total-counts k n s e lt =
      let counted = net-count (suc k) s e in
      ap (λ (rs : List Record). total_of rs n) (one-more-record d k s e)
      ∙ (total-more (records_to d k) (record_of s) n (records-begun d k)
      ∙ (ap (λ cs. total_of (records_to d k) n + length cs) (later-changes s.nets n (omega (arith, lt, counted)))
      ∙ go (net_at s.nets n).event (total_of (records_to d k) n) (net_at s.nets n).value))
    where
      go : (b : Bool) (t : ℕ) (v : Logic) → t + length {A = ℕ × Logic} (if b then (n, v) ∷ [] else []) ≡ (if b then suc t else t)
      go true t v = omega arith
      go false t v = omega arith

  -- there are no more of them than cycles
  ended-few : (k n : ℕ) (s : State) → ended d k ≡ Some s → n < length d.nets → total_of (records_to d k) n ≤ k
  ended-few zero n s e lt = let none = total-first d n in omega (arith, none)
  ended-few (suc k) n s e lt =
      let b = one-before k s e in
      let before : total_of (records_to d k) n ≤ k = ended-few k n b.before b.there lt in
      let more = total-counts k n s e lt in
      go (net_at s.nets n).event (total_of (records_to d k) n) (total_of (records_to d (suc k)) n) more before
    where
      go : (b : Bool) (t u : ℕ) → u ≡ (if b then suc t else t) → t ≤ k → u ≤ suc k
      go true t u e le = omega (arith, e, le)
      go false t u e le = omega (arith, e, le)

  -- ---- the same by the state after the update of a cycle

  carried : (k : ℕ) (u : State) → updated_in d k ≡ Some u → ended d k ≡ Some (cycle_end d k u)
  carried k u e = carried_on d k ∙ ap (option_map (cycle_end d k)) e

  pub records-give-values : (k n : ℕ) (u : State) → updated_in d k ≡ Some u → n < length d.nets → value_by (records_to d k) n ≡ Some (net_at u.nets n).value
  records-give-values k n u e lt =
      let counted : length u.owned ≡ length d.processes = subst (HasAll d) e (updated_all d is k) in
      ended-values k n (cycle_end d k u) (carried k u e) lt ∙ ap (λ (ns : List NetView). Some (net_at ns n).value) (end_nets d is k u counted)

  pub total-few : (k n : ℕ) (u : State) → updated_in d k ≡ Some u → n < length d.nets → total_of (records_to d k) n ≤ k
  total-few k n u e lt = ended-few k n (cycle_end d k u) (carried k u e) lt
