-- Laws of flat records.
use Rattle.std.proofs.Common.{ℕ, zero, suc, ◌+◌, ◌-◌, ◌<◌, ◌≤◌, ◌≡◌, ◌≢◌, ◌==◌, ◌++◌, Bool, true, false, List, [], ◌∷◌, length, get_or, set, take, map}
use Rattle.std.proofs.Common.{refl, ap, sym, subst, ◌∙◌, arith, append_assoc, append-nil, length-append}
use Rattle.std.specs.Prelude.{if◌then◌else◌}
use Rattle.std.specs.List.{filter}
use Rattle.std.proofs.lemmas.Bool.Decides.{nat_tests}
use Rattle.std.proofs.lemmas.List.{length-map, drop_at, take_more}
use Rattle.std.proofs.lemmas.List.FromFn.{length-enumerate_from}
use Rattle.std.proofs.lemmas.List.Sums.{count_by-le-length, length-filter}
use Rattle.sim_logic.specs.declared.logic.Logic.{Logic}
use Rattle.std.specs.List.{enumerate_from}
use Rattle.sim_store_nets.specs.Nets.{views_of}
use Rattle.sim_standard.proofs.Names.{numbered_value}
use Rattle.sim_standard.specs.declared.net_view.NetView.{NetView}
use Rattle.sim_standard.specs.declared.record.Record.{Record}
use Rattle.sim_standard.specs.Records.{all_changes, changes_from}
use Rattle.sim_store_state.specs.declared.log.Entry.{Entry}
use Rattle.sim_store_state.specs.declared.log.Past.{Past}
use Rattle.sim_store_state.specs.declared.log.Entry.TheVariants as entry
use Rattle.sim_store_state.specs.Log.{begun, changed, changes_before, changes_of, count_times, delta_after, first, last_record, record_at, recorded}
use Rattle.sim_store_state.specs.Log.{last_in, records_after, records_in, time_after, time_with, IsLog, IsNext, IsRecorded, Logged}

-- a record of each net has their values
pub all_values : (n : ℕ) (values values_before : List Logic) → length values ≡ length values_before
    → map numbered_value (enumerate_from n (views_of values values_before))
    ≡ enumerate_from n values
all_values n [] values_before e = refl
all_values n (v ∷ values) [] e = absurd (omega arith)
all_values n (v ∷ values) (l ∷ values_before) e = ap (λ w. (n, v) ∷ w) (all_values (n + 1) values values_before (omega arith))

-- ---- entries

-- the changes of entries one after another
pub changes-append : (es fs : List Entry) → changes_of (es ++ fs) ≡ changes_of es ++ changes_of fs
changes-append [] fs = refl
changes-append (entry.Change value net ∷ es) fs = ap (λ cs. (net, value) ∷ cs) (changes-append es fs)
changes-append (entry.Delta value net ∷ es) fs = ap (λ cs. (net, value) ∷ cs) (changes-append es fs)
changes-append (entry.Time value net ∷ es) fs = ap (λ cs. (net, value) ∷ cs) (changes-append es fs)
changes-append (entry.QuietDelta ∷ es) fs = changes-append es fs
changes-append (entry.QuietTime ∷ es) fs = changes-append es fs

-- the changes of one more entry
pub changes-more : (entries : List Entry) (i : ℕ) (d : Entry) → i < length entries
    → changes_of (take (i + 1) entries) ≡ changes_of (take i entries) ++ changes_of (get_or entries i d ∷ [])
changes-more entries i d lt = ap changes_of (take_more entries i d lt) ∙ changes-append (take i entries) (get_or entries i d ∷ [])

-- ---- one record after others

-- the changes before a record begins, where another one begins after these entries
pub before-append : (es fs : List Entry) → changes_before fs ≡ [] → changes_before (es ++ fs) ≡ changes_before es
before-append [] fs b = b
before-append (entry.Change value net ∷ es) fs b = ap (λ cs. (net, value) ∷ cs) (before-append es fs b)
before-append (entry.Delta value net ∷ es) fs b = refl
before-append (entry.Time value net ∷ es) fs b = refl
before-append (entry.QuietDelta ∷ es) fs b = refl
before-append (entry.QuietTime ∷ es) fs b = refl

-- how many of them begin at a new time
pub count-append : (es fs : List Entry) → count_times (es ++ fs) ≡ count_times es + count_times fs
count-append [] fs = omega arith
count-append (entry.Change value net ∷ es) fs = count-append es fs
count-append (entry.Delta value net ∷ es) fs = count-append es fs
count-append (entry.Time value net ∷ es) fs = omega (arith, count-append es fs)
count-append (entry.QuietDelta ∷ es) fs = count-append es fs
count-append (entry.QuietTime ∷ es) fs = omega (arith, count-append es fs)

-- their records are those of the first, and then those of the second
pub records-append : (times : List ℕ) (n k time delta : ℕ) (es fs : List Entry) → changes_before fs ≡ [] → k ≡ n + count_times es
    → records_after times n time delta (es ++ fs)
    ≡ records_after times n time delta es ++ records_after times k (time_after times n time es) (delta_after delta es) fs
records-append times n k time delta [] fs b e = let same : k ≡ n = omega (arith, e) in ap (λ m. records_after times m time delta fs) (sym same)
records-append times n k time delta (entry.Change value net ∷ es) fs b e = records-append times n k time delta es fs b e
records-append times n k time delta (entry.Delta value net ∷ es) fs b e =
    rw (before-append es fs b) (ap (λ rs. begun time (suc delta) ((net, value) ∷ changes_before es) ∷ rs) (records-append times n k time (suc delta) es fs b e))
records-append times n k time delta (entry.Time value net ∷ es) fs b e =
    rw (before-append es fs b) (ap (λ rs. begun (time_with times n) 0 ((net, value) ∷ changes_before es) ∷ rs)
    (records-append times (suc n) k (time_with times n) 0 es fs b (omega (arith, e))))
records-append times n k time delta (entry.QuietDelta ∷ es) fs b e =
    rw (before-append es fs b) (ap (λ rs. begun time (suc delta) (changes_before es) ∷ rs) (records-append times n k time (suc delta) es fs b e))
records-append times n k time delta (entry.QuietTime ∷ es) fs b e =
    rw (before-append es fs b) (ap (λ rs. begun (time_with times n) 0 (changes_before es) ∷ rs)
    (records-append times (suc n) k (time_with times n) 0 es fs b (omega (arith, e))))

-- the time and the delta number after them
pub time-append : (times : List ℕ) (n k time : ℕ) (es fs : List Entry) → k ≡ n + count_times es
    → time_after times n time (es ++ fs) ≡ time_after times k (time_after times n time es) fs
time-append times n k time [] fs e = let same : k ≡ n = omega (arith, e) in ap (λ m. time_after times m time fs) (sym same)
time-append times n k time (entry.Change value net ∷ es) fs e = time-append times n k time es fs e
time-append times n k time (entry.Delta value net ∷ es) fs e = time-append times n k time es fs e
time-append times n k time (entry.Time value net ∷ es) fs e = time-append times (suc n) k (time_with times n) es fs (omega (arith, e))
time-append times n k time (entry.QuietDelta ∷ es) fs e = time-append times n k time es fs e
time-append times n k time (entry.QuietTime ∷ es) fs e = time-append times (suc n) k (time_with times n) es fs (omega (arith, e))

pub delta-append : (delta : ℕ) (es fs : List Entry) → delta_after delta (es ++ fs) ≡ delta_after (delta_after delta es) fs
delta-append delta [] fs = refl
delta-append delta (entry.Change value net ∷ es) fs = delta-append delta es fs
delta-append delta (entry.Delta value net ∷ es) fs = delta-append (suc delta) es fs
delta-append delta (entry.Time value net ∷ es) fs = delta-append 0 es fs
delta-append delta (entry.QuietDelta ∷ es) fs = delta-append (suc delta) es fs
delta-append delta (entry.QuietTime ∷ es) fs = delta-append 0 es fs

-- ---- one more time

with-more : (times more : List ℕ) (n : ℕ) → n < length times → time_with (times ++ more) n ≡ time_with times n
with-more [] more n lt = absurd (omega (arith, lt))
with-more (t ∷ times) more zero lt = refl
with-more (t ∷ times) more (suc n) lt = with-more times more n (omega (arith, lt))

with-last : (times : List ℕ) (time n : ℕ) → n ≡ length times → time_with (times ++ time ∷ []) n ≡ time
with-last [] time zero e = refl
with-last [] time (suc n) e = absurd (omega (arith, e))
with-last (t ∷ times) time zero e = absurd (omega (arith, e))
with-last (t ∷ times) time (suc n) e = with-last times time n (omega (arith, e))

-- entries that need no more times than there are do not see more
records-more : (times more : List ℕ) (n time delta : ℕ) (es : List Entry) → n + count_times es ≤ length times
    → records_after (times ++ more) n time delta es ≡ records_after times n time delta es
records-more times more n time delta [] le = refl
records-more times more n time delta (entry.Change value net ∷ es) le = records-more times more n time delta es le
records-more times more n time delta (entry.Delta value net ∷ es) le =
    ap (λ rs. begun time (suc delta) ((net, value) ∷ changes_before es) ∷ rs) (records-more times more n time (suc delta) es le)
records-more times more n time delta (entry.Time value net ∷ es) le =
    rw (with-more times more n (omega (arith, le))) (ap (λ rs. begun (time_with times n) 0 ((net, value) ∷ changes_before es) ∷ rs)
    (records-more times more (suc n) (time_with times n) 0 es (omega (arith, le))))
records-more times more n time delta (entry.QuietDelta ∷ es) le =
    ap (λ rs. begun time (suc delta) (changes_before es) ∷ rs) (records-more times more n time (suc delta) es le)
records-more times more n time delta (entry.QuietTime ∷ es) le =
    rw (with-more times more n (omega (arith, le))) (ap (λ rs. begun (time_with times n) 0 (changes_before es) ∷ rs)
    (records-more times more (suc n) (time_with times n) 0 es (omega (arith, le))))

-- ---- the entries of one record

changed-before : (cs : List (ℕ × Logic)) → changes_before (map changed cs) ≡ cs
changed-before [] = refl
changed-before (c ∷ cs) = ap (λ ds. c ∷ ds) (changed-before cs)

changed-of : (cs : List (ℕ × Logic)) → changes_of (map changed cs) ≡ cs
changed-of [] = refl
changed-of (c ∷ cs) = ap (λ ds. c ∷ ds) (changed-of cs)

changed-records : (times : List ℕ) (n time delta : ℕ) (cs : List (ℕ × Logic)) → records_after times n time delta (map changed cs) ≡ []
changed-records times n time delta [] = refl
changed-records times n time delta (c ∷ cs) = changed-records times n time delta cs

changed-time : (times : List ℕ) (n time : ℕ) (cs : List (ℕ × Logic)) → time_after times n time (map changed cs) ≡ time
changed-time times n time [] = refl
changed-time times n time (c ∷ cs) = changed-time times n time cs

changed-delta : (delta : ℕ) (cs : List (ℕ × Logic)) → delta_after delta (map changed cs) ≡ delta
changed-delta delta [] = refl
changed-delta delta (c ∷ cs) = changed-delta delta cs

changed-count : (cs : List (ℕ × Logic)) → count_times (map changed cs) ≡ 0
changed-count [] = refl
changed-count (c ∷ cs) = changed-count cs

-- a record at a new time, or of a delta cycle
abbrev time-or : Bool → ℕ → ℕ → ℕ
time-or b at time = if b then at else time

recorded-begins : (b : Bool) (cs : List (ℕ × Logic)) → changes_before (recorded b cs) ≡ []
recorded-begins true [] = refl
recorded-begins false [] = refl
recorded-begins true (c ∷ cs) = refl
recorded-begins false (c ∷ cs) = refl

recorded-of : (b : Bool) (cs : List (ℕ × Logic)) → changes_of (recorded b cs) ≡ cs
recorded-of true [] = refl
recorded-of false [] = refl
recorded-of true (c ∷ cs) = ap (λ ds. c ∷ ds) (changed-of cs)
recorded-of false (c ∷ cs) = ap (λ ds. c ∷ ds) (changed-of cs)

recorded-long : (b : Bool) (cs : List (ℕ × Logic)) → (length cs ≤ length (recorded b cs)) × (0 < length (recorded b cs))
recorded-long b [] = (omega arith, omega arith)
recorded-long b (c ∷ cs) = (omega (arith, length-map cs changed), omega arith)

-- a record is its first change, written anew, and the others
pub recorded-first : (b : Bool) (before : List Entry) (cs : List (ℕ × Logic)) (es : List Entry) (start net : ℕ) (value : Logic) (new : Entry)
    → es ≡ before ++ map changed cs → start ≡ length before → start < length es
    → get_or es start (entry.Change value net) ≡ entry.Change value net → new ≡ first b (net, value)
    → set es start new ≡ before ++ recorded b cs
recorded-first b before [] es start net value new e at lt is en =
    let none : List Entry = [] in absurd (omega (arith, lt, at, ap length e, length-append before none))
recorded-first b before (c ∷ cs) es start net value new e at lt is en =
    let here : entry.Change c.1 c.0 ≡ entry.Change value net =
    sym (get-middle before (map changed cs) (changed c) start (entry.Change value net) at) ∙ (ap (λ w. get_or w start (entry.Change value net)) (sym e) ∙ is) in
    ap (λ w. set w start new) e ∙ (set-middle before (map changed cs) (changed c) new start at
    ∙ ap (λ w. before ++ w ∷ map changed cs) (en ∙ sym (same-first b c net value here)))
  where
    get-middle : (xs ys : List Entry) (x : Entry) (n : ℕ) (d : Entry) → n ≡ length xs → get_or (xs ++ x ∷ ys) n d ≡ x
    get-middle [] ys x zero d f = refl
    get-middle [] ys x (suc n) d f = absurd (omega (arith, f))
    get-middle (w ∷ xs) ys x zero d f = absurd (omega (arith, f))
    get-middle (w ∷ xs) ys x (suc n) d f = get-middle xs ys x n d (omega (arith, f))

    set-middle : (xs ys : List Entry) (x y : Entry) (n : ℕ) → n ≡ length xs → set (xs ++ x ∷ ys) n y ≡ xs ++ y ∷ ys
    set-middle [] ys x y zero f = refl
    set-middle [] ys x y (suc n) f = absurd (omega (arith, f))
    set-middle (w ∷ xs) ys x y zero f = absurd (omega (arith, f))
    set-middle (w ∷ xs) ys x y (suc n) f = ap (λ vs. w ∷ vs) (set-middle xs ys x y n (omega (arith, f)))

    as_first : Bool → Entry → Entry
    as_first b (entry.Change v n) = first b (n, v)
    as_first b e = e

    same-first : (b : Bool) (c : ℕ × Logic) (net : ℕ) (value : Logic) → entry.Change c.1 c.0 ≡ entry.Change value net → first b c ≡ first b (net, value)
    same-first true c net value f = ap (as_first true) f
    same-first false c net value f = ap (as_first false) f

recorded-count : (b : Bool) (cs : List (ℕ × Logic)) → count_times (recorded b cs) ≡ (if b then 1 else 0)
recorded-count true [] = refl
recorded-count false [] = refl
recorded-count true (c ∷ cs) = ap suc (changed-count cs)
recorded-count false (c ∷ cs) = changed-count cs

recorded-records : (times : List ℕ) (n time delta : ℕ) (b : Bool) (cs : List (ℕ × Logic))
    → records_after times n time delta (recorded b cs) ≡ begun (time-or b (time_with times n) time) (time-or b 0 (suc delta)) cs ∷ []
recorded-records times n time delta true [] = refl
recorded-records times n time delta false [] = refl
recorded-records times n time delta true (c ∷ cs) = rw (changed-before cs, changed-records times (suc n) (time_with times n) 0 cs) refl
recorded-records times n time delta false (c ∷ cs) = rw (changed-before cs, changed-records times n time (suc delta) cs) refl

recorded-time : (times : List ℕ) (n time : ℕ) (b : Bool) (cs : List (ℕ × Logic)) → time_after times n time (recorded b cs) ≡ time-or b (time_with times n) time
recorded-time times n time true [] = refl
recorded-time times n time false [] = refl
recorded-time times n time true (c ∷ cs) = changed-time times (suc n) (time_with times n) cs
recorded-time times n time false (c ∷ cs) = changed-time times n time cs

recorded-delta : (delta : ℕ) (b : Bool) (cs : List (ℕ × Logic)) → delta_after delta (recorded b cs) ≡ time-or b 0 (suc delta)
recorded-delta delta true [] = refl
recorded-delta delta false [] = refl
recorded-delta delta true (c ∷ cs) = changed-delta 0 cs
recorded-delta delta false (c ∷ cs) = changed-delta (suc delta) cs

-- ---- one more record

pub all_changes-push : (rs : List Record) (r : Record) → all_changes (rs ++ r ∷ []) ≡ all_changes rs ++ r.changes
all_changes-push [] r = append-nil r.changes
all_changes-push (q ∷ rs) r = ap (λ w. q.changes ++ w) (all_changes-push rs r) ∙ sym (append_assoc q.changes (all_changes rs) r.changes)

-- the last record is the one that was appended
pub last-pushed : (rs : List Record) (r : Record) → last_record (rs ++ r ∷ []) ≡ r
last-pushed rs r =
    let at : length (rs ++ r ∷ []) - 1 ≡ length rs = omega (arith, length-append rs (r ∷ [])) in
    ap (record_at (rs ++ r ∷ [])) at ∙ go rs
  where
    go : (qs : List Record) → record_at (qs ++ r ∷ []) (length qs) ≡ r
    go [] = refl
    go (q ∷ qs) = go qs

-- the times after a record at this time and delta number
abbrev pub times_with : List ℕ → Bool → ℕ → List ℕ
times_with times is_time time = if is_time then times ++ time ∷ [] else times

-- what is known once the entries of a record, and its time if it is a new one, are appended
pub record Pushed (past : Past) (times : List ℕ) (entries : List Entry) (records changes last : ℕ) (before : List Record) (one : Record) : Type 0 where
  pub log : IsLog past times entries records changes last
  pub are : records_in past times entries ≡ before ++ one ∷ []
  pub last_is : last_in past times entries ≡ (one.time, one.delta)

module _ {past : Past} {times : List ℕ} {entries : List Entry} {records changes last : ℕ} (i : IsLog past times entries records changes last) where
  -- the records, given that those before them are not changed by a new time, and when the new one is
  push : (rs : List Record) → records_in past times entries ≡ rs → (b : Bool) (time delta : ℕ) (cs : List (ℕ × Logic)) (times' : List ℕ)
      → records_in past times' entries ≡ records_in past times entries
      → time-or b (time_with times' (count_times entries)) (time_after times' 0 past.time entries) ≡ time
      → time-or b 0 (suc (delta_after past.delta entries)) ≡ delta
      → length times' ≡ length times + (if b then 1 else 0)
      → Pushed past times' (entries ++ recorded b cs) (records + 1) (changes + length cs) (length entries) rs (begun time delta cs)
  push rs e b time delta cs times' same et ed el =
      let fs = recorded b cs in
      let r = begun time delta cs in
      let k = count_times entries in
      let ek : k ≡ 0 + count_times entries = omega arith in
      let at = time_after times' 0 past.time entries in
      let of = delta_after past.delta entries in
      let are : records_in past times' (entries ++ fs) ≡ rs ++ r ∷ [] =
      records-append times' 0 k past.time past.delta entries fs (recorded-begins b cs) ek
      ∙ (ap (λ w. records_in past times' entries ++ w) (recorded-records times' k at of b cs
      ∙ (ap (λ t. begun t (time-or b 0 (suc of)) cs ∷ []) et ∙ ap (λ m. begun time m cs ∷ []) ed))
      ∙ ap (λ w. w ++ r ∷ []) (same ∙ e)) in
      let long = length-append entries fs in
      let last_one : last_record (records_in past times' (entries ++ fs)) ≡ r = ap last_record are ∙ last-pushed rs r in
      let last_time = time-append times' 0 k past.time entries fs ek ∙ (recorded-time times' k at b cs ∙ et) in
      let last_delta = delta-append past.delta entries fs ∙ (recorded-delta of b cs ∙ ed) in
      record {
        log = record {
          counted = count-append entries fs ∙ omega (arith, i.counted, recorded-count b cs, el);
          begins = before-append entries fs (recorded-begins b cs) ∙ i.begins;
          records_are = omega (arith, i.records_are, ap length e, ap length are, length-append rs (r ∷ []));
          changes_are = omega (
            arith,
            i.changes_are,
            ap (λ w. length (all_changes w)) e,
            ap (λ w. length (all_changes w)) are,
            ap length (all_changes-push rs r),
            length-append (all_changes rs) cs,
          );
          few_records = omega (arith, i.few_records, long, (recorded-long b cs).1);
          few_changes = omega (arith, i.few_changes, long, (recorded-long b cs).0);
          within = omega (arith, long);
          last_are = ap changes_of (drop_at entries fs (length entries) refl) ∙ (recorded-of b cs ∙ sym (ap (λ (q : Record). q.changes) last_one));
        };
        are = are;
        last_is = λ j. (last_time j, last_delta j);
      }

  pub log-push : (rs : List Record) → records_in past times entries ≡ rs → (time delta : ℕ) (cs : List (ℕ × Logic))
      → IsNext (last_in past times entries) time delta
      → Pushed past (times_with times (delta == 0) time) (entries ++ recorded (delta == 0) cs) (records + 1) (changes + length cs) (length entries)
      rs (begun time delta cs)
  log-push rs e time delta cs next = go (delta == 0) refl
    where
      fits : 0 + count_times entries ≤ length times
      fits = omega (arith, i.counted)

      go : (b : Bool) → (delta == 0) ≡ b
          → Pushed past (times_with times b time) (entries ++ recorded b cs) (records + 1) (changes + length cs) (length entries) rs (begun time delta cs)
      go true f =
          let none : delta ≡ 0 = grind (arith, nat_tests) in
          push rs e true time delta cs (times ++ time ∷ []) (records-more times (time ∷ []) 0 past.time past.delta entries fits)
          (with-last times time (count_times entries) i.counted) (sym none) (omega (arith, length-append times (time ∷ [])))
      go false f =
          let some : delta ≢ 0 = λ z. grind (arith, nat_tests) in
          push rs e false time delta cs times refl (sym (next.time_is some)) (omega (arith, next.delta_is some)) (omega arith)

-- a cycle has no more changes than there are nets
pub changes-few : (nets : List NetView) → length (changes_from 0 nets) ≤ length nets
changes-few nets =
    let has_event : ℕ × NetView → Bool = λ x. x.1.event in
    omega (
      arith,
      length-map (filter has_event (enumerate_from 0 nets)) numbered_value,
      length-filter has_event (enumerate_from 0 nets),
      count_by-le-length has_event (enumerate_from 0 nets),
      length-enumerate_from 0 nets,
    )

-- the same, as the code finds it: where the record starts, and where its changes end
pub log-appended : {past : Past} {times : List ℕ} {entries : List Entry} {records changes last : ℕ} → IsLog past times entries records changes last
    → (rs : List Record) → records_in past times entries ≡ rs → (time delta : ℕ) (cs : List (ℕ × Logic))
    → (was : ℕ × ℕ) → last_in past times entries ≡ was → IsNext was time delta
    → (start end : ℕ) (es entries' : List Entry) (times' : List ℕ) → start ≡ length entries → es ≡ entries ++ map changed cs → end ≡ length es
    → times' ≡ times_with times (delta == 0) time → entries' ≡ entries ++ recorded (delta == 0) cs
    → Pushed past times' entries' (records + 1) (changes + (end - start)) start rs (begun time delta cs)
log-appended {entries = entries} {records = records} {changes = changes} i rs e time delta cs was ew next start end es entries' times' at ee el et en =
    let count : end - start ≡ length cs = omega (arith, at, el, ap length ee, length-append entries (map changed cs), length-map cs changed) in
    rw (et, en, count, at) (log-push i rs e time delta cs (subst (λ w. IsNext w time delta) (sym ew) next))

-- so it is recorded
pub is_recorded : {past : Past} {times : List ℕ} {entries : List Entry} {records changes last : ℕ} {rs : List Record} {one : Record}
    → Pushed past times entries records changes last rs one → (old new : Logged) → old.records ≡ rs → old.past ≡ past
    → new.records ≡ records_in past times entries → new.last ≡ last_in past times entries → new.past ≡ past → IsRecorded old new one
is_recorded {one = one} p old new er es nr nl ns = record {
  records = nr ∙ (p.are ∙ ap (λ w. w ++ one ∷ []) (sym er));
  last = nl ∙ p.last_is;
  past = ns ∙ sym es;
}

-- there is room for one more entry after the changes of a record
pub room-after : (entries es : List Entry) (cs : List (ℕ × Logic)) (few len len' capacity capacity' room : ℕ) → es ≡ entries ++ map changed cs
    → len ≡ length entries → len' ≡ length es → length cs ≤ few → capacity' ≡ capacity → room ≡ capacity - len → few < room → len' < capacity'
room-after entries es cs few len len' capacity capacity' room e el el' le ec er lt =
    omega (arith, ap length e, length-append entries (map changed cs), length-map cs changed, el, el', le, ec, er, lt)
