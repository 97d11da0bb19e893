-- Laws of the entries of a log, read from a place between two of them on.
use Rattle.std.proofs.Common.{ℕ, zero, suc, ◌+◌, ◌-◌, ◌<◌, ◌≤◌, ◌≡◌, ◌≢◌, List, [], ◌∷◌, ◌++◌, length}
use Rattle.std.proofs.Common.{get_or, take, drop, slice_range, refl, ap, sym, ◌∙◌, subst, arith}
use Rattle.std.proofs.lemmas.List.{append_assoc, append-nil, drop-drop, drop_all, drop_more, length-take-le, take-append-drop, take_more}
use Rattle.sim_logic.specs.declared.logic.Logic.{Logic}
use Rattle.sim_standard.specs.declared.record.Record.{Record}
use Rattle.sim_store_state.specs.declared.log.Entry.{Entry}
use Rattle.sim_store_state.specs.declared.log.Entry.TheVariants as entry
use Rattle.sim_store_state.specs.declared.log.Past.{Past}
use Rattle.sim_store_state.specs.Log.{begun, changes_before, changes_of, count_times, delta_after, no_past, records_after, records_in}
use Rattle.sim_store_state.proofs.Logged.{changes-more, count-append, delta-append}
use Rattle.sim_store_simulation.specs.declared.history.Place.{Place}
use Rattle.sim_store_simulation.specs.History.{count_leading, count_records, last_time, passed, records_beyond}

-- the changes of one more entry
pub changes-step : (es : List Entry) (i : ℕ) (d : Entry) (old new : List (ℕ × Logic)) → i < length es → old ≡ changes_of (take i es)
    → new ≡ old ++ changes_of (get_or es i d ∷ [])
    → new ≡ changes_of (take (i + 1) es)
changes-step es i d old new lt so_far one =
    one ∙ (ap (λ w. w ++ changes_of (get_or es i d ∷ [])) so_far ∙ sym (changes-more es i d lt))

-- ---- what begins in entries

-- the records that begin in entries one after another
count-records-append : (es fs : List Entry) → count_records (es ++ fs) ≡ count_records es + count_records fs
count-records-append [] fs = omega arith
count-records-append (entry.Change value net ∷ es) fs = count-records-append es fs
count-records-append (entry.Delta value net ∷ es) fs = omega (arith, count-records-append es fs)
count-records-append (entry.Time value net ∷ es) fs = omega (arith, count-records-append es fs)
count-records-append (entry.QuietDelta ∷ es) fs = omega (arith, count-records-append es fs)
count-records-append (entry.QuietTime ∷ es) fs = omega (arith, count-records-append es fs)

-- the entries before a place are those before the entry before it, and that entry
last-entry : (es : List Entry) (n : ℕ) (d : Entry) → 0 < n → n ≤ length es → take n es ≡ take (n - 1) es ++ get_or es (n - 1) d ∷ []
last-entry es n d some le =
    let at : n ≡ n - 1 + 1 = omega (arith, some) in
    ap (λ m. take m es) at ∙ take_more es (n - 1) d (omega (arith, some, le))

-- the records that begin before it
pub records-back : (es : List Entry) (n : ℕ) (d : Entry) (here : ℕ) → here ≡ count_records (get_or es (n - 1) d ∷ []) → 0 < n → n ≤ length es
    → count_records (take n es) ≡ count_records (take (n - 1) es) + here
records-back es n d here e some le =
    ap count_records (last-entry es n d some le)
    ∙ (count-records-append (take (n - 1) es) (get_or es (n - 1) d ∷ []) ∙ ap (λ m. count_records (take (n - 1) es) + m) (sym e))

-- the times that begin before it
pub times-back : (es : List Entry) (n : ℕ) (d : Entry) (here : ℕ) → here ≡ count_times (get_or es (n - 1) d ∷ []) → 0 < n → n ≤ length es
    → count_times (take n es) ≡ count_times (take (n - 1) es) + here
times-back es n d here e some le =
    ap count_times (last-entry es n d some le)
    ∙ (count-append (take (n - 1) es) (get_or es (n - 1) d ∷ []) ∙ ap (λ m. count_times (take (n - 1) es) + m) (sym e))

-- if records begin before a place, it is not the first
pub not-first : (es : List Entry) (n : ℕ) → 0 < count_records (take n es) → 0 < n
not-first es zero some = some
not-first es (suc n) some = omega arith

-- an entry with which no time begins begins at most a delta cycle
delta-one : (a : ℕ) (e : Entry) → count_times (e ∷ []) ≡ 0 → delta_after a (e ∷ []) ≡ a + count_records (e ∷ [])
delta-one a (entry.Change value net) none = omega arith
delta-one a (entry.Delta value net) none = omega arith
delta-one a (entry.Time value net) none = absurd (omega (arith, none))
delta-one a entry.QuietDelta none = omega arith
delta-one a entry.QuietTime none = absurd (omega (arith, none))

-- the delta number begins anew with a time
delta-none : (a : ℕ) (e : Entry) → count_times (e ∷ []) ≢ 0 → delta_after a (e ∷ []) ≡ 0
delta-none a (entry.Change value net) some = absurd (some refl)
delta-none a (entry.Delta value net) some = absurd (some refl)
delta-none a (entry.Time value net) some = refl
delta-none a entry.QuietDelta some = absurd (some refl)
delta-none a entry.QuietTime some = refl

-- the delta number counts the records that begin at one time
pub delta-back : (es : List Entry) (n : ℕ) (d : Entry) (here : ℕ) → here ≡ count_records (get_or es (n - 1) d ∷ []) → 0 < n → n ≤ length es
    → count_times (get_or es (n - 1) d ∷ []) ≡ 0
    → delta_after 0 (take n es) ≡ delta_after 0 (take (n - 1) es) + here
delta-back es n d here e some le none =
    ap (delta_after 0) (last-entry es n d some le)
    ∙ (delta-append 0 (take (n - 1) es) (get_or es (n - 1) d ∷ [])
    ∙ (delta-one (delta_after 0 (take (n - 1) es)) (get_or es (n - 1) d) none ∙ ap (λ m. delta_after 0 (take (n - 1) es) + m) (sym e)))

-- it begins anew with an entry with which a time begins
pub delta-begins : (es : List Entry) (n : ℕ) (d : Entry) → 0 < n → n ≤ length es → count_times (get_or es (n - 1) d ∷ []) ≢ 0
    → delta_after 0 (take n es) ≡ 0
delta-begins es n d some le begins =
    ap (delta_after 0) (last-entry es n d some le) ∙ (delta-append 0 (take (n - 1) es) (get_or es (n - 1) d ∷ [])
    ∙ delta-none (delta_after 0 (take (n - 1) es)) (get_or es (n - 1) d) begins)

-- no more records begin with an entry than one
pub one-record : (e : Entry) (here : ℕ) → here ≡ count_records (e ∷ []) → here ≤ 1
one-record (entry.Change value net) here e = omega (arith, e)
one-record (entry.Delta value net) here e = omega (arith, e)
one-record (entry.Time value net) here e = omega (arith, e)
one-record entry.QuietDelta here e = omega (arith, e)
one-record entry.QuietTime here e = omega (arith, e)

-- there are no more times and no more delta cycles than entries
times-few : (es : List Entry) → count_times es ≤ length es
times-few [] = omega arith
times-few (entry.Change value net ∷ es) = omega (arith, times-few es)
times-few (entry.Delta value net ∷ es) = omega (arith, times-few es)
times-few (entry.Time value net ∷ es) = omega (arith, times-few es)
times-few (entry.QuietDelta ∷ es) = omega (arith, times-few es)
times-few (entry.QuietTime ∷ es) = omega (arith, times-few es)

-- the delta number is at most one more for each entry
deltas-few : (a : ℕ) (es : List Entry) → delta_after a es ≤ a + length es
deltas-few a [] = omega arith
deltas-few a (entry.Change value net ∷ es) = omega (arith, deltas-few a es)
deltas-few a (entry.Delta value net ∷ es) = omega (arith, deltas-few (suc a) es)
deltas-few a (entry.Time value net ∷ es) = omega (arith, deltas-few 0 es)
deltas-few a (entry.QuietDelta ∷ es) = omega (arith, deltas-few (suc a) es)
deltas-few a (entry.QuietTime ∷ es) = omega (arith, deltas-few 0 es)

-- so there are no more before a place
pub times-below : (es : List Entry) (n t : ℕ) → n ≤ length es → count_times (take n es) ≡ t → t ≤ n
times-below es n t le e = omega (arith, e, times-few (take n es), length-take-le n es le)

-- nor more delta cycles
pub delta-below : (es : List Entry) (n delta : ℕ) → n ≤ length es → delta ≡ delta_after 0 (take n es) → delta ≤ n
delta-below es n delta le e = omega (arith, e, deltas-few 0 (take n es), length-take-le n es le)

-- the delta number before a new time does not matter
delta-idle : (times : List ℕ) (n time a b : ℕ) (e : Entry) (es : List Entry) → count_times (e ∷ []) ≢ 0
    → records_after times n time a (e ∷ es) ≡ records_after times n time b (e ∷ es)
delta-idle times n time a b (entry.Change value net) es begins = absurd (begins refl)
delta-idle times n time a b (entry.Delta value net) es begins = absurd (begins refl)
delta-idle times n time a b (entry.Time value net) es begins = refl
delta-idle times n time a b entry.QuietDelta es begins = absurd (begins refl)
delta-idle times n time a b entry.QuietTime es begins = refl

-- so it does not matter before an entry with which a time begins
pub time-begins : (es : List Entry) (from : ℕ) (d : Entry) → from < length es → count_times (get_or es from d ∷ []) ≢ 0 → (times : List ℕ) (n time a b : ℕ)
    → records_after times n time a (drop from es) ≡ records_after times n time b (drop from es)
time-begins es from d lt begins times n time a b =
    let here = drop_more es from d lt in
    ap (records_after times n time a) here
    ∙ (delta-idle times n time a b (get_or es from d) (drop (from + 1) es) begins ∙ ap (records_after times n time b) (sym here))

-- nor does the one at the end
pub none-begins : (es : List Entry) (from : ℕ) → length es ≤ from → (times : List ℕ) (n time a b : ℕ)
    → records_after times n time a (drop from es) ≡ records_after times n time b (drop from es)
none-begins es from le times n time a b =
    let here = drop_all from es le in
    ap (records_after times n time a) here ∙ ap (records_after times n time b) (sym here)

-- ---- the entries of one record

-- the changes before another record begins are those of the entries before it
before-is : (es : List Entry) → changes_before es ≡ changes_of (take (count_leading es) es)
before-is [] = refl
before-is (entry.Change value net ∷ es) = ap (λ cs. (net, value) ∷ cs) (before-is es)
before-is (entry.Delta value net ∷ es) = refl
before-is (entry.Time value net ∷ es) = refl
before-is (entry.QuietDelta ∷ es) = refl
before-is (entry.QuietTime ∷ es) = refl

-- no record begins in them
skipped : (times : List ℕ) (p : Place) (es : List Entry) → records_beyond times p es ≡ records_beyond times p (drop (count_leading es) es)
skipped times p [] = refl
skipped times p (entry.Change value net ∷ es) = skipped times p es
skipped times p (entry.Delta value net ∷ es) = refl
skipped times p (entry.Time value net ∷ es) = refl
skipped times p (entry.QuietDelta ∷ es) = refl
skipped times p (entry.QuietTime ∷ es) = refl

-- and one begins after them, if entries are left
begins-next : (es : List Entry) → count_leading (drop (count_leading es) es) ≡ 0
begins-next [] = refl
begins-next (entry.Change value net ∷ es) = begins-next es
begins-next (entry.Delta value net ∷ es) = refl
begins-next (entry.Time value net ∷ es) = refl
begins-next (entry.QuietDelta ∷ es) = refl
begins-next (entry.QuietTime ∷ es) = refl

-- the record that begins with an entry, and those that begin later
abbrev with-rest : List ℕ → Place → List (ℕ × Logic) → List Entry → List Record
with-rest times q changes es = begun q.time q.delta changes ∷ records_beyond times q es

-- one record is read from the entry with which it begins
one-read : (times : List ℕ) (p : Place) (e : Entry) (es : List Entry) → count_leading (e ∷ es) ≡ 0
    → records_beyond times p (e ∷ es)
    ≡ with-rest times (passed times p e) (changes_of (e ∷ take (count_leading es) es)) (drop (count_leading es) es)
one-read times p (entry.Change value net) es begins = absurd (omega (arith, begins))
one-read times p (entry.Delta value net) es begins = cc (before-is es, skipped times (passed times p (entry.Delta value net)) es)
one-read times p (entry.Time value net) es begins = cc (before-is es, skipped times (passed times p (entry.Time value net)) es)
one-read times p entry.QuietDelta es begins = cc (before-is es, skipped times (passed times p entry.QuietDelta) es)
one-read times p entry.QuietTime es begins = cc (before-is es, skipped times (passed times p entry.QuietTime) es)

-- the entries from the next one on with which a record begins
from-next : (es : List Entry) (from to : ℕ) → to ≡ from + count_leading (drop from es) → drop to es ≡ drop (count_leading (drop from es)) (drop from es)
from-next es from to e = ap (λ n. drop n es) e ∙ sym (drop-drop (count_leading (drop from es)) from es)

-- a record begins with the first of them, if there are any
pub next-begins : (es : List Entry) (from to : ℕ) → to ≡ from + count_leading (drop from es) → count_leading (drop to es) ≡ 0
next-begins es from to e = ap count_leading (from-next es from to e) ∙ begins-next (drop from es)

-- ---- the walk over the records

-- at first none is found
pub none-found : (times : List ℕ) (p : Place) (es : List Entry) (from to : ℕ) (found : List Record) → found ≡ [] → to ≡ from + count_leading (drop from es)
    → found ++ records_beyond times p (drop to es) ≡ records_beyond times p (drop from es)
none-found times p es from to found none e =
    ap (λ rs. rs ++ records_beyond times p (drop to es)) none
    ∙ (ap (records_beyond times p) (from-next es from to e) ∙ sym (skipped times p (drop from es)))

-- there is a record, and those that begin later
one-first : (times : List ℕ) (p q : Place) (es : List Entry) (d : Entry) (start end : ℕ) (r : Record) → start < length es
    → count_leading (drop start es) ≡ 0
    → end ≡ start + 1 + count_leading (drop (start + 1) es)
    → q ≡ passed times p (get_or es start d)
    → r ≡ begun q.time q.delta (changes_of (slice_range es start end))
    → r ∷ records_beyond times q (drop end es) ≡ records_beyond times p (drop start es)
one-first times p q es d start end r lt begins to eq er =
    let e = get_or es start d in
    let rest = drop (start + 1) es in
    let here : drop start es ≡ e ∷ rest = drop_more es start d lt in
    let long : end - start ≡ suc (count_leading rest) = omega (arith, to) in
    let slice : slice_range es start end ≡ e ∷ take (count_leading rest) rest =
    ap (λ n. take n (drop start es)) long ∙ ap (take (suc (count_leading rest))) here in
    let one = one-read times p e rest (ap count_leading (sym here) ∙ begins) in
    ap (λ w. w ∷ records_beyond times q (drop end es)) er
    ∙ (ap (λ w. with-rest times w (changes_of (slice_range es start end)) (drop end es)) eq
    ∙ (ap (λ w. with-rest times (passed times p e) (changes_of w) (drop end es)) slice
    ∙ (ap (with-rest times (passed times p e) (changes_of (e ∷ take (count_leading rest) rest))) (from-next es (start + 1) end to)
    ∙ (sym one ∙ ap (records_beyond times p) (sym here)))))

-- so one more is found
pub one-found : (times : List ℕ) (p q : Place) (es : List Entry) (d : Entry) (start end : ℕ) (r : Record) (found now all : List Record) → start < length es
    → count_leading (drop start es) ≡ 0
    → end ≡ start + 1 + count_leading (drop (start + 1) es)
    → q ≡ passed times p (get_or es start d)
    → r ≡ begun q.time q.delta (changes_of (slice_range es start end))
    → now ≡ found ++ r ∷ []
    → found ++ records_beyond times p (drop start es) ≡ all
    → now ++ records_beyond times q (drop end es) ≡ all
one-found times p q es d start end r found now all lt begins to eq er more so_far =
    ap (λ rs. rs ++ records_beyond times q (drop end es)) more
    ∙ (append_assoc found (r ∷ []) (records_beyond times q (drop end es))
    ∙ (ap (λ rs. found ++ rs) (one-first times p q es d start end r lt begins to eq er) ∙ so_far))

-- at most one time and one delta cycle begin with it
pub passed-few : (times : List ℕ) (p q : Place) (e : Entry) → q ≡ passed times p e → (q.times ≤ p.times + 1) × (q.delta ≤ p.delta + 1)
passed-few times p q e at = subst (λ (w : Place). (w.times ≤ p.times + 1) × (w.delta ≤ p.delta + 1)) (sym at) (go e)
  where
    go : (f : Entry) → ((passed times p f).times ≤ p.times + 1) × ((passed times p f).delta ≤ p.delta + 1)
    go (entry.Change value net) = (omega arith, omega arith)
    go (entry.Delta value net) = (omega arith, omega arith)
    go (entry.Time value net) = (omega arith, omega arith)
    go entry.QuietDelta = (omega arith, omega arith)
    go entry.QuietTime = (omega arith, omega arith)

-- at the end all are found
pub all-found : (times : List ℕ) (p : Place) (es : List Entry) (start : ℕ) (found all : List Record) → length es ≤ start
    → found ++ records_beyond times p (drop start es) ≡ all
    → found ≡ all
all-found times p es start found all le so_far =
    sym (append-nil found) ∙ (ap (λ w. found ++ records_beyond times p w) (sym (drop_all start es le)) ∙ so_far)

-- ---- the records from a number on

-- the place after entries
abbrev place_after : List ℕ → Place → List Entry → Place
place_after times p [] = p
place_after times p (e ∷ es) = place_after times (passed times p e) es

-- the times that begin in them are passed
place-times : (times : List ℕ) (p : Place) (es : List Entry) → (place_after times p es).times ≡ p.times + count_times es
place-times times p [] = omega arith
place-times times p (entry.Change value net ∷ es) = place-times times p es
place-times times p (entry.Delta value net ∷ es) = place-times times (passed times p (entry.Delta value net)) es
place-times times p (entry.Time value net ∷ es) = omega (arith, place-times times (passed times p (entry.Time value net)) es)
place-times times p (entry.QuietDelta ∷ es) = place-times times (passed times p entry.QuietDelta) es
place-times times p (entry.QuietTime ∷ es) = omega (arith, place-times times (passed times p entry.QuietTime) es)

-- its time is the last of those
place-time : (times : List ℕ) (p : Place) (es : List Entry) → p.time ≡ last_time times p.times
    → (place_after times p es).time ≡ last_time times (place_after times p es).times
place-time times p [] e = e
place-time times p (entry.Change value net ∷ es) e = place-time times p es e
place-time times p (entry.Delta value net ∷ es) e = place-time times (passed times p (entry.Delta value net)) es e
place-time times p (entry.Time value net ∷ es) e = place-time times (passed times p (entry.Time value net)) es refl
place-time times p (entry.QuietDelta ∷ es) e = place-time times (passed times p entry.QuietDelta) es e
place-time times p (entry.QuietTime ∷ es) e = place-time times (passed times p entry.QuietTime) es refl

-- its delta number is that after the entries
place-delta : (times : List ℕ) (p : Place) (es : List Entry) → (place_after times p es).delta ≡ delta_after p.delta es
place-delta times p [] = refl
place-delta times p (entry.Change value net ∷ es) = place-delta times p es
place-delta times p (entry.Delta value net ∷ es) = place-delta times (passed times p (entry.Delta value net)) es
place-delta times p (entry.Time value net ∷ es) = place-delta times (passed times p (entry.Time value net)) es
place-delta times p (entry.QuietDelta ∷ es) = place-delta times (passed times p entry.QuietDelta) es
place-delta times p (entry.QuietTime ∷ es) = place-delta times (passed times p entry.QuietTime) es

-- as many records are read as begin in entries
records-counted : (times : List ℕ) (p : Place) (es : List Entry) → length (records_beyond times p es) ≡ count_records es
records-counted times p [] = refl
records-counted times p (entry.Change value net ∷ es) = records-counted times p es
records-counted times p (entry.Delta value net ∷ es) = ap suc (records-counted times (passed times p (entry.Delta value net)) es)
records-counted times p (entry.Time value net ∷ es) = ap suc (records-counted times (passed times p (entry.Time value net)) es)
records-counted times p (entry.QuietDelta ∷ es) = ap suc (records-counted times (passed times p entry.QuietDelta) es)
records-counted times p (entry.QuietTime ∷ es) = ap suc (records-counted times (passed times p entry.QuietTime) es)

-- so these are all records of a log
pub all-counted : (times : List ℕ) (es : List Entry) → length (records_in no_past times es) ≡ count_records es
all-counted times es = records-counted times (record { times = 0; time = 0; delta = 0 }) es

-- without the records that begin in the first entries, those of the rest are left
drop-records : (times : List ℕ) (p : Place) (es fs : List Entry)
    → drop (count_records es) (records_beyond times p (es ++ fs)) ≡ records_beyond times (place_after times p es) fs
drop-records times p [] fs = refl
drop-records times p (entry.Change value net ∷ es) fs = drop-records times p es fs
drop-records times p (entry.Delta value net ∷ es) fs = drop-records times (passed times p (entry.Delta value net)) es fs
drop-records times p (entry.Time value net ∷ es) fs = drop-records times (passed times p (entry.Time value net)) es fs
drop-records times p (entry.QuietDelta ∷ es) fs = drop-records times (passed times p entry.QuietDelta) es fs
drop-records times p (entry.QuietTime ∷ es) fs = drop-records times (passed times p entry.QuietTime) es fs

-- the place before an entry: how many times begin before it, and the time and the delta number of the record before it
from-place : (times : List ℕ) (es : List Entry) (n : ℕ)
    → drop (count_records (take n es)) (records_in no_past times es)
    ≡ records_beyond times (record {
      times = count_times (take n es);
      time = last_time times (count_times (take n es));
      delta = delta_after 0 (take n es);
    }) (drop n es)
from-place times es n =
    let q = place_after times first (take n es) in
    let at : q.times ≡ count_times (take n es) = omega (arith, place-times times first (take n es)) in
    ap (λ w. drop (count_records (take n es)) (records_in no_past times w)) (sym (take-append-drop n es))
    ∙ (drop-records times first (take n es) (drop n es)
    ∙ (ap (λ t. records_after times t q.time q.delta (drop n es)) at
    ∙ (ap (λ t. records_after times (count_times (take n es)) t q.delta (drop n es)) (place-time times first (take n es) refl ∙ ap (last_time times) at)
    ∙ ap (λ t. records_after times (count_times (take n es)) (last_time times (count_times (take n es))) t (drop n es))
    (place-delta times first (take n es)))))
  where
    first : Place
    first = record { times = 0; time = 0; delta = 0 }

-- the records of a log of a whole run, read from its start
pub from_start : (past : Past) (times : List ℕ) (es : List Entry) (records : List Record) → past ≡ no_past → records_in past times es ≡ records
    → records_in no_past times es ≡ records
from_start past times es records none e = ap (λ (p : Past). records_in p times es) (sym none) ∙ e

-- so from there the records from a number on are read
pub from-number : (times : List ℕ) (es : List Entry) (n number : ℕ) (p : Place) (records : List Record) → records_in no_past times es ≡ records
    → count_records (take n es) ≡ number
    → count_times (take n es) ≡ p.times
    → p.time ≡ last_time times p.times
    → records_beyond times p (drop n es) ≡ records_after times p.times p.time (delta_after 0 (take n es)) (drop n es)
    → records_beyond times p (drop n es) ≡ drop number records
from-number times es n number p records er en et ep ed =
    let delta = delta_after 0 (take n es) in
    let time : p.time ≡ last_time times (count_times (take n es)) = ep ∙ ap (last_time times) (sym et) in
    ed
    ∙ (ap (λ t. records_after times t p.time delta (drop n es)) (sym et)
    ∙ (ap (λ t. records_after times (count_times (take n es)) t delta (drop n es)) time
    ∙ (sym (from-place times es n) ∙ (ap (λ k. drop k (records_in no_past times es)) en ∙ ap (drop number) er))))
