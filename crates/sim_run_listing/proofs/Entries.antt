-- The entries of a log, and the lines of the records that begin in them.
use Rattle.std.proofs.Common.{◌≡◌, ℕ, zero, suc, ◌+◌, ◌<◌, ◌≤◌, List, [], ◌∷◌, ◌++◌, length, drop, refl, sym, ap, ◌∙◌, arith, subst}
use Rattle.std.proofs.Common.{get_or, append_assoc, append-nil}
use Rattle.std.proofs.lemmas.List.{drop_all, drop_more}
use Rattle.std.proofs.lemmas.List.Elements.{All-nil, All-head, All-tail, All-cons}
use Rattle.std.specs.Prelude.{Option, All, flat_map}
use Rattle.sim_logic.specs.declared.logic.Logic.{Logic}
use Rattle.sim_standard.specs.Records.{IsNamed}
use Rattle.sim_store_state.specs.declared.log.Entry.{Entry}
use Rattle.sim_store_state.specs.declared.log.Entry.TheVariants as entry
use Rattle.sim_store_state.specs.declared.log.Past.{Past}
use Rattle.sim_store_state.specs.Log.{Logged, changes_before, changes_of, count_times, records_after, records_in, time_with}
use Rattle.sim_run_listing.specs.declared.moment.Moment.{Moment}
use Rattle.sim_run_listing.specs.Listing.{line_of, lines_of}
use Rattle.sim_run_listing.specs.Moments.{moment_after, in_next_delta, start_of, at_next_time}
use Rattle.sim_run_listing.specs.Writing.{AppendsPart, Gathers}
use Rattle.sim_run_listing.proofs.Gathering.{gathers_nothing, gathers_then, stops_then, stops_within}

-- the lines of entries, of which the first belong to the record at this moment
abbrev pub lines_from : List (List ℕ) → List ℕ → Moment → List Entry → List ℕ
lines_from names times at entries =
    flat_map (line_of (start_of at) names) (changes_before entries)
    ++ flat_map (lines_of names) (records_after times at.passed at.time at.delta entries)

-- the lines that an entry adds at this moment
abbrev pub lines_at : List (List ℕ) → Moment → Entry → List ℕ
lines_at names at e = flat_map (line_of (start_of at) names) (changes_of (e ∷ []))

-- ---- one entry

-- a line, then others, then the lines of records
line_first : (line before after : List ℕ) → (line ++ before) ++ after ≡ (line ++ []) ++ (before ++ after)
line_first line before after = append_assoc line before after ∙ ap (λ (l : List ℕ). l ++ (before ++ after)) (sym (append-nil line))

-- the lines of entries are those of the first and those of the others
one_first : (names : List (List ℕ)) (times : List ℕ) (at : Moment) (e : Entry) (es : List Entry)
    → lines_from names times at (e ∷ es)
    ≡ lines_at names (moment_after times at e) e ++ lines_from names times (moment_after times at e) es
one_first names times at (entry.Change value net) es = line_first (line_of (start_of at) names (net, value)) _ _
one_first names times at (entry.Delta value net) es = line_first (line_of (start_of (in_next_delta at)) names (net, value)) _ _
one_first names times at (entry.Time value net) es = line_first (line_of (start_of (at_next_time times at)) names (net, value)) _ _
one_first names times at entry.QuietDelta es = refl
one_first names times at entry.QuietTime es = refl

-- the times that are left after an entry
one_counted : (times : List ℕ) (at : Moment) (e : Entry) (es : List Entry) (n : ℕ) → at.passed + count_times (e ∷ es) ≡ n
    → (moment_after times at e).passed + count_times es ≡ n
one_counted times at (entry.Change value net) es n h = h
one_counted times at (entry.Delta value net) es n h = h
one_counted times at (entry.Time value net) es n h = omega arith
one_counted times at entry.QuietDelta es n h = h
one_counted times at entry.QuietTime es n h = omega arith

-- a delta number is at most the one before these entries and the number of entries so far
one_few : (times : List ℕ) (at : Moment) (e : Entry) (d i : ℕ) → at.delta ≤ d + i → (moment_after times at e).delta ≤ d + (i + 1)
one_few times at (entry.Change value net) d i h = omega arith
one_few times at (entry.Delta value net) d i h = omega arith
one_few times at (entry.Time value net) d i h = omega arith
one_few times at entry.QuietDelta d i h = omega arith
one_few times at entry.QuietTime d i h = omega arith

-- ---- a walk through entries

-- A writer, for which `held` was buffered, is given the lines of entries up to a place, where the moment is this one.
pub record IsListed (old : Option (List ℕ)) (held : List ℕ) (new : Option (List ℕ)) (left : List ℕ) (names : List (List ℕ)) (log : Logged)
    (times : List ℕ) (entries : List Entry) (at : Moment) (i : ℕ) : Type 0 where
  pub given : List ℕ
  pub gathered : Gathers old held new left given
  pub lines : given ++ lines_from names times at (drop i entries) ≡ flat_map (lines_of names) log.records
  pub counted : at.passed + count_times (drop i entries) ≡ length times
  pub few : at.delta ≤ log.past.delta + i

-- the entry at a place, and those after it
rest_is : (entries : List Entry) (i : ℕ) (e d : Entry) → e ≡ get_or entries i d → i < length entries → drop i entries ≡ e ∷ drop (i + 1) entries
rest_is entries i e d is lt = drop_more entries i d lt ∙ ap (λ (x : Entry). x ∷ drop (i + 1) entries) (sym is)

-- the moment of the last record before these entries
abbrev pub moment_of : Past → Moment
moment_of past = record { time = past.time; delta = past.delta; passed = 0 }

-- no entry yet
pub at_first : (a : Option (List ℕ)) (h : List ℕ) (names : List (List ℕ)) (log : Logged) (times : List ℕ) (entries : List Entry) (at : Moment)
    → at ≡ moment_of log.past → records_in log.past times entries ≡ log.records → changes_before entries ≡ [] → count_times entries ≡ length times
    → IsListed a h a h names log times entries at 0
at_first a h names log times entries at is records begins counted =
    let first = moment_of log.past in
    let listed : IsListed a h a h names log times entries first 0 = record {
      given = [];
      gathered = gathers_nothing a h;
      lines = ap (λ (cs : List (ℕ × Logic)). flat_map (line_of (start_of first) names) cs ++ flat_map (lines_of names) (records_in log.past times entries))
          begins ∙ ap (flat_map (lines_of names)) records;
      counted = omega (arith, counted);
      few = omega arith;
    } in
    subst (λ (m : Moment). IsListed a h a h names log times entries m 0) (sym is) listed

-- what was given, then the lines of an entry, then the others
one_given : (names : List (List ℕ)) (times given : List ℕ) (entries : List Entry) (at : Moment) (i : ℕ) (e d : Entry) (all : List ℕ)
    → e ≡ get_or entries i d → i < length entries → given ++ lines_from names times at (drop i entries) ≡ all
    → given ++ (lines_at names (moment_after times at e) e ++ lines_from names times (moment_after times at e) (drop (i + 1) entries)) ≡ all
one_given names times given entries at i e d all is lt lines =
    ap (λ (l : List ℕ). given ++ l) (sym (ap (lines_from names times at) (rest_is entries i e d is lt) ∙
    one_first names times at e (drop (i + 1) entries))) ∙ lines

-- one more entry
pub one_listed : (a b c : Option (List ℕ)) (h m k : List ℕ) (names : List (List ℕ)) (log : Logged) (times : List ℕ) (entries : List Entry)
    (at next : Moment) (i : ℕ) (e d : Entry) (head : List ℕ) → e ≡ get_or entries i d → i < length entries → next ≡ moment_after times at e
    → head ≡ start_of next → IsListed a h b m names log times entries at i
    → Gathers b m c k (flat_map (line_of head names) (changes_of (e ∷ [])))
    → IsListed a h c k names log times entries next (i + 1)
one_listed a b c h m k names log times entries at next i e d head is lt moment start listed more =
    let after = moment_after times at e in
    let all = flat_map (lines_of names) log.records in
    let put : Gathers b m c k (lines_at names after e) =
    subst (λ (l : List ℕ). Gathers b m c k (flat_map (line_of l names) (changes_of (e ∷ [])))) (start ∙ ap start_of moment) more in
    let rest = lines_from names times after (drop (i + 1) entries) in
    let counted = ap (λ (es : List Entry). at.passed + count_times es) (sym (rest_is entries i e d is lt)) ∙ listed.counted in
    let made : IsListed a h c k names log times entries after (i + 1) = record {
      given = listed.given ++ lines_at names after e;
      gathered = gathers_then listed.gathered put;
      lines = append_assoc listed.given (lines_at names after e) rest ∙ one_given names times listed.given entries at i e d all is lt listed.lines;
      counted = one_counted times at e (drop (i + 1) entries) (length times) counted;
      few = one_few times at e log.past.delta i listed.few;
    } in
    subst (λ (n : Moment). IsListed a h c k names log times entries n (i + 1)) (sym moment) made

-- the lines of an entry fail
pub one_fails : (a b c : Option (List ℕ)) (h m : List ℕ) (names : List (List ℕ)) (log : Logged) (times : List ℕ) (entries : List Entry)
    (at next : Moment) (i : ℕ) (e d : Entry) (head : List ℕ) → e ≡ get_or entries i d → i < length entries → next ≡ moment_after times at e
    → head ≡ start_of next → IsListed a h b m names log times entries at i
    → AppendsPart b c (m ++ flat_map (line_of head names) (changes_of (e ∷ [])))
    → AppendsPart a c (h ++ flat_map (lines_of names) log.records)
one_fails a b c h m names log times entries at next i e d head is lt moment start listed part =
    let after = moment_after times at e in
    let all = flat_map (lines_of names) log.records in
    let failed : AppendsPart b c (m ++ lines_at names after e) =
    subst (λ (l : List ℕ). AppendsPart b c (m ++ flat_map (line_of l names) (changes_of (e ∷ [])))) (start ∙ ap start_of moment) part in
    let rest = lines_from names times after (drop (i + 1) entries) in
    subst (λ (l : List ℕ). AppendsPart a c (h ++ l)) (one_given names times listed.given entries at i e d all is lt listed.lines)
    (stops_then a b c h m listed.given (lines_at names after e ++ rest) listed.gathered
    (stops_within b c m (lines_at names after e) rest failed))

-- all entries
pub all_listed : (a b : Option (List ℕ)) (h m : List ℕ) (names : List (List ℕ)) (log : Logged) (times : List ℕ) (entries : List Entry) (at : Moment) (i : ℕ)
    → length entries ≤ i → IsListed a h b m names log times entries at i → Gathers a h b m (flat_map (lines_of names) log.records)
all_listed a b h m names log times entries at i end listed =
    let lines = ap (λ (es : List Entry). listed.given ++ lines_from names times at es) (sym (drop_all i entries end)) ∙ listed.lines in
    subst (Gathers a h b m) (sym (append-nil listed.given) ∙ lines) listed.gathered

-- ---- the nets of entries have names

module _ (nets : ℕ) where
  abbrev HasName : ℕ × Logic → Type 0
  HasName c = c.0 < nets

  -- the changes of entries are those before a record begins, and those of the records
  all_named : (times : List ℕ) (n time delta : ℕ) (es : List Entry) → All HasName (changes_before es)
      → All (IsNamed nets) (records_after times n time delta es) → All HasName (changes_of es)
  all_named times n time delta [] before records = before
  all_named times n time delta (entry.Change value net ∷ es) before records =
      All-cons HasName (net, value) (changes_of es) (All-head HasName (net, value) (changes_before es) before)
      (all_named times n time delta es (All-tail HasName (net, value) (changes_before es) before) records)
  all_named times n time delta (entry.Delta value net ∷ es) before records =
      let first : All HasName ((net, value) ∷ changes_before es) = All-head (IsNamed nets) _ (records_after times n time (suc delta) es) records in
      All-cons HasName (net, value) (changes_of es) (All-head HasName (net, value) (changes_before es) first)
      (all_named times n time (suc delta) es (All-tail HasName (net, value) (changes_before es) first)
      (All-tail (IsNamed nets) _ (records_after times n time (suc delta) es) records))
  all_named times n time delta (entry.Time value net ∷ es) before records =
      let now = time_with times n in
      let first : All HasName ((net, value) ∷ changes_before es) = All-head (IsNamed nets) _ (records_after times (suc n) now 0 es) records in
      All-cons HasName (net, value) (changes_of es) (All-head HasName (net, value) (changes_before es) first)
      (all_named times (suc n) now 0 es (All-tail HasName (net, value) (changes_before es) first)
      (All-tail (IsNamed nets) _ (records_after times (suc n) now 0 es) records))
  all_named times n time delta (entry.QuietDelta ∷ es) before records =
      all_named times n time (suc delta) es (All-head (IsNamed nets) _ (records_after times n time (suc delta) es) records)
      (All-tail (IsNamed nets) _ (records_after times n time (suc delta) es) records)
  all_named times n time delta (entry.QuietTime ∷ es) before records =
      let now = time_with times n in
      all_named times (suc n) now 0 es (All-head (IsNamed nets) _ (records_after times (suc n) now 0 es) records)
      (All-tail (IsNamed nets) _ (records_after times (suc n) now 0 es) records)

  -- all changes, of entries of which the first begins a record
  pub records_named : (log : Logged) (times : List ℕ) (es : List Entry) → records_in log.past times es ≡ log.records → changes_before es ≡ []
      → All (IsNamed nets) log.records → All HasName (changes_of es)
  records_named log times es is begins records =
      all_named times 0 log.past.time log.past.delta es (subst (λ (cs : List (ℕ × Logic)). All HasName cs) (sym begins) (All-nil HasName))
      (subst (All (IsNamed nets)) (sym is) records)

  -- the change of the first entry
  first_named : (e : Entry) (es : List Entry) → All HasName (changes_of (e ∷ es)) → All HasName (changes_of (e ∷ []))
  first_named (entry.Change value net) es all = All-cons HasName (net, value) [] (All-head HasName (net, value) (changes_of es) all) (All-nil HasName)
  first_named (entry.Delta value net) es all = All-cons HasName (net, value) [] (All-head HasName (net, value) (changes_of es) all) (All-nil HasName)
  first_named (entry.Time value net) es all = All-cons HasName (net, value) [] (All-head HasName (net, value) (changes_of es) all) (All-nil HasName)
  first_named entry.QuietDelta es all = All-nil HasName
  first_named entry.QuietTime es all = All-nil HasName

  -- the changes of the entries after the first
  others_named : (e : Entry) (es : List Entry) → All HasName (changes_of (e ∷ es)) → All HasName (changes_of es)
  others_named (entry.Change value net) es all = All-tail HasName (net, value) (changes_of es) all
  others_named (entry.Delta value net) es all = All-tail HasName (net, value) (changes_of es) all
  others_named (entry.Time value net) es all = All-tail HasName (net, value) (changes_of es) all
  others_named entry.QuietDelta es all = all
  others_named entry.QuietTime es all = all

  -- the change of the entry at a place
  pub one_named : (entries : List Entry) (i : ℕ) (e d : Entry) → e ≡ get_or entries i d → i < length entries → All HasName (changes_of entries)
      → All HasName (changes_of (e ∷ []))
  one_named [] i e d is lt all = absurd (omega arith)
  one_named (x ∷ es) zero e d is lt all = subst (λ (y : Entry). All HasName (changes_of (y ∷ []))) (sym is) (first_named x es all)
  one_named (x ∷ es) (suc i) e d is lt all = one_named es i e d is (omega arith) (others_named x es all)
