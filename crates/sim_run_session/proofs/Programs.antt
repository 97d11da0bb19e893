-- The words and the source of the program.
use Rattle.std.proofs.Common.{◌≡◌, ◌≢◌, ℕ, ◌≤◌, ◌<◌, subst, length-append, Bool, true, false, List, ◌++◌, length, Option, Some, None, inl, inr, refl, sym, ap}
use Rattle.std.proofs.Common.{◌∙◌, append-nil, arith}
use Rattle.std.specs.Prelude.{◌⊎◌, IfErr, Result, Ok, Err}
use Rattle.std.specs.Io.KnownBytes.{Keeps}
use Rattle.sim_standard.specs.Behaviour.{Behaviour}
use Rattle.sim_text_tokens.specs.declared.error.TextError.{TextError}
use Rattle.sim_text_tokens.specs.declared.error.TextError.TheVariants as fault
use Rattle.sim_text.specs.Texts.{IsFaultWithin}
use Rattle.sim_flat.specs.declared.error.FlatError.{FlatError}
use Rattle.sim_flat.specs.declared.error.FlatError.TheVariants as flat
use Rattle.sim_run_options.specs.declared.limits.Limits.{Limits}
use Rattle.sim_run_options.specs.declared.options.Options.{Options}
use Rattle.sim_run_options.specs.declared.reading.Request.{Request}
use Rattle.sim_run_options.specs.Asks.{AsksFor, AreRefused, limits_of, streams}
use Rattle.sim_run_options.specs.Limits.{bytes_of}
use Rattle.sim_run_options.specs.Options.{are_in_range_within}
use Rattle.sim_run_session.specs.declared.error.RunError.{RunError}
use Rattle.sim_run_session.specs.declared.error.RunError.TheVariants as refusal
use Rattle.sim_run_session.specs.declared.program.Failure.{Failure}
use Rattle.sim_run_session.specs.declared.program.Failure.TheVariants as failure
use Rattle.sim_run_session.specs.Run.{ListsPart}
use Rattle.sim_run_session.specs.Session.{AreInRange, ReadsSource, IsWhole, HasText, HasRun, HasOptions, HasLeft, IsFailure, status_of}
use Rattle.sim_run_session.specs.Streaming.{HasWritten, IsCutAfter, IsStopped, ListsFirst, ListsToDelta, ListsToLimit}
use Rattle.sim_run_session.specs.Simulation.{HasDesignWithin, HasNoDesign, IsRefusalWithin, IsRefusedText}

-- ---- the source

-- the text that the reader had: it was read, or what was read is too long, and so is the text
source_text : (bytes : ℕ) (unread left : Option (List ℕ)) (source : List ℕ) → ReadsSource bytes unread left source
    → (text : List ℕ) × IsWhole unread text × ((source ≡ text) ⊎ ((bytes < length source) × (bytes < length text)))
source_text bytes None left source r = (source, tt, inl refl)
source_text bytes (Some xs) None source r = absurd r.consumed
source_text bytes (Some xs) (Some ys) source r = elim r.enough [
  | inl long ↦ (xs, refl, inr (omega arith, let e = ap length r.consumed in omega (arith, e, length-append source ys)))
  | inr end ↦ (xs, refl, inl (sym (r.consumed ∙ (ap (λ (l : List ℕ). source ++ l) end ∙ append-nil source))))
]

too_much : (bytes : ℕ) (source : List ℕ) → bytes < length source → length source ≤ bytes → ⊥
too_much bytes source long short = absurd (omega arith)

-- what holds for a text that is not too long holds for the text that the reader had
pub read_text : (bytes : ℕ) (unread left : Option (List ℕ)) (source : List ℕ) (Holds : List ℕ → Type 0) → ReadsSource bytes unread left source
    → length source ≤ bytes → Holds source → HasText unread Holds
read_text bytes unread left source Holds r short p =
    let t = source_text bytes unread left source r in
    elim t.2 [
      | inl e ↦ record { text = t.0; whole = t.1; holds = subst Holds e p }
      | inr (long, _) ↦ absurd (too_much bytes source long short)
    ]

-- ---- failures

-- a refusal of a text that is too long is a refusal of every such text
refusal_of : (limits : Limits) (source text : List ℕ) (options : Options) (e : RunError) → bytes_of limits < length source → bytes_of limits < length text
    → IsRefusalWithin limits source options e → IsRefusalWithin limits text options e
refusal_of limits source text options refusal.Options long longer p = p
refusal_of limits source text options (refusal.Text fault.Memory) long longer p = tt
refusal_of limits source text options (refusal.Text fault.TooLong) long longer p = longer
refusal_of limits source text options (refusal.Text (fault.BadByte at)) long longer p = absurd (too_much (bytes_of limits) source long p.short)
refusal_of limits source text options (refusal.Text (fault.OpenComment at)) long longer p = absurd (too_much (bytes_of limits) source long p.short)
refusal_of limits source text options (refusal.Text (fault.BadLiteral at)) long longer p = absurd (too_much (bytes_of limits) source long p.short)
refusal_of limits source text options (refusal.Text (fault.Syntax at)) long longer p = absurd (too_much (bytes_of limits) source long p.short)
refusal_of limits source text options (refusal.Text (fault.TooDeep at)) long longer p = absurd (too_much (bytes_of limits) source long p.short)
refusal_of limits source text options (refusal.Text (fault.TimeRange at)) long longer p = absurd (too_much (bytes_of limits) source long p.short)
refusal_of limits source text options (refusal.Flat f) long longer p = absurd (too_much (bytes_of limits) source long p.is_text.short)
refusal_of limits source text options (refusal.CycleLimit l) long longer p = absurd (too_much (bytes_of limits) source long p.1.is_design.is_text.short)
refusal_of limits source text options refusal.PostponedDelta long longer p = absurd (too_much (bytes_of limits) source long p.is_design.is_text.short)
refusal_of limits source text options refusal.Stranger long longer p = absurd p
refusal_of limits source text options refusal.Memory long longer p = absurd (too_much (bytes_of limits) source long p.is_design.is_text.short)
refusal_of limits source text options refusal.Write long longer p = absurd p

text_refused : (limits : Limits) (unread left : Option (List ℕ)) (source : List ℕ) (options : Options) (e : RunError)
    → ReadsSource (bytes_of limits) unread left source → IsRefusalWithin limits source options e
    → HasText unread (λ text. IsRefusalWithin limits text options e)
text_refused limits unread left source options e r p =
    let t = source_text (bytes_of limits) unread left source r in
    elim t.2 [
      | inl is ↦ record { text = t.0; whole = t.1; holds = subst (λ text. IsRefusalWithin limits text options e) is p }
      | inr (long, longer) ↦ record { text = t.0; whole = t.1; holds = refusal_of limits source t.0 options e long longer p }
    ]

pub run_fails : (limits : Limits) (unread left : Option (List ℕ)) (source : List ℕ) (options : Options) (e : RunError)
    → ReadsSource (bytes_of limits) unread left source → (e ≢ refusal.Write → IsRefusalWithin limits source options e)
    → (e ≢ refusal.Options → AreInRange limits options) → IsFailure limits unread options (failure.Run e)
run_fails limits unread left source options refusal.Write r p i = i (λ q. absurd cc)
run_fails limits unread left source options refusal.Options r p i = text_refused limits unread left source options refusal.Options r (p (λ q. absurd cc))
run_fails limits unread left source options (refusal.Text f) r p i =
    (i (λ q. absurd cc), text_refused limits unread left source options (refusal.Text f) r (p (λ q. absurd cc)))
run_fails limits unread left source options (refusal.Flat f) r p i =
    (i (λ q. absurd cc), text_refused limits unread left source options (refusal.Flat f) r (p (λ q. absurd cc)))
run_fails limits unread left source options (refusal.CycleLimit l) r p i =
    (i (λ q. absurd cc), text_refused limits unread left source options (refusal.CycleLimit l) r (p (λ q. absurd cc)))
run_fails limits unread left source options refusal.PostponedDelta r p i =
    (i (λ q. absurd cc), text_refused limits unread left source options refusal.PostponedDelta r (p (λ q. absurd cc)))
run_fails limits unread left source options refusal.Stranger r p i =
    (i (λ q. absurd cc), text_refused limits unread left source options refusal.Stranger r (p (λ q. absurd cc)))
run_fails limits unread left source options refusal.Memory r p i =
    (i (λ q. absurd cc), text_refused limits unread left source options refusal.Memory r (p (λ q. absurd cc)))

pub failed_write : (e : RunError) → ◌≡◌ {A = Result (Unit {0}) Failure} (Err (failure.Run e)) (Err (failure.Run refusal.Write)) → ◌≡◌
    {A = Result (Unit {0}) RunError} (Err e) (Err refusal.Write)
failed_write e is = cc

-- ---- what was written

-- what holds of no text in particular holds for the text that the reader had
any_text : (bytes : ℕ) (unread left : Option (List ℕ)) (source : List ℕ) (Holds : Type 0) → ReadsSource bytes unread left source → Holds
    → HasText unread (λ text. Holds)
any_text bytes unread left source Holds r p =
    let t = source_text bytes unread left source r in record { text = t.0; whole = t.1; holds = p }

-- what was written by the run of what was read was written by that of the text
module _ (limits : Limits) (unread left : Option (List ℕ)) (source : List ℕ) (options : Options) (old new : Option (List ℕ))
    (r : ReadsSource (bytes_of limits) unread left source) where
  by_design : (Holds : Behaviour → Type 0) → HasDesignWithin limits source options Holds → HasText unread (λ text. HasDesignWithin limits text options Holds)
  by_design Holds d =
      read_text (bytes_of limits) unread left source (λ text. HasDesignWithin limits text options Holds) r d.is_design.is_text.short d

  pub left_by : (b : Bool) (e : RunError) → HasWritten b limits source options old new e → HasLeft b limits unread options old new (failure.Run e)
  left_by true (refusal.CycleLimit l) w = by_design (λ design. ListsToLimit design options old new) w
  left_by true refusal.PostponedDelta w = by_design (λ design. ListsToDelta design options old new) w
  left_by true refusal.Memory w = by_design (λ design. ListsFirst design options old new) w
  left_by true refusal.Write w = by_design (λ design. ListsFirst design options old new) w
  left_by true refusal.Options w = any_text (bytes_of limits) unread left source (Keeps old new) r w
  left_by true (refusal.Text f) w = any_text (bytes_of limits) unread left source (Keeps old new) r w
  left_by true (refusal.Flat f) w = any_text (bytes_of limits) unread left source (Keeps old new) r w
  left_by true refusal.Stranger w = any_text (bytes_of limits) unread left source (Keeps old new) r w
  left_by false refusal.Write w = by_design (λ design. ListsPart design options old new) w
  left_by false (refusal.CycleLimit l) w = any_text (bytes_of limits) unread left source (Keeps old new) r w
  left_by false refusal.PostponedDelta w = any_text (bytes_of limits) unread left source (Keeps old new) r w
  left_by false refusal.Memory w = any_text (bytes_of limits) unread left source (Keeps old new) r w
  left_by false refusal.Options w = any_text (bytes_of limits) unread left source (Keeps old new) r w
  left_by false (refusal.Text f) w = any_text (bytes_of limits) unread left source (Keeps old new) r w
  left_by false (refusal.Flat f) w = any_text (bytes_of limits) unread left source (Keeps old new) r w
  left_by false refusal.Stranger w = any_text (bytes_of limits) unread left source (Keeps old new) r w

-- a listing at the end of a run: nothing was written, or a write failed
module _ (limits : Limits) (text : List ℕ) (options : Options) (old new : Option (List ℕ)) where
  pub written_at_end : (b : Bool) → b ≡ false → (r : Result (Unit {0}) RunError)
      → (r ≡ Err refusal.Write → HasDesignWithin limits text options (λ design. ListsPart design options old new))
      → IfErr r (λ e. e ≢ refusal.Write → Keeps old new) → IfErr r (HasWritten b limits text options old new)
  written_at_end b is r part quiet = subst (λ (c : Bool). IfErr r (HasWritten c limits text options old new)) (sym is) (go r part quiet)
    where
      go : (r : Result (Unit {0}) RunError) → (r ≡ Err refusal.Write → HasDesignWithin limits text options (λ design. ListsPart design options old new))
          → IfErr r (λ e. e ≢ refusal.Write → Keeps old new) → IfErr r (HasWritten false limits text options old new)
      go (Ok done) part quiet = tt
      go (Err refusal.Write) part quiet = part refl
      go (Err refusal.Options) part quiet = quiet (λ e. absurd cc)
      go (Err (refusal.Text f)) part quiet = quiet (λ e. absurd cc)
      go (Err (refusal.Flat f)) part quiet = quiet (λ e. absurd cc)
      go (Err (refusal.CycleLimit l)) part quiet = quiet (λ e. absurd cc)
      go (Err refusal.PostponedDelta) part quiet = quiet (λ e. absurd cc)
      go (Err refusal.Stranger) part quiet = quiet (λ e. absurd cc)
      go (Err refusal.Memory) part quiet = quiet (λ e. absurd cc)

  pub written_meanwhile : (b : Bool) → b ≡ true → (r : Result (Unit {0}) RunError) → IfErr r (HasWritten true limits text options old new)
      → IfErr r (HasWritten b limits text options old new)
  written_meanwhile b is r w = subst (λ (c : Bool). IfErr r (HasWritten c limits text options old new)) (sym is) w

-- ---- statuses

text_not_limit : (e : TextError) → status_of (failure.Run (refusal.Text e)) ≡ 3 → ⊥
text_not_limit fault.Memory e = absurd (omega arith)
text_not_limit fault.TooLong e = absurd (omega arith)
text_not_limit (fault.BadByte at) e = absurd (omega arith)
text_not_limit (fault.OpenComment at) e = absurd (omega arith)
text_not_limit (fault.BadLiteral at) e = absurd (omega arith)
text_not_limit (fault.Syntax at) e = absurd (omega arith)
text_not_limit (fault.TooDeep at) e = absurd (omega arith)
text_not_limit (fault.TimeRange at) e = absurd (omega arith)

text_not_words : (e : TextError) → status_of (failure.Run (refusal.Text e)) ≡ 2 → ⊥
text_not_words fault.Memory e = absurd (omega arith)
text_not_words fault.TooLong e = absurd (omega arith)
text_not_words (fault.BadByte at) e = absurd (omega arith)
text_not_words (fault.OpenComment at) e = absurd (omega arith)
text_not_words (fault.BadLiteral at) e = absurd (omega arith)
text_not_words (fault.Syntax at) e = absurd (omega arith)
text_not_words (fault.TooDeep at) e = absurd (omega arith)
text_not_words (fault.TimeRange at) e = absurd (omega arith)

-- a fault of elaboration has status 1, and lack of memory 4
abbrev FlatStatus : FlatError → Type 0
FlatStatus e = ((e ≡ flat.Memory) × (status_of (failure.Run (refusal.Flat e)) ≡ 4)) ⊎ ((e ≢ flat.Memory) × (status_of (failure.Run (refusal.Flat e)) ≡ 1))

flat_status : (e : FlatError) → FlatStatus e
flat_status flat.Memory = inl (refl, refl)
flat_status flat.NoTop = inr ((λ q. absurd cc), refl)
flat_status (flat.Duplicate at) = inr ((λ q. absurd cc), refl)
flat_status (flat.Predefined at) = inr ((λ q. absurd cc), refl)
flat_status (flat.Unknown at) = inr ((λ q. absurd cc), refl)
flat_status (flat.WrongKind at) = inr ((λ q. absurd cc), refl)
flat_status (flat.TypeClash at) = inr ((λ q. absurd cc), refl)
flat_status (flat.Ambiguous at) = inr ((λ q. absurd cc), refl)
flat_status (flat.ReadOut at) = inr ((λ q. absurd cc), refl)
flat_status (flat.WriteIn at) = inr ((λ q. absurd cc), refl)
flat_status (flat.PortMissing at) = inr ((λ q. absurd cc), refl)
flat_status (flat.PortTwice at) = inr ((λ q. absurd cc), refl)
flat_status (flat.ModeClash at) = inr ((λ q. absurd cc), refl)
flat_status (flat.ComponentDiffers at) = inr ((λ q. absurd cc), refl)
flat_status (flat.NoArchitecture at) = inr ((λ q. absurd cc), refl)
flat_status (flat.Recursive at) = inr ((λ q. absurd cc), refl)
flat_status (flat.ManySources at) = inr ((λ q. absurd cc), refl)
flat_status (flat.NotAscending at) = inr ((λ q. absurd cc), refl)
flat_status (flat.RejectTooLong at) = inr ((λ q. absurd cc), refl)
flat_status (flat.TooMany at) = inr ((λ q. absurd cc), refl)

flat_not_limit : (e : FlatError) → FlatStatus e → status_of (failure.Run (refusal.Flat e)) ≡ 3 → ⊥
flat_not_limit e (inl h) is = let four = h.1 in absurd (omega arith)
flat_not_limit e (inr h) is = let one = h.1 in absurd (omega arith)

flat_not_words : (e : FlatError) → FlatStatus e → status_of (failure.Run (refusal.Flat e)) ≡ 2 → ⊥
flat_not_words e (inl h) is = let four = h.1 in absurd (omega arith)
flat_not_words e (inr h) is = let one = h.1 in absurd (omega arith)

module _ (words : List (List ℕ)) (unread : Option (List ℕ)) (request : Request) (a : AsksFor words request) where
  abbrev limits : Limits
  limits = request.limits

  abbrev options : Options
  options = request.options

  pub has_run : AreInRange limits options → (Holds : Limits → List ℕ → Options → Type 0) → HasText unread (λ text. Holds limits text options)
      → HasRun words unread (Holds (limits_of words))
  has_run i Holds p = record {
    options = options;
    asked = a.options;
    in_range = subst (λ (l : Limits). AreInRange l options) a.limits i;
    read = subst (λ (l : Limits). HasText unread (λ text. Holds l text options)) a.limits p;
  }

  faulty : (e : TextError) → e ≢ fault.Memory → AreInRange limits options × HasText unread (λ text. IsFaultWithin (bytes_of limits) text e)
      → HasRun words unread (IsRefusedText (limits_of words))
  faulty e known p = has_run p.0 IsRefusedText
      (record { text = p.1.text; whole = p.1.whole; holds = inl (record { found = e; known = known; is = p.1.holds }) })

  unelaborated : (e : FlatError) → FlatStatus e → status_of (failure.Run (refusal.Flat e)) ≡ 1
      → AreInRange limits options × HasText unread (λ text. HasNoDesign limits text options e) → HasRun words unread (IsRefusedText (limits_of words))
  unelaborated e (inl h) is p = let four = h.1 in absurd (omega arith)
  unelaborated e (inr h) is p = has_run p.0 IsRefusedText
      (record { text = p.1.text; whole = p.1.whole; holds = inr (record { fault = e; known = h.0; is = p.1.holds }) })

  pub status_1 : (f : Failure) → status_of f ≡ 1 → IsFailure limits unread options f → HasRun words unread (IsRefusedText (limits_of words))
  status_1 failure.Read e p = absurd (omega arith)
  status_1 failure.Memory e p = absurd (omega arith)
  status_1 (failure.Run refusal.Options) e p = absurd (omega arith)
  status_1 (failure.Run (refusal.Text fault.Memory)) e p = absurd (omega arith)
  status_1 (failure.Run (refusal.Text fault.TooLong)) e p = faulty fault.TooLong (λ q. absurd cc) p
  status_1 (failure.Run (refusal.Text (fault.BadByte at))) e p = faulty (fault.BadByte at) (λ q. absurd cc) p
  status_1 (failure.Run (refusal.Text (fault.OpenComment at))) e p = faulty (fault.OpenComment at) (λ q. absurd cc) p
  status_1 (failure.Run (refusal.Text (fault.BadLiteral at))) e p = faulty (fault.BadLiteral at) (λ q. absurd cc) p
  status_1 (failure.Run (refusal.Text (fault.Syntax at))) e p = faulty (fault.Syntax at) (λ q. absurd cc) p
  status_1 (failure.Run (refusal.Text (fault.TooDeep at))) e p = faulty (fault.TooDeep at) (λ q. absurd cc) p
  status_1 (failure.Run (refusal.Text (fault.TimeRange at))) e p = faulty (fault.TimeRange at) (λ q. absurd cc) p
  status_1 (failure.Run (refusal.Flat f)) e p = unelaborated f (flat_status f) e p
  status_1 (failure.Run (refusal.CycleLimit l)) e p = absurd (omega arith)
  status_1 (failure.Run refusal.PostponedDelta) e p = absurd (omega arith)
  status_1 (failure.Run refusal.Write) e p = absurd (omega arith)
  status_1 (failure.Run refusal.Stranger) e p = absurd (omega arith)
  status_1 (failure.Run refusal.Memory) e p = absurd (omega arith)

  -- the run is cut short, and nothing or the lines up to there were written
  cut_after : (old new : Option (List ℕ)) → AreInRange limits options
      → HasText unread (λ text. HasDesignWithin limits text options (λ design. IsCutAfter request.streams design options old new))
      → HasRun words unread (λ text o. HasDesignWithin (limits_of words) text o (λ design. IsCutAfter (streams words) design o old new))
  cut_after old new i p =
      has_run i (λ l text o. HasDesignWithin l text o (λ design. IsCutAfter (streams words) design o old new))
      (subst (λ (b : Bool). HasText unread (λ text. HasDesignWithin limits text options (λ design. IsCutAfter b design options old new))) a.streams p)

  at_limit : (b : Bool) (l : ℕ) (old new : Option (List ℕ)) → HasText unread (λ text. IsRefusalWithin limits text options (refusal.CycleLimit l))
      → HasText unread (λ text. HasWritten b limits text options old new (refusal.CycleLimit l))
      → HasText unread (λ text. HasDesignWithin limits text options (λ design. IsCutAfter b design options old new))
  at_limit false l old new p left =
      let d = p.holds.1 in
      record { text = p.text; whole = p.whole; holds = record { design = d.design; is_design = d.is_design; holds = (inl d.holds, left.holds) } }
  at_limit true l old new p left =
      let d = left.holds in
      record { text = left.text; whole = left.whole; holds = record { design = d.design; is_design = d.is_design; holds = inl d.holds } }

  at_delta : (b : Bool) (old new : Option (List ℕ)) → HasText unread (λ text. IsRefusalWithin limits text options refusal.PostponedDelta)
      → HasText unread (λ text. HasWritten b limits text options old new refusal.PostponedDelta)
      → HasText unread (λ text. HasDesignWithin limits text options (λ design. IsCutAfter b design options old new))
  at_delta false old new p left =
      let d = p.holds in
      record { text = p.text; whole = p.whole; holds = record { design = d.design; is_design = d.is_design; holds = (inr d.holds, left.holds) } }
  at_delta true old new p left =
      let d = left.holds in
      record { text = left.text; whole = left.whole; holds = record { design = d.design; is_design = d.is_design; holds = inr d.holds } }

  pub status_3 : (f : Failure) (old new : Option (List ℕ)) → status_of f ≡ 3 → IsFailure limits unread options f
      → HasLeft request.streams limits unread options old new f
      → HasRun words unread (λ text o. HasDesignWithin (limits_of words) text o (λ design. IsCutAfter (streams words) design o old new))
  status_3 failure.Read old new e p left = absurd (omega arith)
  status_3 failure.Memory old new e p left = absurd (omega arith)
  status_3 (failure.Run refusal.Options) old new e p left = absurd (omega arith)
  status_3 (failure.Run (refusal.Text f)) old new e p left = absurd (text_not_limit f e)
  status_3 (failure.Run (refusal.Flat f)) old new e p left = absurd (flat_not_limit f (flat_status f) e)
  status_3 (failure.Run (refusal.CycleLimit l)) old new e p left = cut_after old new p.0 (at_limit request.streams l old new p.1 left)
  status_3 (failure.Run refusal.PostponedDelta) old new e p left = cut_after old new p.0 (at_delta request.streams old new p.1 left)
  status_3 (failure.Run refusal.Stranger) old new e p left = absurd p.1.holds
  status_3 (failure.Run refusal.Write) old new e p left = absurd (omega arith)
  status_3 (failure.Run refusal.Memory) old new e p left = absurd (omega arith)

  out_of_range : (unread' : Option (List ℕ)) (f : Failure) → status_of f ≡ 2 → IsFailure limits unread' options f
      → are_in_range_within limits options.stop options.limit options.workers ≡ false
  out_of_range unread' failure.Read e p = absurd (omega arith)
  out_of_range unread' failure.Memory e p = absurd (omega arith)
  out_of_range unread' (failure.Run refusal.Options) e p = p.holds
  out_of_range unread' (failure.Run (refusal.Text f)) e p = absurd (text_not_words f e)
  out_of_range unread' (failure.Run (refusal.Flat f)) e p = absurd (flat_not_words f (flat_status f) e)
  out_of_range unread' (failure.Run (refusal.CycleLimit l)) e p = absurd (omega arith)
  out_of_range unread' (failure.Run refusal.PostponedDelta) e p = absurd (omega arith)
  out_of_range unread' (failure.Run refusal.Write) e p = absurd (omega arith)
  out_of_range unread' (failure.Run refusal.Stranger) e p = absurd (omega arith)
  out_of_range unread' (failure.Run refusal.Memory) e p = absurd (omega arith)

  pub status_2 : (f : Failure) → status_of f ≡ 2 → IsFailure limits unread options f
      → AreRefused words ⊎ HasOptions words (λ o. are_in_range_within (limits_of words) o.stop o.limit o.workers ≡ false)
  status_2 f e p = inr (record {
    options = options;
    asked = a.options;
    holds = subst (λ (l : Limits). are_in_range_within l options.stop options.limit options.workers ≡ false) a.limits (out_of_range unread f e p);
  })

  -- the text or the design is refused, or the options are: nothing was written
  quiet_for : (b : Bool) (f : Failure) (old new : Option (List ℕ)) → status_of f < 3 → HasLeft b limits unread options old new f → Keeps old new
  quiet_for b failure.Read old new e left = left
  quiet_for b failure.Memory old new e left = left
  quiet_for true (failure.Run refusal.Options) old new e left = left.holds
  quiet_for true (failure.Run (refusal.Text f)) old new e left = left.holds
  quiet_for true (failure.Run (refusal.Flat f)) old new e left = left.holds
  quiet_for true (failure.Run refusal.Stranger) old new e left = left.holds
  quiet_for true (failure.Run (refusal.CycleLimit l)) old new e left = absurd (omega arith)
  quiet_for true (failure.Run refusal.PostponedDelta) old new e left = absurd (omega arith)
  quiet_for true (failure.Run refusal.Write) old new e left = absurd (omega arith)
  quiet_for true (failure.Run refusal.Memory) old new e left = absurd (omega arith)
  quiet_for false (failure.Run refusal.Options) old new e left = left.holds
  quiet_for false (failure.Run (refusal.Text f)) old new e left = left.holds
  quiet_for false (failure.Run (refusal.Flat f)) old new e left = left.holds
  quiet_for false (failure.Run refusal.Stranger) old new e left = left.holds
  quiet_for false (failure.Run (refusal.CycleLimit l)) old new e left = left.holds
  quiet_for false (failure.Run refusal.PostponedDelta) old new e left = left.holds
  quiet_for false (failure.Run refusal.Write) old new e left = absurd (omega arith)
  quiet_for false (failure.Run refusal.Memory) old new e left = left.holds

  pub quiet : (f : Failure) (old new : Option (List ℕ)) → status_of f < 3 → HasLeft request.streams limits unread options old new f → Keeps old new
  quiet f old new e left = quiet_for request.streams f old new e left

  of_text : (b : Bool) (f : TextError) (old new : Option (List ℕ)) → HasLeft b limits unread options old new (failure.Run (refusal.Text f)) → Keeps old new
  of_text true f old new left = left.holds
  of_text false f old new left = left.holds

  of_design : (b : Bool) (f : FlatError) (old new : Option (List ℕ)) → HasLeft b limits unread options old new (failure.Run (refusal.Flat f))
      → Keeps old new
  of_design true f old new left = left.holds
  of_design false f old new left = left.holds

  -- memory ran out, or reading or writing failed
  some_lines : (old new : Option (List ℕ)) {Helped : Type 0} → AreInRange limits options
      → HasText unread (λ text. HasDesignWithin limits text options (λ design. IsStopped request.streams design options old new))
      → Keeps old new ⊎ (HasRun words unread (λ text o. HasDesignWithin (limits_of words) text o (λ design. IsStopped (streams words) design o old new))
      ⊎ Helped)
  some_lines old new i p =
      inr (inl (has_run i (λ l text o. HasDesignWithin l text o (λ design. IsStopped (streams words) design o old new))
      (subst (λ (b : Bool). HasText unread (λ text. HasDesignWithin limits text options (λ design. IsStopped b design options old new))) a.streams p)))

  write_fails : (b : Bool) (old new : Option (List ℕ)) → HasText unread (λ text. HasWritten b limits text options old new refusal.Write)
      → HasText unread (λ text. HasDesignWithin limits text options (λ design. IsStopped b design options old new))
  write_fails true old new left = left
  write_fails false old new left = left

  no_memory : (b : Bool) (old new : Option (List ℕ)) → HasText unread (λ text. HasWritten b limits text options old new refusal.Memory)
      → Keeps old new ⊎ HasText unread (λ text. HasDesignWithin limits text options (λ design. IsStopped b design options old new))
  no_memory true old new left = inr left
  no_memory false old new left = inl left.holds

  pub stopped : (f : Failure) (old new : Option (List ℕ)) {Helped : Type 0} → status_of f ≡ 4 → IsFailure limits unread options f
      → HasLeft request.streams limits unread options old new f
      → Keeps old new ⊎ (HasRun words unread (λ text o. HasDesignWithin (limits_of words) text o (λ design. IsStopped (streams words) design o old new))
      ⊎ Helped)
  stopped failure.Read old new four failed left = inl left
  stopped failure.Memory old new four failed left = inl left
  stopped (failure.Run refusal.Options) old new four failed left = absurd (omega arith)
  stopped (failure.Run (refusal.Text f)) old new four failed left = inl (of_text request.streams f old new left)
  stopped (failure.Run (refusal.Flat f)) old new four failed left = inl (of_design request.streams f old new left)
  stopped (failure.Run (refusal.CycleLimit l)) old new four failed left = absurd (omega arith)
  stopped (failure.Run refusal.PostponedDelta) old new four failed left = absurd (omega arith)
  stopped (failure.Run refusal.Stranger) old new four failed left = absurd (omega arith)
  stopped (failure.Run refusal.Memory) old new four failed left = elim (no_memory request.streams old new left) [
    | inl keeps ↦ inl keeps
    | inr some ↦ some_lines old new failed.0 some
  ]
  stopped (failure.Run refusal.Write) old new four failed left = some_lines old new failed (write_fails request.streams old new left)
