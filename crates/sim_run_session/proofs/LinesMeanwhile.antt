-- Lines that are written while a run goes on.
use Rattle.std.proofs.Common.{◌≡◌, ◌∙◌, ℕ, suc, ◌≤◌, Bool, List, [], ◌++◌, length, map, take, drop, Option, None}
use Rattle.std.proofs.Common.{Some, refl, ap, sym, subst, arith, append_assoc}
use Rattle.std.proofs.Common.{inl, inr, Result, Ok, Err, append-nil, take-append-drop}
use Rattle.std.specs.Prelude.{◌⊎◌, IfErr, OnErr, OnOk, flat_map}
use Rattle.std.specs.Io.KnownBytes.{Appends}
use Rattle.std.proofs.KnownBytes.{Appends-nil, Appends-trans}
use Rattle.std.proofs.lemmas.Grind.{flat_map-append}
use Rattle.std.proofs.lemmas.List.{take-append-le, take_all}
use Rattle.sim_flat_design.specs.Designs.{Design, Net}
use Rattle.sim_standard.specs.Behaviour.{Behaviour, behaviour_of}
use Rattle.sim_standard.specs.Cycle.{next_in}
use Rattle.sim_standard.specs.Outcome.{FinishedAfter, HasOutcome, LimitReached, Outcome, PostponedDeltaAfter}
use Rattle.sim_standard.specs.Records.{records_to}
use Rattle.sim_standard.specs.declared.record.Record.{Record}
use Rattle.sim_store.specs.Run.{Run, records_of, rest_of, with_executed}
use Rattle.sim_store.specs.WaveStore.{WaveStore, HasEnd, IsSameRun, IsWithin, WentOn}
use Rattle.sim_store.specs.declared.store.Step.{Step}
use Rattle.sim_store.specs.declared.store.Step.TheVariants as step
use Rattle.sim_run_listing.specs.Listing.{lines_of}
use Rattle.sim_run_listing.specs.Writing.{AppendsPart}
use Rattle.sim_run_listing.specs.Listing.{last_line, listing}
use Rattle.sim_run_listing.specs.ShortNames.{AreNames}
use Rattle.sim_run_listing.proofs.Gathering.{then_part}
use Rattle.sim_run_options.specs.declared.options.Options.{Options}
use Rattle.sim_run_session.specs.declared.error.RunError.{RunError}
use Rattle.sim_run_session.specs.declared.error.RunError.TheVariants as refusal
use Rattle.sim_run_session.specs.Run.{Finishes, IsRunOf, Lists}
use Rattle.sim_run_session.specs.Streaming.{AppendsFirst, AreTheirNames, Continues, HasGoneOn, HasListed, IsCutRun, IsListed, ListsFirst, ListsSome, Stops}

-- the lines of records of a design
abbrev lines : Design → List Record → List ℕ
lines design records = flat_map (lines_of (behaviour_of design).names) records

-- ---- some of the bytes

-- a proper prefix is some
pub first_of_part : (a b : Option (List ℕ)) (bytes : List ℕ) → AppendsPart a b bytes → AppendsFirst a b bytes
first_of_part None b bytes p = record { written = bytes; others = []; both = append-nil bytes; appended = tt }
first_of_part (Some xs) None bytes p = absurd p
first_of_part (Some xs) (Some ys) bytes p =
    record { written = take p.0 bytes; others = drop p.0 bytes; both = take-append-drop p.0 bytes; appended = p.2 }

-- some after others
pub first_after : (a b c : Option (List ℕ)) (xs ys : List ℕ) → Appends a b xs → AppendsFirst b c ys → AppendsFirst a c (xs ++ ys)
first_after a b c xs ys p q = record {
  written = xs ++ q.written;
  others = q.others;
  both = append_assoc xs q.written q.others ∙ ap (λ (l : List ℕ). xs ++ l) q.both;
  appended = Appends-trans a b c xs q.written p q.appended;
}

-- ---- the lines of a run's records

module _ (run : Run) (begin before : Option (List ℕ)) (listed : HasListed run begin before) where
  abbrev design : Design
  design = run.store.simulation.design

  -- those that were given away, and the rest
  together : lines design (take run.given (records_of run)) ++ lines design (rest_of run) ≡ lines design (records_of run)
  together =
      sym (flat_map-append (lines_of (behaviour_of design).names) (take run.given (records_of run)) (drop run.given (records_of run)))
      ∙ ap (lines design) (take-append-drop run.given (records_of run))

  pub all_listed : (after : Option (List ℕ)) → Appends before after (lines design (rest_of run)) → Appends begin after (lines design (records_of run))
  all_listed after p = subst (Appends begin after) together (Appends-trans begin before after _ _ listed p)

  pub some_listed : (after : Option (List ℕ)) → AppendsFirst before after (lines design (rest_of run))
      → AppendsFirst begin after (lines design (records_of run))
  some_listed after p = subst (AppendsFirst begin after) together (first_after begin before after _ _ listed p)

  pub none_more : AppendsFirst begin before (lines design (records_of run))
  none_more = record { written = lines design (take run.given (records_of run)); others = lines design (rest_of run); both = together; appended = listed }

  pub lists_some : IsWithin run.store → (after : Option (List ℕ)) → AppendsFirst begin after (lines design (records_of run))
      → ListsSome (behaviour_of design) run.store.stop run.store.limit begin after
  lists_some within after p = record {
    cycles = run.store.simulation.cycles;
    come = record { within = within.cycles; going = within.going };
    written = p;
  }

-- the rest is written, and given away
pub passed_on : (old new : Run) → new ≡ record { store = old.store; given = suc old.store.simulation.cycles }
    → length (records_of old) ≡ suc old.store.simulation.cycles → (before after : Option (List ℕ))
    → Appends before after (lines old.store.simulation.design (rest_of old)) → Continues old before new after
passed_on old new is count before after p begin listed =
    let n = suc old.store.simulation.cycles in
    let all : take n (records_of old) ≡ records_of old = take_all n (records_of old) (omega (arith, count)) in
    subst (λ (r : Run). HasListed r begin after) (sym is)
    (subst (λ (rs : List Record). Appends begin after (lines old.store.simulation.design rs)) (sym all) (all_listed old begin before listed after p))

-- a part of the rest is written
pub passed_in_part : (run : Run) → IsWithin run.store → (before after : Option (List ℕ))
    → AppendsPart before after (lines run.store.simulation.design (rest_of run)) → Stops run before after
passed_in_part run within before after p begin listed =
    lists_some run begin before listed within after (some_listed run begin before listed after (first_of_part before after _ p))

-- nothing more is written
pub stops_here : (run : Run) → IsWithin run.store → (before : Option (List ℕ)) → Stops run before before
stops_here run within before begin listed = lists_some run begin before listed within before (none_more run begin before listed)

-- ---- a run that goes on

-- the records of one more cycle begin with those so far
longer : (d : Design) (k given : ℕ) → given ≤ length (records_to d k) → take given (records_to d (suc k)) ≡ take given (records_to d k)
unfolding records_to
longer d k given within = take-append-le given (records_to d k) _ within

-- it goes on by a step
abbrev Kept : Run → Option (List ℕ) → Option (List ℕ) → WaveStore → Type 0
Kept old begin before w = HasListed (record { store = w; given = old.given }) begin before

pub stepped_on : (old new : Run) (s : Step) → WentOn old.store new.store s → new.given ≡ old.given → old.given ≤ length (records_of old)
    → (before : Option (List ℕ)) → Continues old before new before
stepped_on old new s went given within before begin listed = subst (λ (n : ℕ). HasListed (record { store = new.store; given = n }) begin before) (sym given)
    (go s went)
  where
    go : (s : Step) → WentOn old.store new.store s → Kept old begin before new.store
    go step.Next w =
        let d = old.store.simulation.design in
        subst (Kept old begin before) (sym w.5)
        (subst (λ (rs : List Record). Appends begin before (lines d rs)) (sym (longer d old.store.simulation.cycles old.given within)) listed)
    go step.Postponed w = subst (Kept old begin before) (sym w.2) listed
    go step.PostponedDelta w = subst (Kept old begin before) (sym w.2) listed
    go step.Finished w = subst (Kept old begin before) (sym w.2) listed
    go step.LimitReached w = subst (Kept old begin before) (sym w.3) listed

-- it is the same run
stepped_same : (old new : WaveStore) (s : Step) → WentOn old new s → IsSameRun old new
stepped_same old new step.Next w = subst (IsSameRun old) (sym w.5) (record { design = refl; stop = refl; limit = refl })
stepped_same old new step.Postponed w = subst (IsSameRun old) (sym w.2) (record { design = refl; stop = refl; limit = refl })
stepped_same old new step.PostponedDelta w = subst (IsSameRun old) (sym w.2) (record { design = refl; stop = refl; limit = refl })
stepped_same old new step.Finished w = subst (IsSameRun old) (sym w.2) (record { design = refl; stop = refl; limit = refl })
stepped_same old new step.LimitReached w = subst (IsSameRun old) (sym w.3) (record { design = refl; stop = refl; limit = refl })

-- ---- the same run

-- what stops a run stops it from the start
pub stopped_since : (old run : Run) (first before after : Option (List ℕ)) → IsSameRun old.store run.store → Continues old first run before
    → Stops run before after → Stops old first after
stopped_since old run first before after same continues stops begin listed =
    subst (λ (d : Design). ListsSome (behaviour_of d) old.store.stop old.store.limit begin after) same.design
    (subst (λ (n : ℕ). ListsSome (behaviour_of run.store.simulation.design) n old.store.limit begin after) same.stop
    (subst (λ (n : ℕ). ListsSome (behaviour_of run.store.simulation.design) run.store.stop n begin after) same.limit
    (stops begin (continues begin listed))))

pub goes_on_none : (run : Run) → HasGoneOn run run
goes_on_none run = record {
  same = record { design = refl; stop = refl; limit = refl };
  given = refl;
  listed = λ written begin listed. listed;
}

pub goes_on_then : (a b c : Run) → HasGoneOn a b → HasGoneOn b c → HasGoneOn a c
goes_on_then a b c p q = record {
  same = record {
    design = q.same.design ∙ p.same.design;
    stop = q.same.stop ∙ p.same.stop;
    limit = q.same.limit ∙ p.same.limit;
  };
  given = q.given ∙ p.given;
  listed = λ written begin listed. q.listed written begin (p.listed written begin listed);
}

-- a phase is carried out
pub phase_on : (run executed new : Run) (marks : List Bool) (s : Step) → executed ≡ with_executed run marks → WentOn executed.store new.store s
    → new.given ≡ executed.given → executed.given ≤ length (records_of executed) → HasGoneOn run new
phase_on run executed new marks s is went given within = goes_on_then run executed new
    (subst (HasGoneOn run) (sym is) (record {
      same = record { design = refl; stop = refl; limit = refl };
      given = refl;
      listed = λ written begin listed. listed;
    }))
    (record { same = stepped_same executed.store new.store s went; given = given; listed = stepped_on executed new s went given within })

-- What is known on the way of a run whose lines are written piece by piece.
pub record IsLed (start : Run) (first : Option (List ℕ)) (run : Run) (now : Option (List ℕ)) : Type 0 where
  pub same : IsSameRun start.store run.store
  pub continues : Continues start first run now

pub led_first : (run : Run) (first : Option (List ℕ)) → IsLed run first run first
led_first run first = record {
  same = record { design = refl; stop = refl; limit = refl };
  continues = λ begin listed. listed;
}

-- it goes on, and its records are written and given away
pub led_on : (start run next last : Run) (first now after : Option (List ℕ)) → IsLed start first run now → HasGoneOn run next
    → last.store ≡ next.store → Continues next now last after → IsLed start first last after
led_on start run next last first now after led on is passed = record {
  same = record {
    design = ap (λ (w : WaveStore). w.simulation.design) is ∙ (on.same.design ∙ led.same.design);
    stop = ap (λ (w : WaveStore). w.stop) is ∙ (on.same.stop ∙ led.same.stop);
    limit = ap (λ (w : WaveStore). w.limit) is ∙ (on.same.limit ∙ led.same.limit);
  };
  continues = λ begin listed. passed begin (on.listed now begin (led.continues begin listed));
}

-- it cannot go on
pub led_ends : (start run : Run) (first now : Option (List ℕ)) → IsLed start first run now → IsWithin run.store → Stops start first now
led_ends start run first now led within = stopped_since start run first now now led.same led.continues (stops_here run within now)

-- its records cannot be written
pub led_stops : (start run next : Run) (first now after : Option (List ℕ)) → IsLed start first run now → HasGoneOn run next → Stops next now after
    → Stops start first after
led_stops start run next first now after led on stops =
    stopped_since start run first now after led.same led.continues (stopped_since run next now now after on.same (on.listed now) stops)

-- the names of its nets stay the same
pub names_stay : (start run : Run) (known : List (Option (List ℕ))) → IsSameRun start.store run.store → AreTheirNames start known
    → AreTheirNames run known
names_stay start run known same names = subst (λ (d : Design). AreNames (behaviour_of d).names known) (sym same.design) names

-- ---- a run that has ended

module _ (run : Run) (options : Options) (of : IsRunOf run.store.simulation.design options run.store) (begin before after : Option (List ℕ))
    (listed : HasListed run begin before) where
  abbrev behaviour : Behaviour
  behaviour = behaviour_of run.store.simulation.design

  -- an outcome by the run's bounds is one by the options
  by_options : (o : Outcome) → HasOutcome (next_in run.store.simulation.design) run.store.stop run.store.limit o
      → HasOutcome behaviour.next options.stop options.limit o
  by_options o end =
      subst (λ (limit : ℕ). HasOutcome (next_in run.store.simulation.design) options.stop limit o) of.limit
      (subst (λ (stop : ℕ). HasOutcome (next_in run.store.simulation.design) stop run.store.limit o) of.stop end)

  -- it was cut short, and the rest of its lines was written
  pub cut_listed : (e : RunError) → IsCutRun run e → Appends before after (lines run.store.simulation.design (rest_of run))
      → IsListed behaviour options begin after (Err e)
  cut_listed (refusal.CycleLimit limit) cut p =
      let at : run.store.simulation.cycles ≡ options.limit = cut.1.0 ∙ of.limit in (
        cut.0 ∙ of.limit,
        record {
          ends = by_options LimitReached cut.1.1;
          written = subst (λ (n : ℕ). Appends begin after (lines run.store.simulation.design (records_to run.store.simulation.design n))) at
              (all_listed run begin before listed after p);
        },
      )
  cut_listed refusal.PostponedDelta cut p = (
    run.store.simulation.cycles,
    record {
      ends = by_options (PostponedDeltaAfter run.store.simulation.cycles) cut;
      written = all_listed run begin before listed after p;
    },
  )
  cut_listed refusal.Options cut p = absurd cut
  cut_listed (refusal.Text e) cut p = absurd cut
  cut_listed (refusal.Flat e) cut p = absurd cut
  cut_listed refusal.Stranger cut p = absurd cut
  cut_listed refusal.Write cut p = absurd cut
  cut_listed refusal.Memory cut p = absurd cut

  -- some of the rest was written
  pub first_listed : IsWithin run.store → AppendsPart before after (lines run.store.simulation.design (rest_of run))
      → ListsFirst behaviour options begin after
  first_listed within p =
      inl (subst (λ (limit : ℕ). ListsSome behaviour options.stop limit begin after) of.limit
      (subst (λ (stop : ℕ). ListsSome behaviour stop run.store.limit begin after) of.stop
      (passed_in_part run within before after p begin listed)))

  -- it is finished
  finishes_so : HasEnd run.store step.Finished → Finishes behaviour options (record { names = behaviour.names; records = records_of run })
  finishes_so end = record {
    cycles = run.store.simulation.cycles;
    outcome = by_options (FinishedAfter run.store.simulation.cycles) end;
    names = refl;
    records = refl;
  }

  -- with the last line
  whole_listing : (lines run.store.simulation.design (take run.given (records_of run))) ++ (lines run.store.simulation.design (rest_of run)
      ++ last_line (records_of run)) ≡ listing behaviour.names (records_of run)
  whole_listing =
      sym (append_assoc (lines run.store.simulation.design (take run.given (records_of run))) (lines run.store.simulation.design (rest_of run))
      (last_line (records_of run)))
      ∙ ap (λ (l : List ℕ). l ++ last_line (records_of run)) (together run begin before listed)

  pub end_listed : HasEnd run.store step.Finished
      → Appends before after (lines run.store.simulation.design (rest_of run) ++ last_line (records_of run)) → Lists behaviour options begin after
  end_listed end p = record {
    history = record { names = behaviour.names; records = records_of run };
    finishes = finishes_so end;
    written = subst (Appends begin after) whole_listing (Appends-trans begin before after _ _ listed p);
  }

  pub end_fails : HasEnd run.store step.Finished
      → AppendsPart before after (lines run.store.simulation.design (rest_of run) ++ last_line (records_of run)) → ListsFirst behaviour options begin after
  end_fails end p = inr (record {
    history = record { names = behaviour.names; records = records_of run };
    finishes = finishes_so end;
    written = subst (AppendsPart begin after) whole_listing (then_part begin before after _ _ listed p);
  })

  -- what is known by the answer
  pub listed_by : (r : Result (Unit {0}) RunError) → OnOk r (Lists behaviour options begin after) → OnErr r (ListsFirst behaviour options begin after)
      → IfErr r (λ e. e ≡ refusal.Write) → IsListed behaviour options begin after r
  listed_by (Ok done) lists first why = lists
  listed_by (Err e) lists first why = subst (λ (x : RunError). IsListed behaviour options begin after (Err x)) (sym why) first

-- ---- a whole run

-- nothing was given away yet, and nothing is written
pub listed_first : (run : Run) → run.given ≡ 0 → (begin : Option (List ℕ)) → HasListed run begin begin
listed_first run none begin =
    subst (λ (n : ℕ). Appends begin begin (lines run.store.simulation.design (take n (records_of run)))) (sym none) (Appends-nil begin)

-- the rest of the run's listing is its listing
pub listed_whole : (start run : Run) (options : Options) (begin after : Option (List ℕ)) (r : Result (Unit {0}) RunError) → IsSameRun start.store run.store
    → IsListed (behaviour_of run.store.simulation.design) options begin after r
    → IsListed (behaviour_of start.store.simulation.design) options begin after r
listed_whole start run options begin after r same listed = subst (λ (d : Design). IsListed (behaviour_of d) options begin after r) same.design listed

-- it was stopped
pub listed_in_part : (run : Run) (options : Options) → IsRunOf run.store.simulation.design options run.store → run.given ≡ 0
    → (begin after : Option (List ℕ)) (e : RunError) → (e ≡ refusal.Memory) ⊎ (e ≡ refusal.Write) → Stops run begin after
    → IsListed (behaviour_of run.store.simulation.design) options begin after (Err e)
listed_in_part run options of none begin after e why stops =
    let behaviour = behaviour_of run.store.simulation.design in
    let some : ListsFirst behaviour options begin after =
    inl (subst (λ (limit : ℕ). ListsSome behaviour options.stop limit begin after) of.limit
    (subst (λ (stop : ℕ). ListsSome behaviour stop run.store.limit begin after) of.stop (stops begin (listed_first run none begin)))) in
    elim why [
      | inl memory ↦ subst (λ (x : RunError). IsListed behaviour options begin after (Err x)) (sym memory) some
      | inr write ↦ subst (λ (x : RunError). IsListed behaviour options begin after (Err x)) (sym write) some
    ]

-- the names of the nets
pub names_of : (run : Run) (nets : List Net) (known : List (Option (List ℕ))) → nets ≡ run.store.simulation.design.nets
    → AreNames (map (λ (n : Net). n.name) nets) known → AreTheirNames run known
names_of run nets known same names = subst (λ (ns : List Net). AreNames (map (λ (n : Net). n.name) ns) known) same names
