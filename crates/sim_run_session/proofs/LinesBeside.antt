-- Lines that are written while a run goes on.
use Rattle.std.proofs.Common.{◌≡◌, ◌∙◌, ℕ, suc, List, [], ◌++◌, length, take, Option, refl, ap, sym, subst, arith, append_assoc}
use Rattle.std.proofs.Common.{inl, inr, append-nil, take-append-drop}
use Rattle.std.specs.Prelude.{◌⊎◌, flat_map}
use Rattle.std.specs.List.{All}
use Rattle.std.specs.Io.KnownBytes.{Appends}
use Rattle.std.proofs.KnownBytes.{Appends-trans}
use Rattle.std.proofs.lemmas.Grind.{flat_map-append}
use Rattle.std.proofs.lemmas.List.{length-map, take_all}
use Rattle.std.proofs.lemmas.List.Elements.{All-nil}
use Rattle.sim_flat_design.specs.Designs.{Design, Net}
use Rattle.sim_standard.specs.Behaviour.{behaviour_of}
use Rattle.sim_standard.specs.Records.{IsNamed}
use Rattle.sim_standard.specs.declared.record.Record.{Record}
use Rattle.sim_store.specs.Run.{Run, records_of, rest_of}
use Rattle.sim_store.specs.WaveStore.{IsSameRun, IsWithin}
use Rattle.sim_run_listing.specs.Listing.{lines_of}
use Rattle.sim_run_listing.specs.Writing.{AppendsPart}
use Rattle.sim_run_session.specs.Streaming.{AppendsFirst, Continues, HasGoneOn, HasListed, ListsSome, Stops, lines_in}
use Rattle.sim_run_session.proofs.LinesMeanwhile.{first_after, first_of_part, stopped_since, stops_here}

-- What is known on the way of a run of which a piece was given away whose lines are not written.
pub record IsBeside (start : Run) (first : Option (List ℕ)) (run : Run) (piece : List Record) (now : Option (List ℕ)) : Type 0 where
  pub same : IsSameRun start.store run.store
  pub before : List Record
  pub all : before ++ piece ≡ take run.given (records_of run)
  pub continues : (begin : Option (List ℕ)) → HasListed start begin first → Appends begin now (lines_in run before)
  pub named : All (IsNamed (length run.store.simulation.design.nets)) piece

-- nothing was given away meanwhile
pub beside_first : (run : Run) (first : Option (List ℕ)) (piece : List Record) → piece ≡ [] → IsBeside run first run piece first
beside_first run first piece none = record {
  same = record { design = refl; stop = refl; limit = refl };
  before = take run.given (records_of run);
  all = ap (λ (rs : List Record). take run.given (records_of run) ++ rs) none ∙ append-nil (take run.given (records_of run));
  continues = λ begin listed. listed;
  named = subst (λ (rs : List Record). All (IsNamed (length run.store.simulation.design.nets)) rs) (sym none)
      (All-nil (IsNamed (length run.store.simulation.design.nets)));
}

-- the lines by the names that another thread has
pub by_names : (start run : Run) (names : List (List ℕ)) (records : List Record) → names ≡ (behaviour_of start.store.simulation.design).names
    → IsSameRun start.store run.store → flat_map (lines_of names) records ≡ lines_in run records
by_names start run names records are same =
    ap (λ (ns : List (List ℕ)). flat_map (lines_of ns) records) (are ∙ ap (λ (d : Design). (behaviour_of d).names) (sym same.design))

-- there are as many as there are nets
pub names_long : (start run : Run) (names : List (List ℕ)) → names ≡ (behaviour_of start.store.simulation.design).names → IsSameRun start.store run.store
    → length run.store.simulation.design.nets ≡ length names
names_long start run names are same =
    ap (λ (d : Design). length d.nets) same.design
    ∙ (sym (length-map start.store.simulation.design.nets (λ (n : Net). n.name)) ∙ ap length (sym are))

module _ (start : Run) (first : Option (List ℕ)) (run : Run) (piece : List Record) (now : Option (List ℕ)) (is : IsBeside start first run piece now) where
  -- the lines of the piece are written
  pub written_so : (after : Option (List ℕ)) → Appends now after (lines_in run piece) → Continues start first run after
  written_so after p begin listed =
      subst (Appends begin after)
      (sym (flat_map-append (lines_of (behaviour_of run.store.simulation.design).names) is.before piece) ∙ ap (lines_in run) is.all)
      (Appends-trans begin now after _ _ (is.continues begin listed) p)

  -- and the run has gone on, and gives the next piece away
  pub beside_on : (after : Option (List ℕ)) (next last : Run) (given : List Record) → Appends now after (lines_in run piece) → HasGoneOn run next
      → last ≡ record { store = next.store; given = suc next.store.simulation.cycles } → length (records_of next) ≡ suc next.store.simulation.cycles
      → given ≡ rest_of next → All (IsNamed (length next.store.simulation.design.nets)) given → IsBeside start first last given after
  beside_on after next last given p on ended count rest named =
      subst (λ (r : Run). IsBeside start first r given after) (sym ended) (record {
        same = record {
          design = on.same.design ∙ is.same.design;
          stop = on.same.stop ∙ is.same.stop;
          limit = on.same.limit ∙ is.same.limit;
        };
        before = take next.given (records_of next);
        all =
            ap (λ (rs : List Record). take next.given (records_of next) ++ rs) rest
            ∙ (take-append-drop next.given (records_of next)
            ∙ sym (take_all (suc next.store.simulation.cycles) (records_of next) (omega (arith, count))));
        continues = λ begin listed. on.listed after begin (written_so after p begin listed);
        named = named;
      })

  -- a part of them is
  pub part_so : (after : Option (List ℕ)) → IsWithin run.store → AppendsPart now after (lines_in run piece) → Stops start first after
  part_so after within p begin listed =
      let names = (behaviour_of run.store.simulation.design).names in
      let some : AppendsFirst begin after (lines_in run is.before ++ lines_in run piece) =
      first_after begin now after (lines_in run is.before) (lines_in run piece) (is.continues begin listed) (first_of_part now after (lines_in run piece) p) in
      let given : AppendsFirst begin after (lines_in run (take run.given (records_of run))) =
      subst (AppendsFirst begin after) (sym (flat_map-append (lines_of names) is.before piece) ∙ ap (lines_in run) is.all) some in
      let all : AppendsFirst begin after (lines_in run (records_of run)) =
      subst (AppendsFirst begin after)
      (sym (flat_map-append (lines_of names) (take run.given (records_of run)) (rest_of run))
      ∙ ap (lines_in run) (take-append-drop run.given (records_of run))) (first_more begin after _ (lines_in run (rest_of run)) given) in
      let here : ListsSome (behaviour_of run.store.simulation.design) run.store.stop run.store.limit begin after = record {
        cycles = run.store.simulation.cycles;
        come = record { within = within.cycles; going = within.going };
        written = all;
      } in
      subst (λ (d : Design). ListsSome (behaviour_of d) start.store.stop start.store.limit begin after) is.same.design
      (subst (λ (n : ℕ). ListsSome (behaviour_of run.store.simulation.design) n start.store.limit begin after) is.same.stop
      (subst (λ (n : ℕ). ListsSome (behaviour_of run.store.simulation.design) run.store.stop n begin after) is.same.limit here))
    where
      first_more : (a b : Option (List ℕ)) (xs ys : List ℕ) → AppendsFirst a b xs → AppendsFirst a b (xs ++ ys)
      first_more a b xs ys p = record {
        written = p.written;
        others = p.others ++ ys;
        both = sym (append_assoc p.written p.others ys) ∙ ap (λ (l : List ℕ). l ++ ys) p.both;
        appended = p.appended;
      }

  -- they are written, and the run is lost
  pub lost_so : (after : Option (List ℕ)) → IsWithin run.store → Appends now after (lines_in run piece) → Stops start first after
  lost_so after within p = stopped_since start run first after after is.same (written_so after p) (stops_here run within after)

  -- all or some of them are, and no more is known of the run
  pub some_so : (after : Option (List ℕ)) → IsWithin run.store → Appends now after (lines_in run piece) ⊎ AppendsPart now after (lines_in run piece)
      → Stops start first after
  some_so after within p = elim p [
    | inl all ↦ lost_so after within all
    | inr some ↦ part_so after within some
  ]
