-- The words `--top` and a name.
use Rattle.std.proofs.Common.{◌≡◌, ◌∙◌, ℕ, false, List, [], ◌∷◌, Some, None, refl, sym, ap, ap₂, codes}
use Rattle.std.proofs.Common.{Option, Result, Ok, Err, option_map, subst}
use Rattle.std.specs.Prelude.{MatchResult, unwrap_or}
use Rattle.std.specs.Option.{is_some}
use Rattle.std.specs.Str.Parse.{digits_value, starts_with_minus, without_leading_plus}
use Rattle.clap.specs.Faults.{check_fault, defaults_fault, entered_fault, fault_of, settle_fault, turn_fault, walk_fault}
use Rattle.clap.specs.Kinds.{IsAmong, Kinds, or_else}
use Rattle.clap.specs.Simple.{App, built, entered, matches_of, names_of}
use Rattle.clap.specs.Walk.{Names, Row, Rule, Text, Walk, finished, first_of, idle}
use Rattle.clap.specs.Walk.{nothing_held, one_of, option, settled, walk, walk_from, walked, walked_from}
use Rattle.clap.specs.declared.error.kind.ErrorKind.{ErrorKind}
use Rattle.clap.specs.declared.error.kind.ErrorKind.TheVariants as kinds
use Rattle.clap.proofs.OnLiterals.{clap_on_literals}
use Rattle.sim_run_options.specs.Asks.{Asks, AsksFor, Explains, IsDefault, IsUsual, limits_in, program, streams_in}
use Rattle.sim_run_options.specs.Limits.{usual_cycles_of}
use Rattle.sim_run_options.specs.declared.limits.Limits.TheVariants.{Standard}
use Rattle.sim_run_options.specs.declared.options.Options.{Options}
use Rattle.sim_run_options.specs.declared.reading.Request.{Request}
use Rattle.sim_run_options.specs.declared.fault.CliFault.{CliFault}
use Rattle.sim_run_options.specs.declared.fault.CliFault.TheVariants as fault

abbrev whole : App
whole = built program

abbrev rules : List Rule
rules = whole.top.rules

abbrev names : Names
names = names_of whole

-- the faults of a walk and of what follows it
abbrev ends : Walk → Kinds → Kinds
ends w faults = or_else faults
    (or_else (entered_fault whole w.stopped)
    (or_else (settle_fault rules whole.top.args_override_self w.held)
    (or_else (defaults_fault (settled rules w.held).rows rules) (check_fault whole.top (finished rules w.held) (is_some (entered whole w.stopped))))))

ends_are : (words : List Text)
    → fault_of program words ≡ ends (walk rules names nothing_held words) (walk_fault whole.top names (walk_from nothing_held) words)
ends_are words = refl

-- after the first word, and after both
abbrev after_flag : Walk
after_flag = record {
  held = record { rows = []; pending = Some (codes "top", []); skip = 0 };
  waiting = option (codes "top");
  position = 1;
  is_trailing = false;
  stopped = None;
}

abbrev after_name : Text → Walk
after_name name = record {
  held = record { rows = []; pending = Some (codes "top", name ∷ []); skip = 0 };
  waiting = idle;
  position = 1;
  is_trailing = false;
  stopped = None;
}

first : walked rules names (walk_from nothing_held) (codes "--top") ≡ after_flag
unfolding clap_on_literals
first = refl

no_turn_fault : turn_fault whole.top names (walk_from nothing_held) (codes "--top") ≡ []
unfolding clap_on_literals
no_turn_fault = refl

second_from : (name : Text) → starts_with_minus name ≡ false → walked_from rules names None after_flag name ≡ after_name name
second_from [] e = refl
second_from (x ∷ xs) e = rw e (rw e refl)

second : (name : Text) → starts_with_minus name ≡ false → walked rules names after_flag name ≡ after_name name
unfolding walked
second name e = second_from name e

no_name_fault : (name : Text) → starts_with_minus name ≡ false → turn_fault whole.top names after_flag name ≡ []
no_name_fault [] e = refl
no_name_fault (x ∷ xs) e = rw e (rw e refl)

both : (name : Text) → starts_with_minus name ≡ false → walk rules names nothing_held (codes "--top" ∷ name ∷ []) ≡ after_name name
both name e = ap (λ w. walked rules names w name) first ∙ second name e

no_faults : (name : Text) → starts_with_minus name ≡ false → walk_fault whole.top names (walk_from nothing_held) (codes "--top" ∷ name ∷ []) ≡ []
unfolding walk_fault
no_faults name e = ap₂ or_else no_turn_fault (ap (λ w. or_else (turn_fault whole.top names w name) []) first ∙ ap (λ ks. or_else ks []) (no_name_fault name e))

at_the_end : (name : Text) → ends (after_name name) [] ≡ []
unfolding clap_on_literals
at_the_end name = refl

pub name_taken : (name : Text) → starts_with_minus name ≡ false → fault_of program (codes "--top" ∷ name ∷ []) ≡ []
name_taken name e = ends_are (codes "--top" ∷ name ∷ []) ∙ (ap₂ ends (both name e) (no_faults name e) ∙ at_the_end name)

top_found : (name : Text) → first_of (codes "top") (finished rules (after_name name).held) ≡ Some name
unfolding clap_on_literals
top_found name = refl

-- the number that rows give to an option
abbrev number_in : Text → List Row → Option ℕ
number_in id rs = option_map (λ t. digits_value 10 (without_leading_plus t)) (one_of id rs)

stop_found : (name : Text) → number_in (codes "stop") (finished rules (after_name name).held) ≡ Some 4611686018427387903
unfolding clap_on_literals
stop_found name = refl

limits_found : (name : Text) → limits_in (finished rules (after_name name).held) ≡ Standard
unfolding clap_on_literals
limits_found name = refl

streams_found : (name : Text) → streams_in (finished rules (after_name name).held) ≡ false
unfolding clap_on_literals
streams_found name = refl

-- the limit of cycles that rows give
abbrev limit_in : List Row → ℕ
limit_in rs = unwrap_or (number_in (codes "limit") rs) (usual_cycles_of (limits_in rs))

limit_found : (name : Text) → limit_in (finished rules (after_name name).held) ≡ 10000
unfolding clap_on_literals
limit_found name = refl

workers_found : (name : Text) → number_in (codes "workers") (finished rules (after_name name).held) ≡ Some 1
unfolding clap_on_literals
workers_found name = refl

rows : (name : Text) → starts_with_minus name ≡ false → matches_of program (codes "--top" ∷ name ∷ []) ≡ finished rules (after_name name).held
rows name e = ap (λ w. finished rules w.held) (both name e)

some : {X : Type 0} (a b : X) → Some a ≡ Some b → a ≡ b
some a b e = ap (λ o. unwrap_or o a) e

defaults : (words : List Text) (name : Text) (options : Options) → words ≡ codes "--top" ∷ name ∷ [] → starts_with_minus name ≡ false → Asks words options
    → IsDefault name options
defaults words name options is e asks =
    let same = ap (matches_of program) is ∙ rows name e in
    record {
      top = some _ _ (sym asks.top ∙ (ap (first_of (codes "top")) same ∙ top_found name));
      stop = some _ _ (sym asks.stop ∙ (ap (number_in (codes "stop")) same ∙ stop_found name));
      limit = sym asks.limit ∙ (ap limit_in same ∙ limit_found name);
      workers = some _ _ (sym asks.workers ∙ (ap (number_in (codes "workers")) same ∙ workers_found name));
    }

usual : (words : List Text) (name : Text) (request : Request) → words ≡ codes "--top" ∷ name ∷ [] → starts_with_minus name ≡ false
    → AsksFor words request → IsUsual name request
usual words name request is e asks =
    let same = ap (matches_of program) is ∙ rows name e in
    record {
      options = defaults words name request.options is e asks.options;
      limits = asks.limits ∙ (ap limits_in same ∙ limits_found name);
      streams = asks.streams ∙ (ap streams_in same ∙ streams_found name);
    }

no_kind : (words : List Text) (name : Text) (k : ErrorKind) → words ≡ codes "--top" ∷ name ∷ [] → starts_with_minus name ≡ false
    → IsAmong k (fault_of program words) → ⊥
no_kind words name k is e among = subst (IsAmong k) (ap (fault_of program) is ∙ name_taken name e) among

-- so the answer is this run, or that memory ran out
pub answered : (words : List Text) (name : Text) (r : Result Request CliFault) → MatchResult r (AsksFor words) (Explains words)
    → words ≡ codes "--top" ∷ name ∷ [] → starts_with_minus name ≡ false → MatchResult r (IsUsual name) (λ f. f ≡ fault.Memory)
answered words name (Ok request) h is e = usual words name request is e h
answered words name (Err (fault.Help text)) h is e = absurd (no_kind words name kinds.DisplayHelp is e h.among)
answered words name (Err (fault.Refused text)) h is e = absurd (no_kind words name h.kind is e h.among)
answered words name (Err fault.Memory) h is e = refl
