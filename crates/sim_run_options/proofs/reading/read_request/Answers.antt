use Rattle.std.proofs.Common.{option_map, rules, ◌≡◌, ◌∙◌, ap, ap₂, sym, subst, refl, codes, map, Some, List, Ok, Err}
use Rattle.std.specs.Prelude.{string_bytes, unwrap_or}
use Rattle.std.specs.Str.Parse.{ExplainsUnsignedError}
use Rattle.clap.specs.Faults.{fault_of}
use Rattle.clap.specs.Kinds.{HasKind}
use Rattle.clap.specs.Simple.{HasMatchesOf, app_of}
use Rattle.clap.specs.Matches.{found_of}
use Rattle.clap.specs.Walk.{Text, first_of}
use Rattle.clap.proofs.CallerLemmas.{some_of_text}
use Rattle.clap.proofs.WalkLemmas.{first_value-rows}
use Rattle.sim_run_options.specs.Asks.{Asks, AsksFor, Explains, limits_in, limits_of, streams, streams_in}
use Rattle.sim_run_options.specs.Limits.{usual_cycles_of}
use Rattle.sim_run_options.specs.declared.options.Options.{Options}
use Rattle.sim_run_options.specs.declared.reading.Request.{Request}
use Rattle.sim_run_options.proofs.Names.{answered}
use Rattle.sim_run_options.proofs.Values.{explained, kinds_known, limit_known, number_known, number_read, rows_known, stop_there, top_there}
use Rattle.sim_run_options.proofs.Values.{workers_there}
use Rattle.sim_run_options.proofs.reading.read_request.Goals as goal

pub returns-in-Err : goal.returns-in-Err
returns-in-Err c =
    let words : List Text = map string_bytes c.args.words.items in
    let among = c.in-Err.ensures.kinds (kinds_known c.in-Ok.command c.in-Ok.ensures) in
    let same = ap₂ fault_of c.in-Ok.ensures (ap (map string_bytes) c.as_slice.ensures.value) in
    let why : Explains words c.fault_of_error.result =
    explained words _ c.fault_of_error.result (subst (λ ks. HasKind ks c.in-Err.error) same among) c.fault_of_error.ensures in
    record {
      read = why;
      alone = λ name is e. answered words name (Err c.fault_of_error.result) why is e;
    }

pub unwrap-requires : goal.unwrap-requires
unwrap-requires c =
    let m = c.in-Ok-try_get_matches_from.matches in
    let parsed = c.in-Ok-try_get_matches_from.ensures.parsed in
    some_of_text _ c.get_str.result _ c.get_str.ensures (top_there c.in-Ok.command m c.in-Ok.ensures parsed)

pub unwrap-requires-2 : goal.unwrap-requires-2
unwrap-requires-2 c =
    let m = c.in-Ok-try_get_matches_from.matches in
    let stop = stop_there c.in-Ok.command m c.in-Ok.ensures c.in-Ok-try_get_matches_from.ensures.parsed in
    rw (number_read (ExplainsUnsignedError 10) (found_of m) (codes "stop") 64 c.get_one.result c.get_one.ensures.value stop) refl

pub unwrap-requires-3 : goal.unwrap-requires-3
unwrap-requires-3 c =
    let m = c.in-Ok-try_get_matches_from.matches in
    let workers = workers_there c.in-Ok.command m c.in-Ok.ensures c.in-Ok-try_get_matches_from.ensures.parsed in
    rw (number_read (ExplainsUnsignedError 10) (found_of m) (codes "workers") 64 c.get_one-3.result c.get_one-3.ensures.value workers) refl

pub returns : goal.returns
returns c =
    let m = c.in-Ok-try_get_matches_from.matches in
    let command = c.in-Ok.command in
    let is = c.in-Ok.ensures in
    let clauses = c.in-Ok-try_get_matches_from.ensures in
    let f = found_of m in
    let words : List Text = map string_bytes c.args.words.items in
    let words_are = ap (map string_bytes) c.as_slice.ensures.value in
    let rows = rows_known command m words is (subst (λ ws. HasMatchesOf (app_of command) ws m) words_are clauses.matches) in
    let stop = stop_there command m is clauses.parsed in
    let workers = workers_there command m is clauses.parsed in
    let got : c.get_str.result ≡ Some c.unwrap.result = search rules in
    let stop_read = number_read (ExplainsUnsignedError 10) f (codes "stop") 64 c.get_one.result c.get_one.ensures.value stop in
    let limits_are : c.limits_of-limits.result ≡ limits_of words = c.limits_of-limits.ensures ∙ ap limits_in rows in
    let limit_is =
    limit_known (ExplainsUnsignedError 10) command m is clauses.parsed c.get_one-2.result c.get_one-2.ensures.none c.get_one-2.ensures.value words rows in
    let workers_read = number_read (ExplainsUnsignedError 10) f (codes "workers") 64 c.get_one-3.result c.get_one-3.ensures.value workers in
    let options : Options = record { top = c.in-Ok-from_str.top; stop = c.unwrap-2.result; limit = c.unwrap_or.result; workers = c.unwrap-3.result } in
    let asks : Asks words options = record {
      taken = sym (ap₂ fault_of is words_are) ∙ clauses.kinds (kinds_known command is);
      top = ap (first_of (codes "top")) (sym rows) ∙ (sym (first_value-rows f (codes "top")) ∙ (sym c.get_str.ensures
          ∙ (ap (option_map (λ s. s.now)) got ∙ ap Some (sym c.in-Ok-from_str.ensures.ok))));
      stop = number_known f (codes "stop") 64 words stop rows ∙ (sym stop_read ∙ search rules);
      limit = ap₂ unwrap_or limit_is (sym (c.usual_cycles.ensures ∙ ap usual_cycles_of limits_are)) ∙ sym c.unwrap_or.ensures;
      workers = number_known f (codes "workers") 64 words workers rows ∙ (sym workers_read ∙ search rules);
    } in
    let streams_are : c.streams.result ≡ streams words = c.streams.ensures ∙ ap streams_in rows in
    let request : Request = record { options = options; limits = c.limits_of-limits.result; streams = c.streams.result } in
    let asks_for : AsksFor words request = record { options = asks; limits = limits_are; streams = streams_are } in
    record {
      read = asks_for;
      alone = λ name is e. answered words name (Ok request) asks_for is e;
    }
