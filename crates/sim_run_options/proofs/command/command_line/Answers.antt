use Rattle.std.proofs.Common.{◌≡◌, ◌∙◌, ap, ap₂, codes, true}
use Rattle.std.proofs.lemmas.Result.{IfOk-weaker}
use Rattle.clap.specs.Simple.{App, app_of, app_of_fields, new_app, on_top, with_rule}
use Rattle.sim_run_options.specs.Asks.{large_rule, limit_rule, stop_rule, stream_rule, workers_rule}
use Rattle.sim_run_options.proofs.command.command_line.Goals as goal

abbrev nameless : App → App
nameless = on_top (λ s. record s { no_binary_name = true })

pub returns : goal.returns
returns c =
    let start : app_of c.no_binary_name.result ≡ nameless (new_app (codes "vsim")) = ap app_of_fields c.no_binary_name.ensures
    ∙ ap nameless (ap app_of_fields c.after_help.ensures ∙ (ap app_of_fields c.about.ensures ∙ c.new.ensures.app)) in
    let top = c.in_ok-command.ensures.shape c.top_argument.ensures.local ∙ ap₂ with_rule start c.top_argument.ensures.rule in
    let numbers = c.in_ok-numbered.ensures ∙ ap (λ (a : App). with_rule (with_rule (with_rule a stop_rule) limit_rule) workers_rule) top in
    IfOk-weaker c.with_flags.result _ _ (λ r h. h ∙ ap (λ (a : App). with_rule (with_rule a large_rule) stream_rule) numbers) c.with_flags.ensures
