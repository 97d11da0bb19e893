use Rattle.std.proofs.Common.{◌∙◌, ap, ap₂}
use Rattle.std.proofs.lemmas.Result.{IfOk-weaker}
use Rattle.clap.specs.Simple.{app_of, with_rule}
use Rattle.sim_run_options.proofs.command.with_numbers.Goals as goal

pub returns : goal.returns
returns c =
    let one = c.in_ok-arg.ensures.shape c.stop_argument.ensures.local ∙ ap (with_rule (app_of c.args.command)) c.stop_argument.ensures.rule in
    let two = c.in_ok-arg-2.ensures.shape c.limit_argument.ensures.local ∙ ap₂ with_rule one c.limit_argument.ensures.rule in
    IfOk-weaker c.arg-3.result _ _ (λ r h. h.shape c.workers_argument.ensures.local ∙ ap₂ with_rule two c.workers_argument.ensures.rule) c.arg-3.ensures
