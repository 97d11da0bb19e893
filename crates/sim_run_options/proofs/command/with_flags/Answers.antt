use Rattle.std.proofs.Common.{◌∙◌, ap, ap₂}
use Rattle.std.proofs.lemmas.Result.{IfOk-weaker}
use Rattle.clap.specs.Simple.{app_of, with_rule}
use Rattle.sim_run_options.proofs.command.with_flags.Goals as goal

pub returns : goal.returns
returns c =
    let one = c.in_ok-arg.ensures.shape c.large_argument.ensures.local ∙ ap (with_rule (app_of c.args.command)) c.large_argument.ensures.rule in
    IfOk-weaker c.arg-2.result _ _ (λ r h. h.shape c.stream_argument.ensures.local ∙ ap₂ with_rule one c.stream_argument.ensures.rule) c.arg-2.ensures
