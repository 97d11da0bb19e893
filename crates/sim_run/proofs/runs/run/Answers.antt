use Rattle.std.proofs.Common.{◌≡◌, true, rules}
use Rattle.sim_standard.specs.Behaviour.{behaviour_of}
use Rattle.sim_run_options.specs.Options.{are_in_range}
use Rattle.sim_run.proofs.Answering.{answered}
use Rattle.sim_run.proofs.runs.run.Goals as goal

pub returns : goal.returns
returns g c =
    let o = c.args.options.now in
    let range : are_in_range o.stop o.limit o.workers ≡ true = search rules in
    answered (behaviour_of c.args.design.now) o c.in_ok-run.run' c.of.result range c.in_ok-run.ensures.finished c.of.ensures.names c.of.ensures.records
    c.of.ensures.err
