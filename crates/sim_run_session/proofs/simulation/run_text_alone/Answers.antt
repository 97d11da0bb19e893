use Rattle.sim_run_session.proofs.Simulations.{text_run}
use Rattle.sim_run_session.proofs.simulation.run_text_alone.Goals as goal

pub returns : goal.returns
returns c =
    text_run c.args.settings.limits c.args.source.now c.args.options.now c.in_ok-design.design c.run_alone.result
    c.in_ok-design.ensures.value c.run_alone.ensures.finished c.run_alone.ensures.refused
