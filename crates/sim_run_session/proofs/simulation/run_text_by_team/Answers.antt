use Rattle.sim_run_session.proofs.Simulations.{text_run_found}
use Rattle.sim_run_session.proofs.simulation.run_text_by_team.Goals as goal

pub returns : goal.returns
returns g c =
    text_run_found c.args.settings.limits c.args.source.now c.args.options.now c.in_ok-design.design c.run_by_team.result c.in_ok-design.ensures.value
    c.run_by_team.ensures.finished c.run_by_team.ensures.cut
