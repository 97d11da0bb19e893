use Rattle.sim_run_session.proofs.Finishing.{finishes, refuses_among}
use Rattle.sim_run.proofs.runs.run_by_workers.Goals as goal

pub returns-clause-finished : goal.returns-clause-finished
returns-clause-finished g c =
    finishes c.args.design c.args.options.now c.in_ok-run.run' c.finished_run.result c.in_ok-run.ensures.ok.0 c.finished_run.ensures.finished

pub returns-clause-refused : goal.returns-clause-refused
returns-clause-refused g c =
    refuses_among c.args.design c.args.options.now c.in_ok-run.run' c.in_ok-run.ensures.ok.0 c.finished_run.result c.finished_run.ensures.refused
