use Rattle.sim_run_session.proofs.Finishing.{listed, part_listed}
use Rattle.sim_run_session.proofs.Simulations.{write_failed, where_failed}
use Rattle.sim_run_session.proofs.simulation.simulate_within.Goals as goal

pub returns-clause-refused : goal.returns-clause-refused
returns-clause-refused g c = write_failed c.write_run.result _ c.write_run.ensures.err

pub returns-clause-quiet : goal.returns-clause-quiet
returns-clause-quiet g c = write_failed c.write_run.result _ c.write_run.ensures.err

pub returns-clause-part : goal.returns-clause-part
returns-clause-part g c = λ failed.
    part_listed c.args.settings.limits c.args.source.now c.args.options.now c.in_ok-run.run' (g.W.Write.contents c.args.out.now)
    (g.W.Write.contents c.write_run.new.out) c.in_ok-run.ensures (where_failed c.write_run.result _ _ c.write_run.ensures.part failed)

pub returns-clause-listed : goal.returns-clause-listed
returns-clause-listed g c =
    listed c.args.settings.limits c.args.source.now c.args.options.now c.in_ok-run.run' c.write_run.result (g.W.Write.contents c.args.out.now)
    (g.W.Write.contents c.write_run.new.out) c.in_ok-run.ensures c.write_run.ensures.ok
