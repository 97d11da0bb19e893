use Rattle.std.proofs.Common.{◌≡◌, ◌∙◌, ap}
use Rattle.sim_store.specs.Run.{Run, with_executed}
use Rattle.sim_run_session.proofs.OkGives.{ok_holds}
use Rattle.sim_run_session.proofs.team.execute_in_shares.Goals as goal

pub returns-in-Ok-clause-same : goal.returns-in-Ok-clause-same
returns-in-Ok-clause-same g c =
    let whole : c.in_ok-handed_out.handed_out.run ≡ c.args.run =
    ok_holds c.hand_out.result (λ r. r.0.run ≡ c.args.run) (c.in_ok-handed_out.handed_out, c.in_ok-handed_out.shares)
    c.in_ok-handed_out.ensures.value c.hand_out.ensures.run in
    c.in-Ok.ensures.same ∙ ap (λ (r : Run). with_executed r c.in-Ok.run'.store.simulation.deposited) whole
