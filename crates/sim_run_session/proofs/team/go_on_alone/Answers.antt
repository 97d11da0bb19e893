use Rattle.std.proofs.Common.{arith}
use Rattle.sim_store.specs.WaveStore.{IsAdvanced}
use Rattle.sim_run_session.proofs.LinesMeanwhile.{phase_on}
use Rattle.sim_run_session.proofs.OkGives.{ok_holds}
use Rattle.sim_run_session.proofs.team.go_on_alone.Goals as goal

pub returns : goal.returns
returns c =
    let run = c.in_ok-run.run' in
    let advanced = ok_holds c.advance.result (IsAdvanced run.store c.advance.new.self.store) c.in_ok-ok.field-0 c.in_ok-ok.ensures.value
    c.advance.ensures.ok in
    phase_on c.args.run run c.advance.new.self run.store.simulation.deposited c.in_ok-ok.field-0 c.in_ok-run.ensures.same advanced.2 c.advance.ensures.given
    (omega (arith, c.is_within_bounds.ensures.recorded, c.is_within_bounds.ensures.given))
