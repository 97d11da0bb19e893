use Rattle.sim_exec_code.proofs.GuardedBodies.{assignment_needed}
use Rattle.sim_exec_code.proofs.guards.needed_by_assignment.Goals as goal

pub returns-in-Some : goal.returns-in-Some
returns-in-Some c =
    assignment_needed c.needed_guard.result c.args.statements.now c.in-Some.reset c.in-Some._assignment.now c.in-Some._before.now c.in-Some.last.now
    c.in-Some.ensures.whole.0 c.in-Some.ensures.waveforms c.in-Some.ensures.whole.1 c.in-Some.ensures.reset c.needed_guard.ensures
