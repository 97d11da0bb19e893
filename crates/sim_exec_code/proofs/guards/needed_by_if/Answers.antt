use Rattle.sim_exec_code.proofs.GuardedBodies.{if_needed}
use Rattle.sim_exec_code.proofs.guards.needed_by_if.Goals as goal

pub returns-in-Some : goal.returns-in-Some
returns-in-Some c =
    if_needed c.needed_guard.result c.args.statements.now c.in-Some.reset c.in-Some._before.now c.in-Some.last.now c.in-Some.ensures.whole
    c.in-Some.ensures.reset c.needed_guard.ensures
