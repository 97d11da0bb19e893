use Rattle.sim_wave.specs.Rising.{RisesFrom}
use Rattle.sim_wave_tests.proofs.drivers.assigned_each_time.Given as goal

abbrev pub invariant-loop-now : goal.invariant-loop-now
invariant-loop-now l = RisesFrom l.now l.driver.pending
