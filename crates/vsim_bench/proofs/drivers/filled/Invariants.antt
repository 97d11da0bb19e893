use Rattle.sim_wave.specs.Rising.{RisesFrom}
use Rattle.vsim_bench.proofs.drivers.filled.Given as goal

abbrev pub invariant-loop-place : goal.invariant-loop-place
invariant-loop-place l = RisesFrom 0 l.driver.pending
