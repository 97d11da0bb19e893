use Rattle.std.proofs.Common.{◌-◌, arith}
use Rattle.sim_wave.proofs.Rising.{RisesFrom-order}
use Rattle.sim_wave.proofs.edit.count_before.Goals as goal

pub returns-else-pending-place-clause-below : goal.returns-else-pending-place-clause-below
returns-else-pending-place-clause-below c k h =
    let at = RisesFrom-order 0 c.args.pending.now k (c.loop-place.place - 1) c.requires.rises (omega arith) (omega arith) in
    omega arith
