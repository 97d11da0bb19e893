use Rattle.std.proofs.Common.{arith}
use Rattle.std.proofs.lemmas.Grind.{common_steps}
use Rattle.sim_containers.proofs.Queues.{all_cleared}
use Rattle.sim_containers.proofs.times.clear_unlisted.Goals as goal

pub returns : goal.returns
returns c time =
    all_cleared time c.args.times.now.items c.loop-driver.times.items c.args.taken.now c.loop-driver.from c.loop-driver.invariant.len
    c.loop-driver.invariant.taken c.loop-driver.invariant.others c.loop-driver.invariant.rest c.in_default.ensures

pub loop-driver-preserved : goal.loop-driver-preserved
loop-driver-preserved c = grind (arith, common_steps)

pub index_mut-requires : goal.index_mut-requires
index_mut-requires c = grind (arith, common_steps)

pub overflow_add-from : goal.overflow_add-from
overflow_add-from c = grind (arith, common_steps)

pub loop-driver-smaller : goal.loop-driver-smaller
loop-driver-smaller c = grind (arith, common_steps)
