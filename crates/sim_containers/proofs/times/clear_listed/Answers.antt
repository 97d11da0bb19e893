use Rattle.std.proofs.Common.{arith}
use Rattle.sim_containers.proofs.Queues.{listed_cleared}
use Rattle.sim_containers.proofs.times.clear_listed.Goals as goal

pub returns : goal.returns
returns c time e = listed_cleared time c.args.times.now.items c.loop-place.times.items c.args.drivers.now e c.loop-place.invariant.len
    (λ k lt. c.loop-place.invariant.gone k (omega (arith, lt, c.loop-place-test.false)))
    (λ d differ. c.loop-place.invariant.others d (λ k lt. differ k (omega (arith, lt, c.loop-place.auto.place-end))))
