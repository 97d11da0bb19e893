use Rattle.std.proofs.Common.{arith, true, length}
use Rattle.sim_containers.proofs.Sets.{all_same}
use Rattle.sim_containers.proofs.numbers.insert_all.Goals as goal

pub returns : goal.returns
returns c = all_same c.loop-number.set (length c.args.set.now) true c.loop-number.invariant.len (λ k l. c.loop-number.invariant.all k (omega
    (arith, l, c.loop-number-test.false, c.len-number-end.ensures)))
