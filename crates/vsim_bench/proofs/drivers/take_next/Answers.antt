use Rattle.std.proofs.Common.{◌≡◌, suc, Some, sym, arith}
use Rattle.sim_wave.specs.Rising.{next_of}
use Rattle.sim_wave.proofs.Rising.{RisesFrom-earlier}
use Rattle.vsim_bench.proofs.drivers.take_next.Goals as goal

pub returns-clause-later : goal.returns-clause-later
returns-clause-later c =
    let due : next_of c.args.driver.now.pending ≡ Some c.in_ok-now.now = sym c.in_ok-now.ensures in
    RisesFrom-earlier c.in_ok-now.now (suc c.in_ok-now.now) c.take.new.self.pending (omega arith) (c.take.ensures.later (c.take.ensures.due.1 due))
