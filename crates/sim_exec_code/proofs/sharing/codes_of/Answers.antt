use Rattle.std.proofs.Common.{rules}
use Rattle.sim_exec_code.proofs.SharedCodes.{one_made}
use Rattle.sim_exec_code.proofs.sharing.codes_of.Goals as goal

pub loop-number-preserved : goal.loop-number-preserved
loop-number-preserved c =
    let made = one_made c.args.processes.now c.args.numbers.now c.loop-number.codes.items c.loop-number.number-index _ c.in_ok-code.code
    c.loop-number-test.true c.loop-number.invariant c.in_ok-code.ensures in
    search rules
