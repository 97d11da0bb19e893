use Rattle.std.proofs.Common.{drop}
use Rattle.sim_exec_code.proofs.Assembled.{headed}
use Rattle.sim_exec_code.proofs.GuardedBodies.{needs_first, needs_two}
use Rattle.sim_exec_code.proofs.guards.edge_among.Goals as goal

pub returns-in-Some : goal.returns-in-Some
returns-in-Some c = needs_first c.args.operator c.in-Some.edge c.args.first.now c.args.rest.now c.in-And.is c.in-Some.ensures

pub returns-in-None : goal.returns-in-None
returns-in-None c =
    needs_two c.args.operator c.edge_beside.result c.args.first.now c.second-item.result c.args.rest.now (drop 1 c.args.rest.now) c.in-And.is
    (headed c.args.rest.now c.second-item.result c.in-len1-up.len_at_least c.second-item.is) c.edge_beside.ensures
