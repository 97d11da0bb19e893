use Rattle.std.proofs.Common.{[], get_or, arith}
use Rattle.std.proofs.lemmas.Grind.{common_steps}
use Rattle.sim_standard.specs.Orders.{is_among}
use Rattle.sim_store_nets.proofs.Reaching.{rows-more}
use Rattle.sim_store_nets.proofs.wiring.add_nets.Goals as goal

pub loop-net-preserved : goal.loop-net-preserved
loop-net-preserved c n d lt =
    rows-more c.args.sources.now c.loop-net.net n d c.row.result.now (is_among (get_or c.args.fan_out.now d []) n) _ _
    (omega (arith, c.loop-net-test.true, c.len-net-end.ensures)) c.row.ensures
    (c.loop-net.invariant n d (omega arith)) (c.in_ok-add_sources.ensures n d (omega arith))

pub returns : goal.returns
returns c = grind (arith, common_steps)
