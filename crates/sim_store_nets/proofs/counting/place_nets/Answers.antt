use Rattle.std.proofs.Common.{[], get_or, arith}
use Rattle.std.proofs.lemmas.Grind.{common_steps}
use Rattle.sim_store_nets.specs.Tallies.{is_placed}
use Rattle.sim_store_nets.proofs.Counted.{net-more}
use Rattle.sim_store_nets.proofs.counting.place_nets.Goals as goal

pub loop-net-preserved : goal.loop-net-preserved
loop-net-preserved c n p d lt =
    net-more c.args.sources.now c.loop-net.net n p d c.row.result.now (is_placed (get_or c.args.places.now d []) n p) _ _
    (omega (arith, c.loop-net-test.true, c.len-net-end.ensures)) c.row.ensures
    (c.loop-net.invariant n p d (omega arith)) (c.in_ok-place_many.ensures n p d (omega arith))

pub returns : goal.returns
returns c = grind (arith, common_steps)
