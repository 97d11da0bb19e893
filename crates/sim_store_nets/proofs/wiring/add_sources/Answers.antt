use Rattle.std.proofs.Common.{◌==◌, [], get_or, refl, arith}
use Rattle.std.proofs.lemmas.Grind.{common_steps}
use Rattle.sim_standard.specs.Orders.{is_among}
use Rattle.sim_store_nets.proofs.Reaching.{sources-more}
use Rattle.sim_store_nets.proofs.wiring.add_sources.Goals as goal

pub loop-source-preserved : goal.loop-source-preserved
loop-source-preserved c n d lt =
    sources-more c.args.sources.now c.loop-source.source-index d _ _ (c.args.net == n) (is_among (get_or c.args.fan_out.now d []) n) _ _
    c.loop-source-test.true refl
    (c.loop-source.invariant n d (omega arith)) (c.in_ok-add_source.ensures n d (omega arith))

pub returns : goal.returns
returns c = grind (arith, common_steps)
