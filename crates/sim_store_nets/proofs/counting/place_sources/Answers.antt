use Rattle.std.proofs.Common.{◌==◌, [], get_or, arith}
use Rattle.std.proofs.lemmas.List.{get_or_default}
use Rattle.std.proofs.lemmas.Grind.{common_steps}
use Rattle.sim_logic.specs.declared.logic.Logic.TheVariants.{U}
use Rattle.sim_flat_design.specs.declared.design.Source.TheVariants as source
use Rattle.sim_store_nets.specs.Tallies.{is_placed}
use Rattle.sim_store_nets.proofs.Counted.{source-more}
use Rattle.sim_store_nets.proofs.counting.place_sources.Goals as goal

pub loop-place-preserved : goal.loop-place-preserved
loop-place-preserved c n p d lt =
    source-more c.args.row.now c.loop-place.place p d _ (c.args.net == n) (is_placed (get_or c.args.places.now d []) n p) _ _
    (omega (arith, c.loop-place-test.true)) (get_or_default c.args.row.now c.loop-place.place _ (source.Constant U) c.loop-place-test.true)
    (c.loop-place.invariant n p d (omega arith)) (c.in_ok-place_source.ensures n p d (omega arith))

pub returns : goal.returns
returns c = grind (arith, common_steps)
