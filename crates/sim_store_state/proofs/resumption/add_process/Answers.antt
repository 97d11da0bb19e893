use Rattle.std.proofs.Common.{◌==◌, [], get_or, refl, arith}
use Rattle.std.proofs.lemmas.Grind.{common_steps}
use Rattle.sim_standard.specs.Orders.{is_among}
use Rattle.sim_store_state.proofs.Sensitivity.{sensitivity-more}
use Rattle.sim_store_state.proofs.resumption.add_process.Goals as goal

pub loop-net-preserved : goal.loop-net-preserved
loop-net-preserved c n p lt =
    sensitivity-more c.args.sensitivity.now c.loop-net.net-index n _ (c.args.number == p) (is_among (get_or c.args.sensitive.now n []) p) _ _
    c.loop-net-test.true refl
    (c.loop-net.invariant n p (omega arith)) (c.in_ok-add.ensures n p (omega arith))

pub returns : goal.returns
returns c = grind (arith, common_steps)
