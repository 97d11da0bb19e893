use Rattle.std.proofs.Common.{rules, arith}
use Rattle.std.proofs.lemmas.Grind.{common_steps}
use Rattle.sim_text_tree.proofs.Turns.{one_more, no_more}
use Rattle.sim_flat_expansion.specs.Expanding.{object_nets_expanded}
use Rattle.sim_flat_expansion.proofs.object_nets.object_nets.Goals as goal

pub loop-turn-preserved : goal.loop-turn-preserved
unfolding object_nets_expanded
loop-turn-preserved c =
    let e = one_more {law = λ n. object_nets_expanded c.args.outer.now c.args.links.now n c.loop-turn.object_nets c.loop-turn.total}
    (record { is = c.loop-turn.invariant.0 })
    c.loop-turn-test.true in
    first_of (search rules, grind (arith, common_steps))

pub returns : goal.returns
unfolding object_nets_expanded
returns c =
    let e = no_more {law = λ n. object_nets_expanded c.args.outer.now c.args.links.now n c.loop-turn.object_nets c.loop-turn.total}
    (record { is = c.loop-turn.invariant.0 })
    c.loop-turn-test.false in
    first_of (search rules, grind (arith, common_steps))
