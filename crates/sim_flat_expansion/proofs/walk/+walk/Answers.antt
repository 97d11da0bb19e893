use Rattle.std.proofs.Common.{rules, arith}
use Rattle.std.proofs.lemmas.Grind.{common_steps}
use Rattle.sim_flat_expansion.specs.Expanding.{block_expanded}
use Rattle.sim_text_tree.proofs.Turns.{deeper}
use Rattle.sim_flat_expansion.proofs.walk.+walk.Goals as goal
use Rattle.sim_flat_expansion.proofs.Made.{block_at}
use Rattle.sim_flat_expansion.specs.Expanding.{instances_expanded}

pub block-returns : goal.block-returns
unfolding block_expanded
block-returns t c =
    let s = c.args.spot in
    let e = deeper
    (λ n. block_expanded s.blocks.now n s.path.now s.links.now s.outer.now c.args.at.now c.args.around.now c.args.flat.now)
    s.levels (omega arith) in
    first_of (search rules, grind (arith, common_steps))

pub instance-returns : goal.instance-returns
instance-returns t c = grind (arith, common_steps, block_at)

pub instances-loop-each-preserved : goal.instances-loop-each-preserved
unfolding instances_expanded
instances-loop-each-preserved t c = grind (arith, common_steps)

pub instances-returns : goal.instances-returns
unfolding instances_expanded
instances-returns t c = grind (arith, common_steps)

pub occupants-returns : goal.occupants-returns
occupants-returns t c = grind (arith, common_steps)
