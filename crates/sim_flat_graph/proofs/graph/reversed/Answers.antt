use Rattle.std.proofs.Common.{arith}
use Rattle.std.proofs.lemmas.Grind.{common_steps}
use Rattle.sim_flat_graph.specs.Graph.{leading}
use Rattle.sim_flat_graph.proofs.Reversed.{back_whole, rows_at_end}
use Rattle.sim_flat_graph.proofs.graph.reversed.Goals as goal

pub returns-clause-whole : goal.returns-clause-whole
returns-clause-whole c =
    back_whole c.args.graph.now c.loop-from.rows.items c.loop-from.invariant.0
    (rows_at_end c.args.graph.now c.loop-from.rows.items c.loop-from.from c.loop-from-test.false c.loop-from.invariant.1)

pub loop-from-preserved : goal.loop-from-preserved
unfolding leading
loop-from-preserved c = grind (arith, common_steps)

pub returns-clause-rows : goal.returns-clause-rows
unfolding leading
returns-clause-rows c = grind (arith, common_steps)
