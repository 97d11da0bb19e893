use Rattle.std.proofs.Common.{arith}
use Rattle.std.proofs.lemmas.Grind.{common_steps}
use Rattle.std.proofs.Common.{List, All, subst, sym}
use Rattle.std.proofs.lemmas.List.Elements.{All-push}
use Rattle.sim_flat_blocks.specs.declared.parts.Block.{Block}
use Rattle.sim_flat_blocks.specs.Blocks.{IsBlock}
use Rattle.sim_flat_blocks.specs.Plans.{block_of, blocks_of}
use Rattle.sim_flat_blocks.proofs.References.{one_more}
use Rattle.sim_flat_blocks.proofs.plan.each_block.Goals as goal
use Rattle.sim_flat_instances.specs.Libraries.{bodies_at}

pub loop-each-preserved : goal.loop-each-preserved
loop-each-preserved c = (
  one_more (block_of c.args.library.now) c.args.architectures.now c.loop-each.each-index c.each-item.result c.loop-each-test.true c.each-item.is
      c.loop-each.found.items c.push.new.self.items _ c.in_ok-block.field-0 c.in_ok-block.ensures.value c.in_ok-push.ensures.items
      c.loop-each.invariant.0,
  subst (λ (bs : List Block). All (IsBlock (blocks_of c.args.library.now)) bs) (sym c.in_ok-push.ensures.items)
      (All-push (IsBlock (blocks_of c.args.library.now)) c.loop-each.found.items c.in_ok-block.field-0 c.loop-each.invariant.1
      c.in_ok-block.ensures.known),
)

pub returns-clause-value : goal.returns-clause-value
unfolding bodies_at
returns-clause-value c = grind (arith, common_steps)
