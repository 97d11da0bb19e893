use Rattle.std.proofs.Common.{sym, subst}
use Rattle.sim_flat_design.specs.Designs.{IsDesign}
use Rattle.sim_flat_expansion.proofs.Made.{block_at}
use Rattle.sim_flat_expansion.proofs.Whole.{is_flat, flat_is_design}
use Rattle.sim_flat_expansion.proofs.walk.expand.Goals as goal

pub block-requires-clause-here : goal.block-requires-clause-here
block-requires-clause-here c = block_at c.args.blocks.now c.args.top c.index-blocks-top.result c.requires.known c.requires.top c.index-blocks-top.is

pub new-requires-3 : goal.new-requires-3
new-requires-3 c =
    let e = is_flat c.args.blocks.now c.args.top c.index-blocks-top.result c.in_ok-path.path c.in_ok-nothing.nothing c.new.result c.new-2.result
    (c.in_ok-nets.nets, c.block.new.around, c.block.new.flat)
    c.requires.known c.requires.top c.index-blocks-top.is c.in_ok-path.ensures c.in_ok-nothing.ensures c.new.ensures c.new-2.ensures c.in_ok-nets.ensures in
    subst IsDesign (sym e) (flat_is_design c.args.blocks.now c.args.top c.requires.known c.requires.top c.requires.bounds)

pub returns : goal.returns
returns c =
    let e = is_flat c.args.blocks.now c.args.top c.index-blocks-top.result c.in_ok-path.path c.in_ok-nothing.nothing c.new.result c.new-2.result
    (c.in_ok-nets.nets, c.block.new.around, c.block.new.flat)
    c.requires.known c.requires.top c.index-blocks-top.is c.in_ok-path.ensures c.in_ok-nothing.ensures c.new.ensures c.new-2.ensures c.in_ok-nets.ensures in
    rw (← e) c.new-3.ensures
