use Rattle.std.proofs.Common.{Bool, List, ap, ◌∙◌}
use Rattle.sim_flat_expansion.specs.Depth.{chain_at}
use Rattle.sim_flat_expansion.proofs.Chains.{chain_is}
use Rattle.sim_flat_expansion.proofs.depth.is_too_deep.Goals as goal

pub returns : goal.returns
returns c =
    c.chain_at.ensures
    ∙ (ap (λ (xs : List Bool). chain_at xs c.args.top) (c.as_slice.ensures ∙ c.in_ok-table.ensures)
    ∙ chain_is c.args.blocks.now c.requires.known 33 c.args.top c.requires.top)
