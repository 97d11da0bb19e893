use Rattle.std.proofs.Common.{◌∙◌, ap, sym, length, List}
use Rattle.sim_text_tree.specs.declared.unit.Architecture.{Architecture}
use Rattle.sim_flat_blocks.specs.Plans.{block_number}
use Rattle.sim_flat_blocks.proofs.References.{architectures_count}
use Rattle.sim_flat_blocks.proofs.instances.block_number.Goals as goal

pub returns-in-None : goal.returns-in-None
unfolding block_number
returns-in-None c =
    architectures_count c.architectures.result.now
    ∙ (ap (λ (xs : List Architecture). length xs) c.architectures.ensures ∙ sym (ap (block_number c.args.library.now) c.in-None.is))
