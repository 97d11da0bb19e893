use Rattle.std.proofs.Common.{◌∙◌, eqb}
use Rattle.std.proofs.lemmas.List.Filters.{dedup_is}
use Rattle.sim_flat_blocks.proofs.Rises.{sorted_rises}
use Rattle.sim_flat_blocks.proofs.rising.rising.Goals as goal

pub returns : goal.returns
returns c =
    c.from_vec.ensures
    ∙ sorted_rises c.args.numbers.items c.sort_unstable.new.self.items c.dedup.new.self.items c.sort_unstable.ensures.permutation
    c.sort_unstable.ensures.sorted (dedup_is eqb c.sort_unstable.new.self.items c.dedup.new.self.items c.dedup.ensures.filtered)
