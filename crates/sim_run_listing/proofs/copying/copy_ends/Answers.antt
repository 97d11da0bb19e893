use Rattle.std.proofs.Common.{refl, rules}
use Rattle.sim_run_listing.proofs.Copies.{both_ends}
use Rattle.sim_run_listing.proofs.copying.copy_ends.Goals as goal

pub returns : goal.returns
returns g c =
    both_ends g.row.N _ c.args.to.now c.args.from.now _ _ _ _ c.requires.least c.requires.most (search rules) c.put_chunk.ensures
    c.put_chunk-2.ensures refl
