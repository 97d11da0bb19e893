use Rattle.std.proofs.Common.{rules}
use Rattle.sim_run_listing.proofs.Copies.{a_line}
use Rattle.sim_run_listing.proofs.block.Block.gather_line.Goals as goal

pub returns : goal.returns
returns c =
    a_line _ _ _ _ _ _ _ _ _ _ _ _ _ _ c.self.view_is c.len.ensures.value c.copy_to.ensures c.copy_to-2.ensures c.copy_to-3.ensures
    (search rules) c.to_byte.ensures
