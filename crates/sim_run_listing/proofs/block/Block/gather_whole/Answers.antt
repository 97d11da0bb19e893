use Rattle.std.proofs.Common.{rules}
use Rattle.sim_run_listing.proofs.ShortNames.{whole_line}
use Rattle.sim_run_listing.proofs.block.Block.gather_whole.Goals as goal

pub returns : goal.returns
returns c =
    whole_line _ _ c.args.len _ c.args.value _ _ _ _ c.args.head.now.text c.args.name.now c.requires.len c.self.view_is c.len.ensures.value
    c.copy_to.ensures c.copy_to-2.ensures (search rules) c.to_byte.ensures
