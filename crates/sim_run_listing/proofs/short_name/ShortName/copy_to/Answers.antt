use Rattle.std.proofs.Common.{arith}
use Rattle.sim_run_listing.proofs.ShortNames.{name_in_window}
use Rattle.sim_run_listing.proofs.short_name.ShortName.copy_to.Goals as goal

pub returns : goal.returns
returns c =
    name_in_window c.args.at _ c.args.to.now _ c.self.inside.bytes _ c.args.self.now (omega arith) c.self.told c.self.view_is c.put_chunk.ensures
