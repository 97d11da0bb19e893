use Rattle.sim_standard.specs.State.{all_drivers}
use Rattle.sim_containers.specs.RowArray.{joined}
use Rattle.sim_store_share.proofs.Taken.{none-before}
use Rattle.sim_store_state.proofs.updating.take_active.Goals as goal

pub take_several-requires-clause-none : goal.take_several-requires-clause-none
take_several-requires-clause-none c = none-before (all_drivers (joined c.args.shares.now)) c.args.time c.requires.next
