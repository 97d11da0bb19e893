use Rattle.sim_store_state.proofs.Contents.{owned-in}
use Rattle.sim_store_state.proofs.flat_state.owned.Goals as goal

pub returns : goal.returns
returns c = owned-in c.args.shares.now _ c.index-shares-share.result c.place_of-share.ensures c.index-shares-share.is c.owned.ensures
