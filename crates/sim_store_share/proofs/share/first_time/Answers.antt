use Rattle.std.proofs.Common.{◌∙◌}
use Rattle.sim_store_share.proofs.Times.{first_is}
use Rattle.sim_store_share.proofs.share.first_time.Goals as goal

pub returns : goal.returns
returns c = c.next.ensures ∙ first_is c.args.driver.now c.pending-pending.result.now c.pending-pending.ensures.value c.pending-pending.ensures.rises
