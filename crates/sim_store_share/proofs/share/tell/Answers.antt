use Rattle.std.proofs.Common.{◌∙◌}
use Rattle.sim_containers.specs.RowArray.{joined}
use Rattle.sim_store_share.specs.Shares.{time_at}
use Rattle.sim_store_share.proofs.Telling.{told-more}
use Rattle.sim_store_share.proofs.share.tell.Goals as goal

pub loop-number-preserved : goal.loop-number-preserved
loop-number-preserved c = record {
  sized = c.put.ensures.sized ∙ c.loop-number.invariant.sized;
  told = told-more c.loop-number.times c.put.new.self (time_at (joined c.args.drivers.now)) c.loop-number.number c.args.end c.time_of_driver.result
      c.put.ensures.told c.time_of_driver.ensures c.loop-number.invariant.told;
}
