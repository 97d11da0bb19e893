use Rattle.sim_store_state.proofs.Starting.{range_is}
use Rattle.sim_store_state.proofs.start.drivers_of.Goals as goal

pub returns : goal.returns
returns c =
    rw (c.first_driver-first.ensures, c.drivers.ensures, c.body.ensures) (range_is c.args.drivers.now c.args.process.now.first_driver
    c.args.process.now.body.drivers)
