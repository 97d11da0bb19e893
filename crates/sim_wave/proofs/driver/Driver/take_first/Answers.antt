use Rattle.sim_wave.specs.Pending.{transactions_of}
use Rattle.sim_wave.proofs.Storing.{rises-drop_one}
use Rattle.sim_wave.proofs.driver.Driver.take_first.Goals as goal

pub invariant_of-self : goal.invariant_of-self
invariant_of-self c = rw c.remove_first.ensures (rises-drop_one (transactions_of c.self.inside.pending) c.self.invariant)
