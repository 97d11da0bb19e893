use Rattle.std.proofs.Common.{rules}
use Rattle.sim_wave.proofs.driver.Driver.try_copy.Goals as goal

pub returns-clause-ok : goal.returns-clause-ok
returns-clause-ok c = search rules
