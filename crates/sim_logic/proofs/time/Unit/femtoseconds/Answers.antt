use Rattle.std.proofs.Common.{rules}
use Rattle.sim_logic.proofs.time.Unit.femtoseconds.Goals as goal

pub returns-in-Min : goal.returns-in-Min
returns-in-Min c = search rules
