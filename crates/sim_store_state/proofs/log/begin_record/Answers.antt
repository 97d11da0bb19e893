use Rattle.std.proofs.Common.{rules}
use Rattle.sim_store_state.proofs.log.begin_record.Goals as goal

pub returns-clause-times : goal.returns-clause-times
returns-clause-times c = search rules

pub returns-clause-entries : goal.returns-clause-entries
returns-clause-entries c = search rules
