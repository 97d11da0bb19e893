use Rattle.std.proofs.Common.{rules}
use Rattle.sim_run_session.proofs.runs.finished_run.Goals as goal

pub returns-in_default-clause-refused : goal.returns-in_default-clause-refused
returns-in_default-clause-refused c = search rules
