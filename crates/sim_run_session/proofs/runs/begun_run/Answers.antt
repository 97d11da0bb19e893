use Rattle.std.proofs.Common.{rules}
use Rattle.sim_run_session.proofs.runs.begun_run.Goals as goal

pub returns-in-Ok-clause-ok : goal.returns-in-Ok-clause-ok
returns-in-Ok-clause-ok c = search rules
