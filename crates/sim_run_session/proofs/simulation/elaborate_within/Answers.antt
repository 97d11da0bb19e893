use Rattle.std.proofs.Common.{rules}
use Rattle.sim_run_session.proofs.simulation.elaborate_within.Goals as goal

pub returns-in_err-file-clause-only : goal.returns-in_err-file-clause-only
returns-in_err-file-clause-only c = search rules

pub returns-in_err-file-clause-value : goal.returns-in_err-file-clause-value
returns-in_err-file-clause-value c = search rules

pub returns-in_err-design-clause-value : goal.returns-in_err-design-clause-value
returns-in_err-design-clause-value c = search rules

pub returns-clause-value : goal.returns-clause-value
returns-clause-value c = search rules
