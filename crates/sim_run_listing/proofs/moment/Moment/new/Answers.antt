use Rattle.std.proofs.Common.{rules}
use Rattle.sim_run_listing.proofs.moment.Moment.new.Goals as goal

pub returns-clause-value : goal.returns-clause-value
returns-clause-value c = search rules
