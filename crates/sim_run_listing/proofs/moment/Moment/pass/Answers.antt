use Rattle.std.proofs.Common.{rules}
use Rattle.sim_run_listing.proofs.moment.Moment.pass.Goals as goal

pub returns-in-Delta : goal.returns-in-Delta
returns-in-Delta c = search rules
