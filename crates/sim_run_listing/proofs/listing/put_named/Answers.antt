use Rattle.std.proofs.Common.{rules}
use Rattle.sim_run_listing.proofs.Gathering.{gathers_held}
use Rattle.sim_run_listing.proofs.listing.put_named.Goals as goal

pub returns-clause-ok : goal.returns-clause-ok
returns-clause-ok g c = gathers_held _ _ _ _ (search rules)
