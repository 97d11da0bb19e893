use Rattle.std.proofs.Common.{rules}
use Rattle.sim_store_simulation.proofs.simulation.prepared.Goals as goal

pub returns-clause-contents : goal.returns-clause-contents
returns-clause-contents c = record {
  compiled = search rules;
  marked = search rules;
  held_is = search rules;
  parted = search rules;
  deposited_is = search rules;
  totals_is = search rules;
}
