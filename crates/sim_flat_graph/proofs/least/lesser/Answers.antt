use Rattle.std.proofs.Common.{rules, tests}
use Rattle.sim_flat_graph.proofs.least.lesser.Goals as goal

pub returns-in-Some : goal.returns-in-Some
returns-in-Some c = search (rules, tests)
