use Rattle.std.proofs.Common.{rules}
use Rattle.sim_flat_bodies.proofs.WaveformTimes.{assignments_fit}
use Rattle.sim_flat_bodies.proofs.statements.concurrent.Goals as goal

pub returns-then-not-concurrent_timed-clause-fits : goal.returns-then-not-concurrent_timed-clause-fits
returns-then-not-concurrent_timed-clause-fits c = search (rules, assignments_fit)

pub returns-in_default-clause-fits : goal.returns-in_default-clause-fits
returns-in_default-clause-fits c = search (rules, assignments_fit)

pub conditionals-requires-clause-timed : goal.conditionals-requires-clause-timed
conditionals-requires-clause-timed c = search (rules, assignments_fit)

pub last-requires-clause-timed : goal.last-requires-clause-timed
last-requires-clause-timed c = search (rules, assignments_fit)

pub returns-clause-fits : goal.returns-clause-fits
returns-clause-fits c = search (rules, assignments_fit)
