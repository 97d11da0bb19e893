use Rattle.std.proofs.Common.{rules, tests}
use Rattle.sim_flat.proofs.hierarchy.check.Goals as goal

pub returns-then-not-branch : goal.returns-then-not-branch
returns-then-not-branch c = search (rules, tests)
