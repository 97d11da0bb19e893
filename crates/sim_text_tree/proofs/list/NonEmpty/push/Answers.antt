use Rattle.std.proofs.Common.{rules}
use Rattle.sim_text_tree.proofs.list.NonEmpty.push.Goals as goal

pub returns-clause-ok : goal.returns-clause-ok
returns-clause-ok c = search rules
