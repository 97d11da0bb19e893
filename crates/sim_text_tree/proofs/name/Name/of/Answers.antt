use Rattle.std.proofs.Common.{rules}
use Rattle.sim_text_tree.proofs.name.Name.of.Goals as goal

pub returns : goal.returns
returns c = search rules
