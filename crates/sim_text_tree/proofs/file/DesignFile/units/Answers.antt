use Rattle.std.proofs.Common.{rules}
use Rattle.sim_text_tree.proofs.file.DesignFile.units.Goals as goal

pub returns : goal.returns
returns c = search rules
