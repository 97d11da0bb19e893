use Rattle.sim_logic.proofs.SourceLaws.{resolved-flat_sources}
use Rattle.sim_logic.proofs.laws.flat_sources_have_the_value_of_their_source_tree.Goals as goal

pub returns : goal.returns
returns c driving tree resolvable = resolved-flat_sources driving tree resolvable
