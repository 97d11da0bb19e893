use Rattle.sim_logic.proofs.SourceLaws.{resolved-many}
use Rattle.sim_logic.proofs.laws.several_values_are_resolved_from_left_to_right.Goals as goal

pub returns : goal.returns
returns c values several = resolved-many values several
