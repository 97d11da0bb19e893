use Rattle.sim_standard.proofs.Together.{in_any_order}
use Rattle.sim_standard.proofs.cycle.any_order_leaves_the_same_state.Goals as goal

pub returns : goal.returns
returns c = in_any_order
