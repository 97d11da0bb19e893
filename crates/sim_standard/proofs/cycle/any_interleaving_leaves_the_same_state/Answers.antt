use Rattle.sim_standard.proofs.Interleavings.{interleaved-together, together-interleaved}
use Rattle.sim_standard.proofs.cycle.any_interleaving_leaves_the_same_state.Goals as goal

pub returns : goal.returns
returns c = λ ps f s t is len. (interleaved-together ps f s t is len, together-interleaved ps f s t is len)
