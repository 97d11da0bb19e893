use Rattle.sim_standard.proofs.Parallel.{parallel_standard}
use Rattle.sim_standard.proofs.cycle.parallel_cycles_reach_the_states_of_the_standard.Goals as goal

pub returns : goal.returns
returns c = λ design cycles is. parallel_standard design is cycles
