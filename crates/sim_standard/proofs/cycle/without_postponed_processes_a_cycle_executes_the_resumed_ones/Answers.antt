use Rattle.sim_standard.proofs.WithoutPostponed.{without_postponed}
use Rattle.sim_standard.proofs.cycle.without_postponed_processes_a_cycle_executes_the_resumed_ones.Goals as goal

pub returns : goal.returns
returns c = λ design cycles s is none len nobody. without_postponed design is none cycles s len nobody
