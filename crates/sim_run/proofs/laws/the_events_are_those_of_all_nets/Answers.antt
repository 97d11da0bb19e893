use Rattle.sim_run.proofs.EventTotals.{totals_of_all}
use Rattle.sim_run.proofs.laws.the_events_are_those_of_all_nets.Goals as goal

pub returns : goal.returns
returns c = λ design cycles are. totals_of_all design are cycles
