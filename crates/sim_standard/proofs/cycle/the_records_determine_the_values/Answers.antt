use Rattle.sim_standard.proofs.Agreement.{ended-values}
use Rattle.sim_standard.proofs.cycle.the_records_determine_the_values.Goals as goal

pub returns : goal.returns
returns c = λ design cycles net s is at lt. ended-values design is cycles net s at lt
