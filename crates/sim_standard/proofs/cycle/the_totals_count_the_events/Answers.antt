use Rattle.sim_standard.proofs.Agreement.{total-counts, total-first}
use Rattle.sim_standard.proofs.cycle.the_totals_count_the_events.Goals as goal

pub returns : goal.returns
returns c = record {
  first = λ design net. total-first design net;
  more = λ design cycles net s is at lt. total-counts design is cycles net s at lt;
}
