use Rattle.sim_standard.proofs.Midway.{carried_on, next_carried_on}
use Rattle.sim_standard.proofs.cycle.a_cycle_ends_as_its_update_is_carried_on.Goals as goal

pub returns : goal.returns
returns c = record {
  ends = λ design cycles. carried_on design cycles;
  next = λ design cycles. next_carried_on design cycles;
}
