use Rattle.std.proofs.Common.{◌≡◌, take}
use Rattle.sim_containers.specs.RowArray.{joined}
use Rattle.sim_standard.specs.Drivers.{next_time}
use Rattle.sim_standard.specs.State.{all_drivers}
use Rattle.sim_store_state.proofs.updating.next_of_several.Given as goal

abbrev pub invariant-loop-place : goal.invariant-loop-place
invariant-loop-place l = record {
  same : l.shares ≡ l.initial.shares;
  value : l.next ≡ next_time (all_drivers (joined (take l.place l.initial.shares)));
}
