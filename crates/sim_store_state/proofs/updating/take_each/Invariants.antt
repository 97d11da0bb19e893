use Rattle.std.proofs.Common.{◌≡◌, ◌++◌, length, map, take, drop}
use Rattle.sim_containers.specs.RowArray.{joined}
use Rattle.sim_standard.specs.State.{all_drivers}
use Rattle.sim_store_share.specs.Shares.{all_taken}
use Rattle.sim_store_state.proofs.Noted.{IsNotedTo}
use Rattle.sim_store_state.proofs.updating.take_each.Given as goal

abbrev pub invariant-loop-place : goal.invariant-loop-place
invariant-loop-place l = record {
  shares : l.shares ≡ map (all_taken l.time) (take l.place l.initial.shares) ++ drop l.place l.initial.shares;
  first : l.first ≡ length (all_drivers (joined (take l.place l.initial.shares)));
  noted : IsNotedTo (all_drivers (joined (map (all_taken l.time) (take l.place l.initial.shares)))) l.initial.lists l.lists;
}
