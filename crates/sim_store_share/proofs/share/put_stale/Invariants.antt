use Rattle.std.proofs.Common.{ℕ, ◌≡◌, ◌≤◌, ◌-◌, length}
use Rattle.sim_containers.specs.RowArray.{joined}
use Rattle.sim_containers.specs.Times.{time_of}
use Rattle.sim_store_share.specs.Shares.{time_at}
use Rattle.sim_store_nets.proofs.Walks.{Walked}
use Rattle.sim_store_share.proofs.share.put_stale.Given as goal

abbrev pub invariant-loop-number : goal.invariant-loop-number
invariant-loop-number l = record {
  same : l.times.stale ≡ l.initial.times.stale;
  sized : length l.times.queue ≡ length (joined l.drivers);
  within : l.from ≤ length (joined l.drivers);
  walked : Walked l.times.stale l.from (λ (d : ℕ). time_of l.times.queue d ≡ time_at (joined l.drivers) d);
}

abbrev pub decreases-loop-number : goal.decreases-loop-number
decreases-loop-number l = length (joined l.drivers) - l.from
