use Rattle.std.proofs.Common.{ℕ, ◌≡◌, ◌<◌, ◌≤◌, ◌⊎◌, false, length}
use Rattle.sim_containers.specs.Numbers.{is_in}
use Rattle.sim_containers.specs.RowArray.{joined}
use Rattle.sim_containers.specs.Times.{time_of}
use Rattle.sim_store_share.specs.Shares.{time_at}
use Rattle.sim_store_share.proofs.share.tell.Given as goal

abbrev pub invariant-loop-number : goal.invariant-loop-number
invariant-loop-number l = record {
  sized : length l.times.queue ≡ length l.initial.times.queue;
  told : (d : ℕ) → (d < l.number) ⊎ (l.end ≤ d) → is_in l.times.stale d ≡ false → time_of l.times.queue d ≡ time_at (joined l.drivers) d;
}
