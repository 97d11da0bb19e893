use Rattle.std.proofs.Common.{◌≡◌, take, length}
use Rattle.sim_logic.specs.declared.logic.Logic.{Logic}
use Rattle.sim_store_nets.specs.Tallies.{count_at, times}
use Rattle.sim_store_nets.proofs.tally.count_each.Given as goal

abbrev pub invariant-loop-value : goal.invariant-loop-value
invariant-loop-value l = record {
  sized : length l.counts ≡ 9;
  counted : (v : Logic) → count_at l.counts v ≡ times v (take l.value-index l.values);
}
