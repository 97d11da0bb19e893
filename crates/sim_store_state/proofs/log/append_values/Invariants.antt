use Rattle.std.proofs.Common.{◌≡◌, ◌≤◌, ◌+◌, ◌-◌, ◌++◌, length, map, drop, vec_len, vec_capacity}
use Rattle.std.specs.List.{enumerate_from}
use Rattle.sim_store_state.specs.Log.{changed}
use Rattle.sim_store_state.proofs.log.append_values.Given as goal

abbrev pub invariant-loop-number : goal.invariant-loop-number
invariant-loop-number l = record {
  room : vec_len l.entries + (length l.values - l.number) ≤ vec_capacity l.entries;
  capacity : vec_capacity l.entries ≡ vec_capacity l.initial.entries;
  done : l.entries.items ++ map changed (enumerate_from l.number (drop l.number l.values)) ≡ l.initial.entries.items ++ map changed (enumerate_from 0 l.values);
}
