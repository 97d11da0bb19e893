use Rattle.std.proofs.Common.{◌≡◌, ◌+◌, drop}
use Rattle.sim_store_simulation.specs.History.{count_leading}
use Rattle.sim_store_simulation.proofs.history.next_record.Given as goal

-- no record begins in the entries so far
abbrev pub invariant-loop-place : goal.invariant-loop-place
invariant-loop-place l = l.place + count_leading (drop l.place l.entries) ≡ l.from + count_leading (drop l.from l.entries)
