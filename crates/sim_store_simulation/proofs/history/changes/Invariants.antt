use Rattle.std.proofs.Common.{◌≡◌, take}
use Rattle.sim_store_state.specs.Log.{changes_of}
use Rattle.sim_store_simulation.proofs.history.changes.Given as goal

-- the changes of the entries so far
abbrev pub invariant-loop-entry : goal.invariant-loop-entry
invariant-loop-entry l = l.changes.items ≡ changes_of (take l.entry-index l.entries)
