-- A run that goes on: a store of which the first records may have been given away.
-- `simulate` does not rest on this file; what a store shows under a lock does.
use Rattle.std.specs.Prelude.{ℕ, List, Bool, drop}
use Rattle.sim_standard.specs.declared.record.Record.{Record}
use Rattle.sim_standard.specs.Records.{records_to}
use Rattle.sim_store.specs.WaveStore.{WaveStore, with_deposited}

-- a store, and how many of its first records were given away
pub record Run : Type 0 where
  pub store : WaveStore
  pub given : ℕ

-- a store of which all records are there
abbrev pub whole : WaveStore → Run
whole w = record { store = w; given = 0 }

-- all records so far
abbrev pub records_of : Run → List Record
records_of r = records_to r.store.simulation.design r.store.simulation.cycles

-- those that were not given away
abbrev pub rest_of : Run → List Record
rest_of r = drop r.given (records_of r)

-- a run with these processes executed in this phase
abbrev pub with_executed : Run → List Bool → Run
with_executed r marks = record { store = with_deposited r.store marks; given = r.given }
