-- How the entries of a log are read, from a place between two of them on.
-- Implementation only: what `simulate` promises does not rest on this file.
use Rattle.std.specs.Prelude.{ℕ, zero, suc, List, [], ◌∷◌}
use Rattle.sim_standard.specs.declared.record.Record.{Record}
use Rattle.sim_store_state.specs.declared.log.Entry.{Entry}
use Rattle.sim_store_state.specs.declared.log.Entry.TheVariants as entry
use Rattle.sim_store_state.specs.Log.{records_after, time_with}
use Rattle.sim_store_simulation.specs.declared.history.Place.{Place}

-- how many of these entries begin a record
abbrev pub count_records : List Entry → ℕ
count_records [] = 0
count_records (entry.Change value net ∷ entries) = count_records entries
count_records (entry.Delta value net ∷ entries) = suc (count_records entries)
count_records (entry.Time value net ∷ entries) = suc (count_records entries)
count_records (entry.QuietDelta ∷ entries) = suc (count_records entries)
count_records (entry.QuietTime ∷ entries) = suc (count_records entries)

-- how many entries there are before a record begins
abbrev pub count_leading : List Entry → ℕ
count_leading [] = 0
count_leading (entry.Change value net ∷ entries) = suc (count_leading entries)
count_leading (entry.Delta value net ∷ entries) = 0
count_leading (entry.Time value net ∷ entries) = 0
count_leading (entry.QuietDelta ∷ entries) = 0
count_leading (entry.QuietTime ∷ entries) = 0

-- the place after one more entry
abbrev pub passed : List ℕ → Place → Entry → Place
passed times p (entry.Change value net) = p
passed times p (entry.Delta value net) = record { times = p.times; time = p.time; delta = suc p.delta }
passed times p (entry.Time value net) = record { times = suc p.times; time = time_with times p.times; delta = 0 }
passed times p entry.QuietDelta = record { times = p.times; time = p.time; delta = suc p.delta }
passed times p entry.QuietTime = record { times = suc p.times; time = time_with times p.times; delta = 0 }

-- the last of this number of times; at the start of the simulation, 0
abbrev pub last_time : List ℕ → ℕ → ℕ
last_time times zero = 0
last_time times (suc n) = time_with times n

-- the records that begin in these entries, after this place
abbrev pub records_beyond : List ℕ → Place → List Entry → List Record
records_beyond times p entries = records_after times p.times p.time p.delta entries
