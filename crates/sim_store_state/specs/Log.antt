-- Records, held as a flat list of entries and the times at which they begin.
-- `simulate` does not rest on this file; what a store shows under a lock does.
use Rattle.std.specs.Prelude.{ℕ, suc, ◌+◌, ◌-◌, ◌<◌, ◌≡◌, ◌≢◌, ◌≤◌, List, [], ◌∷◌, ◌++◌, Bool, true, false, length, map, drop, slice_index_or}
use Rattle.sim_logic.specs.declared.logic.Logic.{Logic}
use Rattle.sim_standard.specs.declared.record.Record.{Record}
use Rattle.sim_standard.specs.Records.{all_changes}
use Rattle.sim_store_state.specs.declared.log.Entry.{Entry}
use Rattle.sim_store_state.specs.declared.log.Past.{Past}
use Rattle.sim_store_state.specs.declared.log.Entry.TheVariants as entry

-- a log: its records, those before them that were given away, the time and the delta number of the last of all these, and room for how many more times and
-- entries it has
pub record Logged : Type 0 where
  pub records : List Record
  pub past : Past
  pub last : ℕ × ℕ
  pub times_room : ℕ
  pub entries_room : ℕ

-- There is room for one more record of at most this number of changes.
pub record HasRoom (log : Logged) (changes : ℕ) : Type 0 where
  pub time : 0 < log.times_room
  pub entries : changes < log.entries_room

-- ---- how entries are read

-- the changes of these entries
abbrev pub changes_of : List Entry → List (ℕ × Logic)
changes_of [] = []
changes_of (entry.Change value net ∷ entries) = (net, value) ∷ changes_of entries
changes_of (entry.Delta value net ∷ entries) = (net, value) ∷ changes_of entries
changes_of (entry.Time value net ∷ entries) = (net, value) ∷ changes_of entries
changes_of (entry.QuietDelta ∷ entries) = changes_of entries
changes_of (entry.QuietTime ∷ entries) = changes_of entries

-- the changes of these entries before another record begins
abbrev pub changes_before : List Entry → List (ℕ × Logic)
changes_before [] = []
changes_before (entry.Change value net ∷ entries) = (net, value) ∷ changes_before entries
changes_before (entry.Delta value net ∷ entries) = []
changes_before (entry.Time value net ∷ entries) = []
changes_before (entry.QuietDelta ∷ entries) = []
changes_before (entry.QuietTime ∷ entries) = []

-- the record that begins here with these changes, and those of the entries after it
abbrev pub begun : ℕ → ℕ → List (ℕ × Logic) → Record
begun time delta changes = record { time = time; delta = delta; changes = changes }

-- the time with a number; beyond the last, 0
abbrev pub time_with : List ℕ → ℕ → ℕ
time_with times n = slice_index_or times n 0

-- the records that begin in these entries, after one at this time and delta number, and after this number of times
abbrev pub records_after : List ℕ → ℕ → ℕ → ℕ → List Entry → List Record
records_after times n time delta [] = []
records_after times n time delta (entry.Change value net ∷ entries) = records_after times n time delta entries
records_after times n time delta (entry.Delta value net ∷ entries) =
    begun time (suc delta) ((net, value) ∷ changes_before entries) ∷ records_after times n time (suc delta) entries
records_after times n time delta (entry.Time value net ∷ entries) =
    begun (time_with times n) 0 ((net, value) ∷ changes_before entries) ∷ records_after times (suc n) (time_with times n) 0 entries
records_after times n time delta (entry.QuietDelta ∷ entries) =
    begun time (suc delta) (changes_before entries) ∷ records_after times n time (suc delta) entries
records_after times n time delta (entry.QuietTime ∷ entries) =
    begun (time_with times n) 0 (changes_before entries) ∷ records_after times (suc n) (time_with times n) 0 entries

-- the records in these lists, after those that were given away
abbrev pub records_in : Past → List ℕ → List Entry → List Record
records_in past times entries = records_after times 0 past.time past.delta entries

-- how many of these entries begin a record at a new time
abbrev pub count_times : List Entry → ℕ
count_times [] = 0
count_times (entry.Change value net ∷ entries) = count_times entries
count_times (entry.Delta value net ∷ entries) = count_times entries
count_times (entry.Time value net ∷ entries) = suc (count_times entries)
count_times (entry.QuietDelta ∷ entries) = count_times entries
count_times (entry.QuietTime ∷ entries) = suc (count_times entries)

-- the time of the last record that begins in these entries, after one at this time, and after this number of times
abbrev pub time_after : List ℕ → ℕ → ℕ → List Entry → ℕ
time_after times n time [] = time
time_after times n time (entry.Change value net ∷ entries) = time_after times n time entries
time_after times n time (entry.Delta value net ∷ entries) = time_after times n time entries
time_after times n time (entry.Time value net ∷ entries) = time_after times (suc n) (time_with times n) entries
time_after times n time (entry.QuietDelta ∷ entries) = time_after times n time entries
time_after times n time (entry.QuietTime ∷ entries) = time_after times (suc n) (time_with times n) entries

-- its delta number, after a record with this one
abbrev pub delta_after : ℕ → List Entry → ℕ
delta_after delta [] = delta
delta_after delta (entry.Change value net ∷ entries) = delta_after delta entries
delta_after delta (entry.Delta value net ∷ entries) = delta_after (suc delta) entries
delta_after delta (entry.Time value net ∷ entries) = delta_after 0 entries
delta_after delta (entry.QuietDelta ∷ entries) = delta_after (suc delta) entries
delta_after delta (entry.QuietTime ∷ entries) = delta_after 0 entries

-- the time and the delta number of the last record in these lists, after those that were given away
abbrev pub last_in : Past → List ℕ → List Entry → ℕ × ℕ
last_in past times entries = (time_after times 0 past.time entries, delta_after past.delta entries)

-- ---- how a record is written

-- one more change
abbrev pub changed : ℕ × Logic → Entry
changed change = entry.Change change.1 change.0

-- the first change of a record, at a new time or not
abbrev pub first : Bool → ℕ × Logic → Entry
first true change = entry.Time change.1 change.0
first false change = entry.Delta change.1 change.0

-- a record without changes
abbrev pub quiet : Bool → Entry
quiet true = entry.QuietTime
quiet false = entry.QuietDelta

-- the entries of a record
abbrev pub recorded : Bool → List (ℕ × Logic) → List Entry
recorded is_time [] = quiet is_time ∷ []
recorded is_time (change ∷ changes) = first is_time change ∷ map changed changes

-- ---- records

-- the record with a number; beyond the last, one without changes
abbrev pub record_at : List Record → ℕ → Record
record_at records n = slice_index_or records n (record { time = 0; delta = 0; changes = [] })

-- the last record
abbrev pub last_record : List Record → Record
last_record records = record_at records (length records - 1)

-- A record at this time and delta number may come after one at these: with delta number 0 at any time, with another one after that of the delta cycle before.
pub record IsNext (last : ℕ × ℕ) (time delta : ℕ) : Type 0 where
  pub time_is : delta ≢ 0 → time ≡ last.0
  pub delta_is : delta ≢ 0 → delta ≡ suc last.1

-- no records were given away; a run starts at time 0
abbrev pub no_past : Past
no_past = record { records = 0; changes = 0; time = 0; delta = 0 }

-- what is known of these records, and those before them, once they were given away, of which the last has this time and delta number
abbrev pub past_after : Past → List Record → ℕ × ℕ → Past
past_after past records last = record {
  records = past.records + length records;
  changes = past.changes + length (all_changes records);
  time = last.0;
  delta = last.1;
}

-- A log has the same records, whatever room.
pub record IsSameLog (old new : Logged) : Type 0 where
  pub records : new.records ≡ old.records
  pub past : new.past ≡ old.past
  pub last : new.last ≡ old.last

-- One more record is at the end of a log.
pub record IsRecorded (old new : Logged) (one : Record) : Type 0 where
  pub records : new.records ≡ old.records ++ one ∷ []
  pub last : new.last ≡ (one.time, one.delta)
  pub past : new.past ≡ old.past

-- These lists, and numbers of records and changes, are those of a log whose last record has its entries from this place on.
pub record IsLog (past : Past) (times : List ℕ) (entries : List Entry) (records changes last : ℕ) : Type 0 where
  pub counted : count_times entries ≡ length times
  pub begins : changes_before entries ≡ []
  pub records_are : records ≡ length (records_in past times entries)
  pub changes_are : changes ≡ length (all_changes (records_in past times entries))
  pub few_records : records ≤ length entries
  pub few_changes : changes ≤ length entries
  pub within : last ≤ length entries
  pub last_are : changes_of (drop last entries) ≡ (last_record (records_in past times entries)).changes
