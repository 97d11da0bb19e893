-- How the entries of a log are read, one after another.
-- Implementation only: the listing is defined without this file.
use Rattle.std.specs.Prelude.{ℕ, suc, List, []}
use Rattle.sim_store_state.specs.declared.log.Entry.{Entry}
use Rattle.sim_store_state.specs.declared.log.Entry.TheVariants as entry
use Rattle.sim_store_state.specs.Log.{begun, time_with}
use Rattle.sim_run_listing.specs.declared.moment.Moment.{Moment}
use Rattle.sim_run_listing.specs.Listing.{head_of}

-- the start of each line of the record at this moment
abbrev pub start_of : Moment → List ℕ
start_of at = head_of (begun at.time at.delta [])

-- the moment of a delta cycle after this one
abbrev pub in_next_delta : Moment → Moment
in_next_delta at = record { time = at.time; delta = suc at.delta; passed = at.passed }

-- the moment of a record at the next of these times
abbrev pub at_next_time : List ℕ → Moment → Moment
at_next_time times at = record { time = time_with times at.passed; delta = 0; passed = suc at.passed }

-- the moment of the record to which an entry belongs, after one of a record at this moment
abbrev pub moment_after : List ℕ → Moment → Entry → Moment
moment_after times at (entry.Change value net) = at
moment_after times at (entry.Delta value net) = in_next_delta at
moment_after times at (entry.Time value net) = at_next_time times at
moment_after times at entry.QuietDelta = in_next_delta at
moment_after times at entry.QuietTime = at_next_time times at
