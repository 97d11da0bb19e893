-- The listing of a run.
use Rattle.std.specs.Prelude.{ℕ, ◌-◌, ◌<◌, List, [], ◌∷◌, ◌++◌, length, decimal, codes, slice_index_or, flat_map}
use Rattle.std.specs.List.{All}
use Rattle.sim_logic.specs.declared.logic.Logic.{Logic}
use Rattle.sim_logic.specs.Logic.{byte_of}
use Rattle.sim_standard.specs.declared.record.Record.{Record}
use Rattle.sim_standard.specs.Records.{IsNamed, event_count}

-- There is an initialization, and each change is of a net that has a name.
pub record IsHistory (names : List (List ℕ)) (records : List Record) : Type 0 where
  pub begun : 0 < length records
  pub named : All (IsNamed (length names)) records

-- pieces of text, one after another
abbrev pub joined : List (List ℕ) → List ℕ
joined pieces = flat_map (λ (piece : List ℕ). piece) pieces

-- the start of each line of a cycle: TIME DELTA
abbrev pub head_of : Record → List ℕ
head_of r = decimal r.time ++ codes " " ++ decimal r.delta ++ codes " "

-- a line: its start, a name and a value
abbrev pub pieces_of : List ℕ → List ℕ → Logic → List ℕ
pieces_of head name value = joined (head ∷ name ∷ codes " " ∷ (byte_of value ∷ []) ∷ codes "\n" ∷ [])

-- TIME DELTA NAME VALUE
abbrev pub line_of : List ℕ → List (List ℕ) → ℕ × Logic → List ℕ
line_of head names change = pieces_of head (slice_index_or names change.0 []) change.1

-- a line for each change of a cycle
abbrev pub lines_of : List (List ℕ) → Record → List ℕ
lines_of names r = flat_map (line_of (head_of r) names) r.changes

-- a last line of two numbers
abbrev pub end_of : ℕ → ℕ → List ℕ
end_of cycles events = joined (codes "done " ∷ decimal cycles ∷ codes " " ∷ decimal events ∷ codes "\n" ∷ [])

-- done CYCLES EVENTS
abbrev pub last_line : List Record → List ℕ
last_line records = end_of (length records - 1) (event_count records)

-- the lines of the initialization and of each cycle, then the number of cycles and of events
abbrev pub listing : List (List ℕ) → List Record → List ℕ
listing names records = flat_map (lines_of names) records ++ last_line records
