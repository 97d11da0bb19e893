-- The times of the drivers: for each a time or none.
-- Implementation only: what `simulate` promises does not rest on this file.
use Rattle.std.specs.Prelude.{ℕ, ◌==◌, min, Bool, false, if◌then◌else◌, List, [], ◌∷◌, map, Option, None, Some, slice_index_or}
use Rattle.sim_containers.specs.Numbers.{members}

-- the time of a driver
abbrev pub time_of : List (Option ℕ) → ℕ → Option ℕ
time_of times driver = slice_index_or times driver None

-- whether a time is there and is this one
abbrev pub is_at : ℕ → Option ℕ → Bool
is_at time None = false
is_at time (Some t) = t == time

-- the earlier of two times
abbrev pub earlier : Option ℕ → Option ℕ → Option ℕ
earlier None t = t
earlier (Some s) None = Some s
earlier (Some s) (Some t) = Some (min s t)

-- the least time
abbrev pub earliest : List (Option ℕ) → Option ℕ
earliest [] = None
earliest (t ∷ ts) = earlier t (earliest ts)

-- for each driver whether it has this time
abbrev pub those_at : ℕ → List (Option ℕ) → List Bool
those_at time times = map (is_at time) times

-- the drivers that have this time, in ascending order
abbrev pub due_at : ℕ → List (Option ℕ) → List ℕ
due_at time times = members (those_at time times)

-- a time, removed if it is this one
abbrev pub clear : ℕ → Option ℕ → Option ℕ
clear time t = if is_at time t then None else t

abbrev pub cleared : ℕ → List (Option ℕ) → List (Option ℕ)
cleared time times = map (clear time) times
