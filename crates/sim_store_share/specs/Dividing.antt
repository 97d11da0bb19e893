-- A share that is divided into several.
-- Implementation only: what `simulate` promises does not rest on this file.
use Rattle.std.specs.Prelude.{ℕ, ◌≡◌, ◌<◌, ◌≤◌, ◌+◌, List, [], length, slice_index_or}
use Rattle.sim_standard.specs.State.{Owned}
use Rattle.sim_containers.specs.RowArray.{joined}

-- The processes that own this are those of the shares, one after another: each has this number, except that the last may have fewer.
pub record AreDivided (each : ℕ) (owned : List Owned) (shares : List (List Owned)) : Type 0 where
  pub whole : joined shares ≡ owned
  pub some : 0 < length shares
  pub full : (p : ℕ) → p + 1 < length shares → length (slice_index_or shares p []) ≡ each
  pub most : (p : ℕ) → length (slice_index_or shares p []) ≤ each
