-- The postponed processes of a design, and those of them that wait (IEEE 1076-2008, 14.7.5.3 h).
-- Implementation only: what `simulate` promises does not rest on this file.
use Rattle.std.specs.Prelude.{List, Bool}

-- for each process by number, whether it is postponed, and whether it waits
pub record Waiting : Type 0 where
  pub postponed : List Bool
  pub waiting : List Bool
