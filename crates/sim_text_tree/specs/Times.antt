-- Time literals (IEEE 1076-2008, 5.2.4).
use Rattle.std.specs.Prelude.{ℕ, ◌+◌, ◌-◌, ◌*◌, Bool, nat_le, fold, List}
use Rattle.sim_logic.specs.declared.time.Unit.{Unit as TimeUnit}
use Rattle.sim_logic.specs.Time.{femtoseconds_in, largest_time}

-- a time as it is written: the digits of its number, the offset of the number, and its unit
pub record TimeLiteral : Type 0 where
  pub digits : List ℕ
  pub at : ℕ
  pub unit : TimeUnit

-- the number that decimal digits denote
abbrev pub value_of : List ℕ → ℕ
value_of digits = fold (λ n b. 10 * n + (b - 48)) 0 digits

-- the time that digits and a unit denote, in femtoseconds
unfoldable pub time_of : List ℕ → TimeUnit → ℕ
time_of digits unit = value_of digits * femtoseconds_in unit

-- whether that is at most the largest time
unfoldable pub is_time : List ℕ → TimeUnit → Bool
is_time digits unit = nat_le (time_of digits unit) largest_time
