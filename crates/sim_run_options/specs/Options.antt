-- The ranges of the options.
use Rattle.std.specs.Prelude.{ℕ, Bool, ◌&&◌, nat_le}
use Rattle.sim_run_options.specs.Limits.{cycles_of}
use Rattle.sim_run_options.specs.declared.limits.Limits.{Limits}
use Rattle.sim_run_options.specs.declared.limits.Limits.TheVariants.{Standard}

-- a stop time of at most 2^62 - 1 fs, 1 to the most cycles of these limits and 1 to 16 workers
abbrev pub are_in_range_within : Limits → ℕ → ℕ → ℕ → Bool
are_in_range_within limits stop limit workers =
    nat_le stop 4611686018427387903 && nat_le 1 limit && nat_le limit (cycles_of limits) && nat_le 1 workers && nat_le workers 16

-- the same with at most 1,000,000 cycles
abbrev pub are_in_range : ℕ → ℕ → ℕ → Bool
are_in_range = are_in_range_within Standard
