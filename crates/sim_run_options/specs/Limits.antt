-- How large a run may be.
use Rattle.std.specs.Prelude.{ℕ}
use Rattle.sim_flat_design.specs.Limits as design
use Rattle.sim_run_options.specs.declared.limits.Limits.{Limits}
use Rattle.sim_run_options.specs.declared.limits.Limits.TheVariants.{Standard, Large}

-- the largest number of bytes of a text
abbrev pub bytes_of : Limits → ℕ
bytes_of Standard = 1048576
bytes_of Large = 268435456

-- the limits of a design
abbrev pub design_of : Limits → design.Limits
design_of Standard = design.standard
design_of Large = design.large

-- the largest number of simulation cycles after the initialization
abbrev pub cycles_of : Limits → ℕ
cycles_of Standard = 1000000
cycles_of Large = 4294967295

-- the limit of simulation cycles where the words of a command line give none
abbrev pub usual_cycles_of : Limits → ℕ
usual_cycles_of Standard = 10000
usual_cycles_of Large = 4294967295
