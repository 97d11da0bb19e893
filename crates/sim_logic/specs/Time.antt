-- Times in femtoseconds.
use Rattle.std.specs.Prelude.{ℕ, ◌-◌, ◌*◌, ◌^◌}
use Rattle.sim_logic.specs.declared.time.Unit.{Unit}
use Rattle.sim_logic.specs.declared.time.Unit.TheVariants.{Fs, Ps, Ns, Us, Ms, Sec, Min, Hr}

-- the number of femtoseconds in a unit (IEEE 1076, type time)
abbrev pub femtoseconds_in : Unit → ℕ
femtoseconds_in Fs = 1
femtoseconds_in Ps = 10 ^ 3
femtoseconds_in Ns = 10 ^ 6
femtoseconds_in Us = 10 ^ 9
femtoseconds_in Ms = 10 ^ 12
femtoseconds_in Sec = 10 ^ 15
femtoseconds_in Min = 60 * 10 ^ 15
femtoseconds_in Hr = 60 * (60 * 10 ^ 15)

-- the largest time, in femtoseconds: the sum of two times fits in 64 bits
abbrev pub largest_time : ℕ
largest_time = 2 ^ 62 - 1
