-- Waveforms of a process (IEEE 1076-2008, 10.5.2.1).
-- Implementation only: what `simulate` promises does not rest on this file.
use Rattle.std.specs.Prelude.{ℕ, ◌<◌, ◌≤◌, List, [], ◌∷◌}
use Rattle.sim_flat_design.specs.declared.waveform.Element.{Element}
use Rattle.sim_flat_design.specs.declared.statement.Delay.{Delay}
use Rattle.sim_flat_design.specs.declared.statement.Delay.TheVariants as d

-- Each element has a longer delay than the one before it, and the first a longer one than this.
abbrev pub ElementsRise : ℕ → List Element → Type 0
ElementsRise time [] = Unit {0}
ElementsRise time (x ∷ xs) = (time < x.after) × ElementsRise x.after xs

-- There is an element, and the delays ascend strictly.
abbrev pub IsWaveform : List Element → Type 0
IsWaveform [] = ⊥
IsWaveform (x ∷ xs) = ElementsRise x.after xs

-- the delay of the first element
abbrev pub first_time : List Element → ℕ
first_time [] = 0
first_time (x ∷ xs) = x.after

-- A rejection limit is at most the first delay of the waveform.
abbrev pub IsRejected : Delay → List Element → Type 0
IsRejected (d.Reject limit) w = limit ≤ first_time w
IsRejected _ w = Unit {0}
