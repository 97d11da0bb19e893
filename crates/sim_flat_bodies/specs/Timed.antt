-- Whether the delays of waveforms ascend, and rejection limits are at most the first of them (IEEE 1076-2008, 10.5.2).
use Rattle.std.specs.Prelude.{ℕ, ◌&&◌, nat_lt, nat_le, Bool, true, false, List, [], ◌∷◌, Option, Some, None}
use Rattle.std.specs.List.{list_all}
use Rattle.sim_text_tree.specs.Times.{TimeLiteral, time_of}
use Rattle.sim_text_tree.specs.declared.waveform.Element.{Element}
use Rattle.sim_text_tree.specs.declared.waveform.ConditionalWaveform.{ConditionalWaveform}
use Rattle.sim_text_tree.specs.declared.waveform.DelayMechanism.{DelayMechanism}
use Rattle.sim_text_tree.specs.declared.waveform.DelayMechanism.TheVariants as delay
use Rattle.sim_text_tree.specs.declared.waveform.ConcurrentSignalAssignment.{ConcurrentSignalAssignment}

-- the delay of an element; zero if none is written
unfoldable pub after_of : Option TimeLiteral → ℕ
after_of None = 0
after_of (Some t) = time_of t.digits t.unit

-- whether each element has a longer delay than the one before it, and the first a longer one than this
unfoldable pub rises_from : ℕ → List Element → Bool
rises_from time [] = true
rises_from time (x ∷ xs) = nat_lt time (after_of x.after) && rises_from (after_of x.after) xs

-- whether the delays of a waveform ascend
unfoldable pub rises : List Element → Bool
rises [] = false
rises (x ∷ xs) = rises_from (after_of x.after) xs

-- whether a rejection limit is at most the first delay of a waveform
unfoldable pub rejects_within : DelayMechanism → List Element → Bool
rejects_within (delay.Reject t) [] = false
rejects_within (delay.Reject t) (x ∷ xs) = nat_le (time_of t.digits t.unit) (after_of x.after)
rejects_within _ w = true

-- whether a waveform is in order, given its delay mechanism
unfoldable pub waveform_timed : DelayMechanism → List Element → Bool
waveform_timed d w = rises w && rejects_within d w

-- whether a conditional waveform is in order
unfoldable pub conditional_timed : DelayMechanism → ConditionalWaveform → Bool
conditional_timed d c = waveform_timed d c.waveform

-- whether the waveform without a condition is in order
unfoldable pub last_timed : DelayMechanism → Option (List Element) → Bool
last_timed d None = true
last_timed d (Some w) = waveform_timed d w

-- whether the waveforms of a concurrent assignment are in order
unfoldable pub concurrent_timed : ConcurrentSignalAssignment → Bool
concurrent_timed a = list_all (conditional_timed a.delay) a.waveforms.conditional && last_timed a.delay a.waveforms.otherwise
