-- The faults of values, conditions, waveforms and delays (IEEE 1076-2008, 10.5).
use Rattle.std.specs.Prelude.{ℕ, nat_le, nat_lt, List, [], ◌∷◌, ◌++◌, Option, Some, None, slice_get}
use Rattle.sim_text_tree.specs.Starts.{start_of}
use Rattle.sim_text_tree.specs.Times.{TimeLiteral, time_of}
use Rattle.sim_text_tree.specs.declared.expression.Expression.{Expression}
use Rattle.sim_text_tree.specs.declared.waveform.Element.{Element}
use Rattle.sim_text_tree.specs.declared.waveform.ConditionalWaveform.{ConditionalWaveform}
use Rattle.sim_text_tree.specs.declared.waveform.ConditionalWaveforms.{ConditionalWaveforms}
use Rattle.sim_text_tree.specs.declared.waveform.DelayMechanism.{DelayMechanism}
use Rattle.sim_text_tree.specs.declared.waveform.DelayMechanism.TheVariants as delay
use Rattle.sim_flat_scope.specs.declared.scope.Type as ty
use Rattle.sim_flat_scope.specs.declared.fault.Kind.TheVariants as k
use Rattle.sim_flat_scope.specs.declared.fault.Fault.{Fault}
use Rattle.sim_flat_scope.specs.Faults.{fault, where_}
use Rattle.sim_flat_scope.specs.Scopes.{Lookup}
use Rattle.sim_flat_check.specs.Types.{judged, clash, ambiguous}

-- ---- times

-- the largest number of elements in a waveform
abbrev pub most_elements : ℕ
most_elements = 16

-- the delay of an element, in femtoseconds: zero without an `after` (10.5.2.1)
abbrev pub delay_after : Option TimeLiteral → ℕ
delay_after None = 0
delay_after (Some t) = time_of t.digits t.unit

-- the fault of an element whose delay is not greater than that of the one before it (10.5.2.2)
abbrev pub not_above : Option ℕ → Element → List Fault
not_above None x = []
not_above (Some before) x = where_ (nat_le (delay_after x.after) before) (fault k.NotAscending (start_of x.value))

-- the faults of elements whose delays do not ascend, after an element with some delay or after none
unfoldable pub not_rising : Option ℕ → List Element → List Fault
not_rising before [] = []
not_rising before (x ∷ xs) = not_above before x ++ not_rising (Some (delay_after x.after)) xs

-- the fault of the first element in excess
abbrev pub excess : Option Element → List Fault
excess None = []
excess (Some x) = fault k.TooMany (start_of x.value)

-- the fault of a waveform with too many elements
unfoldable pub too_many : List Element → List Fault
too_many w = excess (slice_get w most_elements)

-- the fault of a rejection limit greater than the first delay of a waveform (10.5.2.1)
abbrev pub limit_above : TimeLiteral → List Element → List Fault
limit_above t [] = []
limit_above t (x ∷ xs) = where_ (nat_lt (delay_after x.after) (time_of t.digits t.unit)) (fault k.RejectTooLong t.at)

-- the faults of a delay mechanism before a waveform
unfoldable pub delay_faults : DelayMechanism → List Element → List Fault
delay_faults delay.Unwritten w = []
delay_faults delay.Transport w = []
delay_faults delay.Inertial w = []
delay_faults (delay.Reject t) w = limit_above t w

-- ---- values and conditions

module _ (look : Lookup) where
  -- The faults of a condition (10.5.3, 10.8). It is boolean, or else of type std_ulogic with a name in it, and `??` is implicit (9.2.9).
  unfoldable pub condition_faults : Expression → List Fault
  condition_faults e = (judged look e).faults ++ ambiguous (judged look e).type (judged look e).named (start_of e)

  -- the faults of a value that is assigned to a target of this type
  unfoldable pub value_faults : Option ty.Type → Expression → List Fault
  value_faults target e = (judged look e).faults ++ clash target (judged look e).type (start_of e)

  -- the faults of the values of elements
  unfoldable pub values_faults : Option ty.Type → List Element → List Fault
  values_faults target [] = []
  values_faults target (x ∷ xs) = value_faults target x.value ++ values_faults target xs

  -- the faults of a waveform after a delay mechanism (10.5.2.1)
  unfoldable pub waveform_faults : DelayMechanism → Option ty.Type → List Element → List Fault
  waveform_faults mechanism target w = delay_faults mechanism w ++ (not_rising None w ++ (too_many w ++ values_faults target w))

  -- the faults of a waveform and its condition (10.5.3)
  unfoldable pub alternative_faults : DelayMechanism → Option ty.Type → ConditionalWaveform → List Fault
  alternative_faults mechanism target c = waveform_faults mechanism target c.waveform ++ condition_faults c.condition

  -- the faults of waveforms with their conditions (10.5.3)
  unfoldable pub conditional_faults : DelayMechanism → Option ty.Type → List ConditionalWaveform → List Fault
  conditional_faults mechanism target [] = []
  conditional_faults mechanism target (c ∷ cs) = alternative_faults mechanism target c ++ conditional_faults mechanism target cs

  -- the faults of the waveform without a condition, if there is one
  abbrev pub otherwise_faults : DelayMechanism → Option ty.Type → Option (List Element) → List Fault
  otherwise_faults mechanism target None = []
  otherwise_faults mechanism target (Some w) = waveform_faults mechanism target w

  -- the faults of the waveforms of a concurrent assignment (11.6)
  unfoldable pub waveforms_faults : DelayMechanism → Option ty.Type → ConditionalWaveforms → List Fault
  waveforms_faults mechanism target c = conditional_faults mechanism target c.conditional ++ otherwise_faults mechanism target c.otherwise
