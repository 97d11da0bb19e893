-- Readers of waveforms and delays.
use Rattle.std.specs.Prelude.{ℕ, zero, suc, Bool, true, false, if◌then◌else◌, List, [], ◌∷◌, ◌++◌, Option, Some, None, Err}
use Rattle.sim_text_tokens.specs.declared.kind.Kind.{Kind}
use Rattle.sim_text_tokens.specs.declared.kind.Kind.TheVariants as k
use Rattle.sim_text_grammar.specs.declared.error.ParseError.TheVariants.{TimeRange}
use Rattle.sim_text_tree.specs.Name.{Name}
use Rattle.sim_text_tree.specs.declared.expression.Expression.{Expression}
use Rattle.sim_text_tree.specs.declared.waveform.Element.{Element}
use Rattle.sim_text_tree.specs.declared.waveform.ConditionalWaveform.{ConditionalWaveform}
use Rattle.sim_text_tree.specs.declared.waveform.ConditionalWaveforms.{ConditionalWaveforms}
use Rattle.sim_text_tree.specs.declared.waveform.DelayMechanism.{DelayMechanism}
use Rattle.sim_text_tree.specs.declared.waveform.DelayMechanism.TheVariants as delays
use Rattle.sim_text_tree.specs.declared.waveform.ConcurrentSignalAssignment.{ConcurrentSignalAssignment}
use Rattle.sim_text_tree.specs.Times.{TimeLiteral, is_time}
use Rattle.sim_text_grammar.specs.Readers.{Parser, ◌>>=◌, ◌>>◌, pure, refuse, peek, take_token, number, unit, eat, expect, separated, left}
use Rattle.sim_text_grammar.specs.Expressions.{expression}

-- a time; n is the place of a `TimeRange` fault
unfoldable pub time_from : ℕ → Parser TimeLiteral
time_from n = do
  digits ← number
  unit ← unit
  if is_time digits.0 unit then pure (record { digits = digits.0; at = digits.1; unit = unit }) else (λ i. Err (TimeRange n))

-- a time (5.2.4)
unfoldable pub time : Parser TimeLiteral
time = λ i. time_from (left i) i

-- a waveform element, after its value
abbrev pub delayed : Expression → Bool → Parser Element
delayed value true = do
  t ← time
  pure (record { value = value; after = Some t })
delayed value false = pure (record { value = value; after = None })

-- a waveform element (10.5.2.1)
unfoldable pub element : Parser Element
element = do
  value ← expression
  is_after ← eat k.After
  delayed value is_after

-- a waveform (10.5.2.1)
unfoldable pub waveform : Parser (List Element)
waveform = separated k.Comma element

-- a delay mechanism, by the kind of its first token
abbrev pub delay_by : Kind → Parser DelayMechanism
delay_by k.Transport = take_token >> pure delays.Transport
delay_by k.Inertial = take_token >> pure delays.Inertial
delay_by k.Reject = do
  take_token
  t ← time
  expect k.Inertial
  pure (delays.Reject t)
delay_by _ = pure delays.Unwritten

-- a delay mechanism (10.5.2.1)
unfoldable pub delay : Parser DelayMechanism
delay = peek >>= delay_by

-- a conditional waveform, after its `when`
unfoldable pub condition : List Element → Parser ConditionalWaveform
condition waveform = do
  found ← expression
  pure (record { waveform = waveform; condition = found })

-- waveforms with conditions, and finally a waveform without one, if written
unfoldable pub alternatives_from : ℕ → List ConditionalWaveform → Parser ConditionalWaveforms
alternatives_from zero found = refuse
alternatives_from (suc n) found = do
  w ← waveform
  is_when ← eat k.When
  if is_when then (do
    x ← condition w
    is_else ← eat k.Else
    if is_else then alternatives_from n (found ++ x ∷ []) else pure (record { conditional = found ++ x ∷ []; otherwise = None })) else pure
      (record { conditional = found; otherwise = Some w })

-- conditional waveforms (10.5.3)
unfoldable pub waveforms : Parser ConditionalWaveforms
waveforms = λ i. alternatives_from (left i) [] i

-- a concurrent assignment, after its target (11.6)
unfoldable pub assigned : Option Name → Bool → Name → Parser ConcurrentSignalAssignment
assigned label postponed target = do
  expect k.SignalAssign
  d ← delay
  w ← waveforms
  expect k.Semicolon
  pure (record { label = label; postponed = postponed; target = target; delay = d; waveforms = w })
