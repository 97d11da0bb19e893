-- The places of faults in expressions, waveforms and delays. A time is at fault if it is too large, a parenthesis if 64 others are open. Any other
-- reader has the `Blames` of its parts, in the order in which it reads them.
use Rattle.std.proofs.Common.{◌≡◌, ℕ, zero, suc, ◌<◌, Bool, true, false, cond, List, [], ◌∷◌, ◌++◌, length, Option, Some, None, Err, refl, sym, ap, ◌∙◌, inl}
use Rattle.std.proofs.lemmas.Bool.{leb-false}
use Rattle.sim_logic.specs.declared.time.Unit.{Unit as TimeUnit}
use Rattle.sim_logic.specs.Time.{largest_time}
use Rattle.sim_text_tokens.specs.declared.kind.Kind.{Kind}
use Rattle.sim_text_tokens.specs.declared.kind.Kind.TheVariants as k
use Rattle.sim_text_grammar.specs.declared.error.ParseError.TheVariants.{TimeRange}
use Rattle.sim_text_tree.specs.Name.{Name}
use Rattle.sim_text_tree.specs.declared.expression.Expression.{Expression}
use Rattle.sim_text_tree.specs.declared.expression.Operand.{Operand}
use Rattle.sim_logic.specs.declared.operator_symbol.Logical.{Logical}
use Rattle.sim_text_tree.specs.Grammar.{is_repeatable}
use Rattle.sim_text_tree.specs.Times.{TimeLiteral, is_time, time_of}
use Rattle.sim_text_tree.specs.declared.waveform.Element.{Element}
use Rattle.sim_text_tree.specs.declared.waveform.ConditionalWaveform.{ConditionalWaveform}
use Rattle.sim_text_tree.specs.Input.{Input, kind, next}
use Rattle.sim_text_grammar.specs.Readers.{Parser, pure, left, unit}
use Rattle.sim_text_tree.specs.Writing.{NumberAt, UnitWord, just, Fits}
use Rattle.sim_text_grammar.specs.Faults.{IsTooLarge}
use Rattle.sim_text_grammar.proofs.Tokens.{number_gives, unit_gives}
use Rattle.sim_text_grammar.proofs.FaultPlaces.{Blames, Within, blames_then, blames_next, blames_done, blames_taken, blames_syntax, blames_deep}
use Rattle.sim_text_grammar.proofs.FaultPlaces.{blames_if, blames_wider, expect_blames, eat_blames, many_from_blames, separated_blames}
use Rattle.sim_text_grammar.proofs.FaultPlaces.{blames_gives_then, number_blames, unit_blames, word_blames, literal_blames, event_blames}
use Rattle.sim_text_grammar.specs.Expressions.{named, named_by, goes_on, logical_of, primary, primary_by, factor, factor_by, relation, relation_by}
use Rattle.sim_text_grammar.specs.Expressions.{operand, more_operands, operands, chain, chain_by, expression_by, expression_in, nested, expression}
use Rattle.sim_text_grammar.specs.Waveforms.{time, time_from, delayed, element, waveform, delay, delay_by, condition, alternatives_from, waveforms, assigned}

named_by_blames : (x : Name) (y : Kind) (i : Input) → Blames i (named_by x y i)
named_by_blames x k.Tick i = blames_next i _ (blames_then (event_blames (next i)) (λ u j. blames_done j))
named_by_blames x k.LeftParen i = blames_next i _
    (blames_then (word_blames (next i)) (λ a j. blames_then (expect_blames k.RightParen j) (λ u m. blames_done m)))
named_by_blames x _ i = blames_done i

named_blames : (i : Input) → Blames i (named i)
unfolding named
named_blames i = blames_then (word_blames i) (λ x j. named_by_blames x (kind j) j)

module _ (inner : Parser Expression) (ok : (i : Input) → kind i ≡ k.LeftParen → Blames i (inner i)) where
  primary_by_blames : (x : Kind) (i : Input) → kind i ≡ x → Blames i (primary_by inner x i)
  primary_by_blames k.Literal i e = blames_then (literal_blames i) (λ v j. blames_done j)
  primary_by_blames k.LeftParen i e = ok i e
  primary_by_blames _ i e = named_blames i

  primary_blames : (i : Input) → Blames i (primary inner i)
  unfolding primary
  primary_blames i = primary_by_blames (kind i) i refl

  factor_by_blames : (x : Kind) (i : Input) → Blames i (factor_by inner x i)
  factor_by_blames k.Not i = blames_next i _ (blames_then (primary_blames (next i)) (λ v j. blames_done j))
  factor_by_blames _ i = primary_blames i

  factor_blames : (i : Input) → Blames i (factor inner i)
  unfolding factor
  factor_blames i = factor_by_blames (kind i) i

  relation_by_blames : (a : Expression) (x : Kind) (i : Input) → Blames i (relation_by inner a x i)
  relation_by_blames a k.Equal i = blames_next i _ (blames_then (factor_blames (next i)) (λ v j. blames_done j))
  relation_by_blames a k.Unequal i = blames_next i _ (blames_then (factor_blames (next i)) (λ v j. blames_done j))
  relation_by_blames a _ i = blames_done i

  relation_blames : (i : Input) → Blames i (relation inner i)
  unfolding relation
  relation_blames i = blames_then (factor_blames i) (λ a j. relation_by_blames a (kind j) j)

  operand_blames : (i : Input) → Blames i (operand inner i)
  unfolding operand
  operand_blames i = blames_next i _ (blames_then (relation_blames (next i)) (λ v j. blames_done j))

  further_blames : (b : Bool) (o : Logical) (found : List Operand) (i : Input) → Blames i (more_operands inner b o found i)
  unfolding left
  further_blames true o found i = many_from_blames (goes_on o) (operand inner) operand_blames (length i) found i
  further_blames false o found i = blames_done i

  operands_blames : (o : Logical) (i : Input) → Blames i (operands inner o i)
  unfolding operands
  operands_blames o i = blames_then (operand_blames i) (λ v j. further_blames (is_repeatable o) o (v ∷ []) j)

  chain_by_blames : (a : Expression) (o : Option Logical) (i : Input) → Blames i (chain_by inner a o i)
  chain_by_blames a (Some o) i = blames_then (operands_blames o i) (λ v j. blames_done j)
  chain_by_blames a None i = blames_done i

  chain_blames : (i : Input) → Blames i (chain inner i)
  unfolding chain
  chain_blames i = blames_then (relation_blames i) (λ a j. chain_by_blames a (logical_of (kind j)) j)

  expression_by_blames : (x : Kind) (i : Input) → Blames i (expression_by inner x i)
  expression_by_blames k.Condition i = blames_next i _ (blames_then (primary_blames (next i)) (λ v j. blames_done j))
  expression_by_blames _ i = chain_blames i

  expression_in_blames : (i : Input) → Blames i (expression_in inner i)
  unfolding expression_in
  expression_in_blames i = expression_by_blames (kind i) i

nested_blames : (d : ℕ) (i : Input) → kind i ≡ k.LeftParen → Blames i (nested d i)
unfolding nested
nested_blames zero i e = blames_deep i k.LeftParen e (λ z. absurd cc) (inl refl)
nested_blames (suc d) i e = blames_next i _ (blames_then (expression_in_blames (nested d) (nested_blames d) (next i))
    (λ x j. blames_then (expect_blames k.RightParen j) (λ u m. blames_done m)))

pub expression_blames : (i : Input) → Blames i (expression i)
unfolding expression
expression_blames i = expression_in_blames (nested 64) (nested_blames 64) i

-- ---- times

-- a number and a unit that were read
blames_by : (i j m : Input) (d : List ℕ × ℕ) (u : TimeUnit) → Fits 0 0 (just (NumberAt d.0 d.1)) i j → Fits 0 0 (just (UnitWord u)) j m
    → largest_time < time_of d.0 u → IsTooLarge i (length i)
blames_by [] j m d u x y beyond = absurd x.takes
blames_by (t ∷ ts) [] m d u x y beyond = absurd y.takes
blames_by (t ∷ ts) (w ∷ ws) m d u x y beyond = record {
  front = [];
  number = t;
  word = w;
  rest = ws;
  unit = u;
  whole = ap (λ (z : Input). t ∷ z)
      x.takes.1;
  count = ap (λ (z : Input). length (t ∷ z)) (sym x.takes.1);
  digits = x.takes.0.0;
  named = y.takes.0;
  large = rw x.takes.0.1 beyond;
}

rest_by : (i j m : Input) (d : List ℕ × ℕ) (u : TimeUnit) → Fits 0 0 (just (NumberAt d.0 d.1)) i j → Fits 0 0 (just (UnitWord u)) j m → Within i m
rest_by [] j m d u x y = absurd x.takes
rest_by (t ∷ ts) [] m d u x y = absurd y.takes
rest_by (t ∷ ts) (w ∷ ws) m d u x y = record { front = t ∷ w ∷ []; whole = ap (λ (z : Input). t ∷ z) (x.takes.1 ∙ ap (λ (z : Input). w ∷ z) y.takes.1) }

time_by_blames : (i j m : Input) (d : List ℕ × ℕ) (u : TimeUnit) → Fits 0 0 (just (NumberAt d.0 d.1)) i j → Fits 0 0 (just (UnitWord u)) j m
    → (b : Bool) → is_time d.0 u ≡ b
    → Blames {A = TimeLiteral} i (cond b (pure (record { digits = d.0; at = d.1; unit = u })) (λ (q : Input). Err (TimeRange (length i))) m)
unfolding is_time
time_by_blames i j m d u x y true e = record { blame = rest_by i j m d u x y }
time_by_blames i j m d u x y false e = record { blame = blames_by i j m d u x y (leb-false (time_of d.0 u) largest_time e) }

number_within : (i j : Input) (d : List ℕ × ℕ) → Fits 0 0 (just (NumberAt d.0 d.1)) i j → Within i j
number_within [] j d x = absurd x.takes
number_within (t ∷ ts) j d x = record { front = t ∷ []; whole = ap (λ (z : Input). t ∷ z) x.takes.1 }

pub time_blames : (i : Input) → Blames i (time i)
unfolding time time_from left
time_blames i =
    blames_gives_then (number_gives {p = 0} {n = 0} i) (number_blames i) (λ d j x.
    blames_gives_then (unit_gives {p = 0} {n = 0} j) (blames_wider i j (unit j) (number_within i j d x) (unit_blames j)) (λ u m y.
    time_by_blames i j m d u x y (is_time d.0 u) refl))

-- ---- waveforms

delayed_blames : (v : Expression) (b : Bool) (i : Input) → Blames i (delayed v b i)
delayed_blames v true i = blames_then (time_blames i) (λ t j. blames_done j)
delayed_blames v false i = blames_done i

pub element_blames : (i : Input) → Blames i (element i)
unfolding element
element_blames i = blames_then (expression_blames i) (λ v j. blames_then (eat_blames k.After j) (λ b m. delayed_blames v b m))

pub waveform_blames : (i : Input) → Blames i (waveform i)
unfolding waveform
waveform_blames i = separated_blames k.Comma element element_blames i

delay_by_blames : (x : Kind) (i : Input) → Blames i (delay_by x i)
delay_by_blames k.Transport i = blames_taken i
delay_by_blames k.Inertial i = blames_taken i
delay_by_blames k.Reject i = blames_next i _ (blames_then (time_blames (next i)) (λ t j. blames_then (expect_blames k.Inertial j) (λ u m. blames_done m)))
delay_by_blames _ i = blames_done i

pub delay_blames : (i : Input) → Blames i (delay i)
unfolding delay
delay_blames i = delay_by_blames (kind i) i

choice_blames : (w : List Element) (i : Input) → Blames i (condition w i)
unfolding condition
choice_blames w i = blames_then (expression_blames i) (λ v j. blames_done j)

alternatives_blames : (m : ℕ) (found : List ConditionalWaveform) (i : Input) → Blames i (alternatives_from m found i)
unfolding alternatives_from
alternatives_blames zero found i = blames_syntax
alternatives_blames (suc m) found i =
    blames_then (waveform_blames i) (λ w j.
    blames_then (eat_blames k.When j) (λ b q.
    blames_if b _ _ q
    (blames_then (choice_blames w q) (λ c r. blames_then (eat_blames k.Else r)
    (λ d s. blames_if d _ _ s (alternatives_blames m (found ++ c ∷ []) s) (blames_done s))))
    (blames_done q)))

pub conditional_blames : (i : Input) → Blames i (waveforms i)
unfolding waveforms left
conditional_blames i = alternatives_blames (length i) [] i

pub assigned_blames : (label : Option Name) (postponed : Bool) (target : Name) (i : Input) → Blames i (assigned label postponed target i)
unfolding assigned
assigned_blames label postponed target i = blames_then (expect_blames k.SignalAssign i)
    (λ u j. blames_then (delay_blames j) (λ d m. blames_then (conditional_blames m) (λ w q. blames_then (expect_blames k.Semicolon q) (λ v r. blames_done r))))
