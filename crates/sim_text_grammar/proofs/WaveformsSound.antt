-- Soundness for waveforms and delays: the tokens that a reader consumes spell its result. For each reader a lemma says that it `Gives` its spelling.
-- The proof follows the steps of the reader with `then_` and joins the spellings of the parts with `◌&◌`; lists by induction on the remaining tokens.
use Rattle.std.proofs.Common.{◌≡◌, ℕ, zero, suc, Bool, true, false, cond, List, [], ◌∷◌, ◌++◌, length, Option, Some, None, Err, refl, sym, ◌∙◌}
use Rattle.std.proofs.Common.{append_assoc, arith}
use Rattle.std.proofs.lemmas.List.{append-nil}
use Rattle.std.proofs.lemmas.Bool.{leb-true}
use Rattle.sim_logic.specs.declared.time.Unit.{Unit as TimeUnit}
use Rattle.sim_text_tokens.specs.declared.kind.Kind.{Kind}
use Rattle.sim_text_tokens.specs.declared.kind.Kind.TheVariants as k
use Rattle.sim_text_grammar.specs.declared.error.ParseError.TheVariants.{TimeRange}
use Rattle.sim_text_tree.specs.Name.{Name}
use Rattle.sim_text_tree.specs.declared.expression.Expression.{Expression}
use Rattle.sim_text_tree.specs.declared.waveform.Element.{Element}
use Rattle.sim_text_tree.specs.declared.waveform.ConditionalWaveform.{ConditionalWaveform}
use Rattle.sim_text_tree.specs.declared.waveform.ConditionalWaveforms.{ConditionalWaveforms}
use Rattle.sim_text_tree.specs.Times.{is_time}
use Rattle.sim_text_tree.specs.Input.{Input, kind, next}
use Rattle.sim_text_grammar.specs.Readers.{pure, left}
use Rattle.sim_text_tree.specs.Writing.{NumberAt, UnitWord, just, mark, word_at, Fits, if_written}
use Rattle.sim_text_tree.specs.Grammar.{of_expression, of_time, of_element, of_waveform, of_conditional, of_more, of_alternatives, of_waveforms, of_delay}
use Rattle.sim_text_tree.specs.Grammar.{labelled, of_concurrent_assignment}
use Rattle.sim_text_tree.proofs.Writings.{◌&◌, none, none_to, never_fits, marks, takes_append}
use Rattle.sim_text_grammar.proofs.Gives.{Gives, then_, map_, done, refused}
use Rattle.sim_text_grammar.proofs.Tokens.{number_gives, unit_gives, Eaten, eat_gives, eat_then, expect_gives}
use Rattle.sim_text_grammar.proofs.Lists.{separated_gives}
use Rattle.sim_text_grammar.specs.Waveforms.{time, time_from, delayed, element, waveform, delay, delay_by, condition, alternatives_from, waveforms, assigned}
use Rattle.sim_text_grammar.proofs.ExpressionsSound.{expression_gives}

time_parts : (p n : ℕ) (d : List ℕ × ℕ) (u : TimeUnit) (i j m : Input) → Fits p n (just (NumberAt d.0 d.1)) i j → Fits p n (just (UnitWord u)) j m
    → is_time d.0 u ≡ true → Fits p n (of_time (record { digits = d.0; at = d.1; unit = u })) i m
unfolding of_time is_time
time_parts p n d u i j m x y e = record {
  takes = takes_append (NumberAt d.0 d.1 ∷ []) (UnitWord u ∷ []) i j m x.takes y.takes;
  parentheses_fit =
      omega arith;
  ifs_fit = omega arith;
  latest_fits = leb-true _ _ e;
}

time_by : (p n at : ℕ) (d : List ℕ × ℕ) (u : TimeUnit) (i j m : Input) → Fits p n (just (NumberAt d.0 d.1)) i j → Fits p n (just (UnitWord u)) j m
    → (b : Bool) → is_time d.0 u ≡ b
    → Gives (λ t q. Fits p n (of_time t) i q) (cond b (pure (record { digits = d.0; at = d.1; unit = u })) (λ (i : Input). Err (TimeRange at)) m)
time_by p n at d u i j m x y true e = done (time_parts p n d u i j m x y e)
time_by p n at d u i j m x y false e = refused

pub time_gives : {p n : ℕ} (i : Input) → Gives (λ t m. Fits p n (of_time t) i m) (time i)
unfolding time time_from
time_gives {p} {n} i =
    then_ (number_gives {p = p} {n = n} i) (λ d j x.
    then_ (unit_gives {p = p} {n = n} j) (λ u m y.
    time_by p n (left i) d u i j m x y (is_time d.0 u) refl))

delayed_gives : (n : ℕ) (v : Expression) (b : Bool) (i j m : Input) → Fits 64 n (of_expression v) i j → Eaten 64 n k.After j b m
    → Gives (λ e q. Fits 64 n (of_element e) i q) (delayed v b m)
unfolding of_element
delayed_gives n v true i j m x y = then_ (time_gives {p = 64} {n = n} m) (λ t q h. done (x & y & h))
delayed_gives n v false i j m x y = done (x & none_to y.0)

pub element_gives : {n : ℕ} (i : Input) → Gives (λ e q. Fits 64 n (of_element e) i q) (element i)
unfolding element
element_gives {n} i =
    then_ (expression_gives {n = n} i) (λ v j x.
    then_ (eat_gives {p = 64} {n = n} k.After j (λ z. absurd cc)) (λ b m y. delayed_gives n v b i j m x y))

pub waveform_gives : {n : ℕ} (i : Input) → Gives (λ w q. Fits 64 n (of_waveform w) i q) (waveform i)
unfolding waveform of_waveform
waveform_gives {n} i = separated_gives 64 n k.Comma element of_element (λ z. absurd cc) (λ j. element_gives {n = n} j) i

delay_by_gives : (n : ℕ) (i : Input) (x : Kind) → kind i ≡ x → Gives (λ w q. Fits 64 n (of_delay w) i q) (delay_by x i)
delay_by_gives n i k.Transport e = done (marks i k.Transport e (λ z. absurd cc))
delay_by_gives n i k.Inertial e = done (marks i k.Inertial e (λ z. absurd cc))
delay_by_gives n i k.Reject e =
    then_ (time_gives {p = 64} {n = n} (next i)) (λ t q h.
    then_ (expect_gives {p = 64} {n = n} k.Inertial q (λ z. absurd cc)) (λ u r g.
    done (marks i k.Reject e (λ z. absurd cc) & h & g)))
delay_by_gives n i _ e = done none

pub delay_gives : {n : ℕ} (i : Input) → Gives (λ w q. Fits 64 n (of_delay w) i q) (delay i)
unfolding delay
delay_gives {n} i = delay_by_gives n i (kind i) refl

-- ---- conditional waveforms

-- a conditional waveform with this waveform, whose condition is spelled here
pub record Chosen (n : ℕ) (w : List Element) (i : Input) (c : ConditionalWaveform) (j : Input) : Type 0 where
  pub same : c.waveform ≡ w
  pub fits : Fits 64 n (of_expression c.condition) i j

choice_gives : (n : ℕ) (w : List Element) (i : Input) → Gives (Chosen n w i) (condition w i)
unfolding condition
choice_gives n w i = then_ (expression_gives {n = n} i) (λ v j x. done (record { same = refl; fits = x }))

-- the waveforms found so far, and alternatives that are spelled here
pub record Alternatives (n : ℕ) (found : List ConditionalWaveform) (i : Input) (c : ConditionalWaveforms) (j : Input) : Type 0 where
  pub more : List ConditionalWaveform
  pub whole : c.conditional ≡ found ++ more
  pub fits : Fits 64 n (of_alternatives more c.otherwise) i j

after_else : (n : ℕ) (cs : List ConditionalWaveform) (last : Option (List Element)) (i j m : Input) → Fits 64 n (mark k.Else) i j
    → Fits 64 n (of_alternatives cs last) j m → Fits 64 n (of_more cs last) i m
after_else n [] None i j m x y = absurd (never_fits j m y)
after_else n [] (Some w) i j m x y = x & y
after_else n (c ∷ cs) last i j m x y = x & y

choice_fits : (n : ℕ) (w : List Element) (c : ConditionalWaveform) (i j m q : Input) → Fits 64 n (of_waveform w) i j → Fits 64 n (mark k.When) j m
    → Chosen n w m c q → Fits 64 n (of_conditional c) i q
unfolding of_conditional
choice_fits n w c i j m q x y z = rw z.same (x & y & z.fits)

alternatives_give : (n m : ℕ) (found : List ConditionalWaveform) (i : Input) → Gives (Alternatives n found i) (alternatives_from m found i)
unfolding alternatives_from
alternatives_give n zero found i = refused
alternatives_give n (suc m) found i =
    then_ (waveform_gives {n = n} i) (λ w j x.
    eat_then _ _ 64 n k.When j (λ z. absurd cc)
    (λ y. then_ (choice_gives n w (next j)) (λ c q z.
    let chosen : Fits 64 n (of_conditional c) i q = choice_fits n w c i j (next j) q x y z in
    eat_then _ _ 64 n k.Else q (λ z. absurd cc)
    (λ v. map_ (alternatives_give n m (found ++ c ∷ []) (next q)) (λ a r f.
    record { more = c ∷ f.more; whole = f.whole ∙ append_assoc found (c ∷ []) f.more; fits = chosen & after_else n f.more a.otherwise q (next q) r v f.fits }))
    (λ v. done (record { more = c ∷ []; whole = refl; fits = chosen & none }))))
    (λ y. done (record { more = []; whole = sym (append-nil found); fits = x })))

pub conditional_gives : {n : ℕ} (i : Input) → Gives (λ c q. Fits 64 n (of_waveforms c) i q) (waveforms i)
unfolding waveforms of_waveforms left
conditional_gives {n} i = map_ (alternatives_give n (length i) [] i) (λ c q f. rw f.whole f.fits)

-- a concurrent assignment, after its target
pub assigned_gives : {n : ℕ} (label : Option Name) (postponed : Bool) (target : Name) (i s t j : Input) → Fits 64 n (labelled label) i s
    → Fits 64 n (if_written postponed (mark k.Postponed)) s t → Fits 64 n (word_at target) t j
    → Gives (λ a q. Fits 64 n (of_concurrent_assignment a) i q) (assigned label postponed target j)
unfolding assigned of_concurrent_assignment
assigned_gives {n} label postponed target i s t j l o x =
    then_ (expect_gives {p = 64} {n = n} k.SignalAssign j (λ z. absurd cc)) (λ u m y.
    then_ (delay_gives {n = n} m) (λ d q z.
    then_ (conditional_gives {n = n} q) (λ c r v.
    then_ (expect_gives {p = 64} {n = n} k.Semicolon r (λ z. absurd cc)) (λ u f w.
    done (l & o & x & y & z & v & w)))))
