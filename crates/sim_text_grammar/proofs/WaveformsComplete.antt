-- Completeness for waveforms and delays: reading the tokens that spell one returns it. `split` takes the spelling apart, which gives the tokens that the
-- reader sees at each step, and so its answer; lists by induction on the remaining tokens. A token after a list or an optional part must not continue it,
-- so lemmas require this of the next token.
use Rattle.std.proofs.Common.{◌≡◌, ℕ, zero, suc, ◌<◌, ◌≤◌, Bool, true, false, cond, List, [], ◌∷◌, ◌++◌, length, Option, Some, None, Ok, refl, sym}
use Rattle.std.proofs.Common.{◌∙◌, append_assoc, arith}
use Rattle.std.proofs.lemmas.List.{append-nil}
use Rattle.std.proofs.lemmas.Bool.{le-leb}
use Rattle.sim_logic.specs.Time.{largest_time}
use Rattle.sim_text_tokens.specs.declared.kind.Kind.{Kind}
use Rattle.sim_text_tokens.specs.declared.kind.Kind.TheVariants as k
use Rattle.sim_text_tree.specs.declared.expression.Expression.{Expression}
use Rattle.sim_text_tree.specs.Times.{TimeLiteral, is_time, time_of}
use Rattle.sim_text_tree.specs.declared.waveform.Element.{Element}
use Rattle.sim_text_tree.specs.declared.waveform.ConditionalWaveform.{ConditionalWaveform}
use Rattle.sim_text_tree.specs.declared.waveform.ConditionalWaveforms.{ConditionalWaveforms}
use Rattle.sim_text_tree.specs.declared.waveform.DelayMechanism.{DelayMechanism}
use Rattle.sim_text_tree.specs.declared.waveform.DelayMechanism.TheVariants as delays
use Rattle.sim_text_tree.specs.declared.waveform.ConcurrentSignalAssignment.{ConcurrentSignalAssignment}
use Rattle.sim_text_tree.specs.Input.{Input, kind}
use Rattle.sim_text_grammar.specs.Readers.{◌>>=◌, pure, left, eat}
use Rattle.sim_text_tree.specs.Writing.{NumberAt, UnitWord, just, mark, ◌▸◌, Fits}
use Rattle.sim_text_tree.specs.Grammar.{of_expression, of_time, of_after, of_element, of_waveform, of_conditional, of_more, of_alternatives}
use Rattle.sim_text_tree.specs.Grammar.{of_waveforms, of_delay}
use Rattle.sim_text_tree.proofs.Writings.{split, none_read, never_fits, mark_read, shorter, takes_split}
use Rattle.sim_text_grammar.proofs.Tokens.{number_read, unit_read, eat_read, eat_not, expect_read}
use Rattle.sim_text_grammar.proofs.Lists.{separated_again}
use Rattle.sim_text_grammar.specs.Waveforms.{time, time_from, element, waveform, delay, delay_by, condition, alternatives_from, waveforms, assigned}
use Rattle.sim_text_grammar.proofs.ExpressionsComplete.{binds, opens, expression_opens, expression_again}

pub time_again : {p n : ℕ} (t : TimeLiteral) (i m : Input) → Fits p n (of_time t) i m → time i ≡ Ok (t, m)
unfolding time time_from of_time is_time
time_again {p} {n} t i m h =
    let s = takes_split (NumberAt t.digits t.at ∷ []) (UnitWord t.unit ∷ []) i m h.takes in
    let x : Fits p n (just (NumberAt t.digits t.at)) i s.0 = record {
      takes = s.1.0;
      parentheses_fit = omega arith;
      ifs_fit = omega arith;
      latest_fits = omega arith;
    } in
    let u : Fits p n (just (UnitWord t.unit)) s.0 m = record {
      takes = s.1.1;
      parentheses_fit = omega arith;
      ifs_fit = omega arith;
      latest_fits =
          omega arith;
    } in
    rw (number_read i s.0 (t.digits, t.at) x, unit_read s.0 m t.unit u, le-leb (time_of t.digits t.unit) largest_time h.latest_fits) refl

-- An element ends before a token of this kind; a waveform does too, if it is not a comma.
abbrev pub EndsElement : Kind → Type 0
EndsElement x = (binds x < 1) × (x ≡ k.After → ⊥)

after_again : (n : ℕ) (v : Expression) (a : Option TimeLiteral) (i j m : Input) → Fits 64 n (of_expression v) i j → Fits 64 n (of_after a) j m
    → EndsElement (kind m) → element i ≡ Ok (record { value = v; after = a }, m)
unfolding element
after_again n v None i j m x y e =
    let z = none_read y in
    rw (expression_again {n = n} v i j x (rw z e.0), z, eat_not k.After m e.1) refl
after_again n v (Some t) i j m x y e =
    let s = split y in
    let w = mark_read j s.mid k.After s.front in
    rw (expression_again {n = n} v i j x (rw w.0 (omega arith)), eat_read k.After j s.mid s.front, time_again t s.mid m s.back) refl

pub element_again : {n : ℕ} (x : Element) (i m : Input) → Fits 64 n (of_element x) i m → EndsElement (kind m) → element i ≡ Ok (x, m)
unfolding of_element
element_again {n} x i m h e = let s = split h in after_again n x.value x.after i s.mid m s.front s.back e

pub waveform_again : {n : ℕ} (w : List Element) (i m : Input) → Fits 64 n (of_waveform w) i m → EndsElement (kind m) → (kind m ≡ k.Comma → ⊥)
    → waveform i ≡ Ok (w, m)
unfolding waveform of_waveform
waveform_again {n} w i m h e stop = separated_again 64 n k.Comma element of_element EndsElement (omega arith, λ z. absurd cc)
    (λ x i j f d. element_again {n = n} x i j f d) w i m h e stop

-- a token that begins a delay mechanism
abbrev pub delays_by : Kind → Bool
delays_by k.Transport = true
delays_by k.Inertial = true
delays_by k.Reject = true
delays_by _ = false

delay_stops : (m : Input) (x : Kind) → delays_by x ≡ false → delay_by x m ≡ Ok (delays.Unwritten, m)
delay_stops m k.Transport e = absurd cc
delay_stops m k.Inertial e = absurd cc
delay_stops m k.Reject e = absurd cc
delay_stops m _ e = refl

pub delay_again : {n : ℕ} (d : DelayMechanism) (i m : Input) → Fits 64 n (of_delay d) i m → delays_by (kind m) ≡ false → delay i ≡ Ok (d, m)
unfolding delay
delay_again delays.Unwritten i m h e = rw (none_read h) (delay_stops m (kind m) e)
delay_again delays.Transport i m h e = let w = mark_read i m k.Transport h in rw (w.0, w.1) refl
delay_again delays.Inertial i m h e = let w = mark_read i m k.Inertial h in rw (w.0, w.1) refl
delay_again (delays.Reject t) i m h e =
    let s = split h in
    let r = split s.back in
    let w = mark_read i s.mid k.Reject s.front in
    rw (w.0, w.1, time_again t s.mid r.mid r.front, expect_read k.Inertial r.mid m r.back) refl

-- ---- conditional waveforms

-- the next token is the semicolon of an assignment
abbrev pub Closed : Input → Type 0
Closed j = kind j ≡ k.Semicolon

some_left : (j : Input) → Closed j → suc zero ≤ length j
unfolding kind
some_left [] e = absurd cc
some_left (t ∷ ts) e = omega arith

pub closed_ends : (j : Input) → Closed j → EndsElement (kind j)
closed_ends j e = rw e (omega arith, λ z. absurd cc)

more_follows : (n : ℕ) (cs : List ConditionalWaveform) (last : Option (List Element)) (i j : Input) → Fits 64 n (of_more cs last) i j → Closed j
    → binds (kind i) < 1
more_follows n [] None i j h e = rw (none_read h, e) (omega arith)
more_follows n [] (Some w) i j h e = let s = split h in rw (mark_read i s.mid k.Else s.front).0 (omega arith)
more_follows n (c ∷ cs) last i j h e = let s = split h in rw (mark_read i s.mid k.Else s.front).0 (omega arith)

abbrev read_all : List ConditionalWaveform → Option (List Element) → ConditionalWaveforms
read_all cs last = record { conditional = cs; otherwise = last }

abbrev AllAgain : ℕ → ℕ → List ConditionalWaveform → Type 0
AllAgain n m found = (cs : List ConditionalWaveform) (last : Option (List Element)) (i j : Input) → Fits 64 n (of_alternatives cs last) i j → length i
    ≤ m → Closed j → alternatives_from m found i ≡ Ok (read_all (found ++ cs) last, j)

more_again : (n m : ℕ) (found : List ConditionalWaveform) → AllAgain n m found
    → (cs : List ConditionalWaveform) (last : Option (List Element)) (i j : Input) → Fits 64 n (of_more cs last) i j → length i ≤ suc m → Closed j
    → ((eat k.Else) >>= (λ b. cond b (alternatives_from m found) (pure (read_all found None)))) i ≡ Ok (read_all (found ++ cs) last, j)
more_again n m found all [] None i j h len e =
    let z = none_read h in
    rw (z, eat_not k.Else j (λ y. let t : k.Semicolon ≡ k.Else = sym e ∙ y in absurd cc), append-nil found) refl
more_again n m found all [] (Some w) i j h len e =
    let s = split h in
    let l = shorter i s.mid s.front in
    rw (eat_read k.Else i s.mid s.front) (all [] (Some w) s.mid j s.back (omega arith) e)
more_again n m found all (c ∷ cs) last i j h len e =
    let s = split h in
    let l = shorter i s.mid s.front in
    rw (eat_read k.Else i s.mid s.front) (all (c ∷ cs) last s.mid j s.back (omega arith) e)

alternatives_again : (n m : ℕ) (found : List ConditionalWaveform) → AllAgain n m found
unfolding alternatives_from of_conditional condition
alternatives_again n zero found cs last i j h len e = let l = shorter i j h in let o = some_left j e in absurd (omega arith)
alternatives_again n (suc m) found [] None i j h len e = absurd (never_fits i j h)
alternatives_again n (suc m) found [] (Some w) i j h len e =
    rw (
      waveform_again {n = n} w i j h (closed_ends j e) (λ y. let t : k.Semicolon ≡ k.Comma = sym e ∙ y in absurd cc),
      eat_not k.When j
          (λ y. let t : k.Semicolon ≡ k.When = sym e ∙ y in absurd cc),
      append-nil found,
    ) refl
alternatives_again n (suc m) found (c ∷ cs) last i j h len e =
    let s = split h in
    let t = split s.front in
    let u = split t.back in
    let w = mark_read t.mid u.mid k.When u.front in
    let l = shorter i s.mid s.front in
    let again = more_again n m (found ++ c ∷ []) (λ ds after q r g f d. alternatives_again n m (found ++ c ∷ []) ds after q r g f d) cs last s.mid j
    s.back (omega arith) e in
    rw (
      waveform_again {n = n} c.waveform i t.mid t.front (rw w.0 (omega arith, λ z. absurd cc)) (rw w.0 (λ z. absurd cc)),
      eat_read k.When t.mid
          u.mid u.front,
      expression_again {n = n} c.condition u.mid s.mid u.back (more_follows n cs last s.mid j s.back e),
      again,
      append_assoc found
          (c ∷ []) cs,
    ) refl

pub conditional_again : {n : ℕ} (c : ConditionalWaveforms) (i j : Input) → Fits 64 n (of_waveforms c) i j → Closed j → waveforms i ≡ Ok (c, j)
unfolding waveforms of_waveforms left
conditional_again {n} c i j h e = alternatives_again n (length i) [] c.conditional c.otherwise i j h (omega arith) e

-- ---- their first tokens

pub element_opens : (n : ℕ) (x : Element) (i j : Input) → Fits 64 n (of_element x) i j → opens (kind i) ≡ true
unfolding of_element
element_opens n x i j h = let s = split h in expression_opens 64 n x.value i s.mid s.front

pub waveform_opens : (n : ℕ) (w : List Element) (i j : Input) → Fits 64 n (of_waveform w) i j → opens (kind i) ≡ true
unfolding of_waveform
waveform_opens n [] i j h = absurd (never_fits i j h)
waveform_opens n (x ∷ xs) i j h = let s = split h in element_opens n x i s.mid s.front

alternatives_open : (n : ℕ) (cs : List ConditionalWaveform) (last : Option (List Element)) (i j : Input) → Fits 64 n (of_alternatives cs last) i j
    → opens (kind i) ≡ true
unfolding of_conditional
alternatives_open n [] None i j h = absurd (never_fits i j h)
alternatives_open n [] (Some w) i j h = waveform_opens n w i j h
alternatives_open n (c ∷ cs) last i j h = let s = split h in let t = split s.front in waveform_opens n c.waveform i t.mid t.front

pub conditional_opens : (n : ℕ) (c : ConditionalWaveforms) (i j : Input) → Fits 64 n (of_waveforms c) i j → opens (kind i) ≡ true
unfolding of_waveforms
conditional_opens n c i j h = alternatives_open n c.conditional c.otherwise i j h

pub opens_no_delay : (x : Kind) → opens x ≡ true → delays_by x ≡ false
opens_no_delay k.Literal e = refl
opens_no_delay k.Word e = refl
opens_no_delay k.LeftParen e = refl
opens_no_delay k.Not e = refl
opens_no_delay k.Condition e = refl
opens_no_delay _ e = absurd cc

-- a concurrent assignment, after its target
pub assigned_again : {n : ℕ} (a : ConcurrentSignalAssignment) (i j : Input)
    → Fits 64 n (mark k.SignalAssign ▸ of_delay a.delay ▸ of_waveforms a.waveforms ▸ mark k.Semicolon) i j → assigned a.label a.postponed a.target i ≡ Ok (a, j)
unfolding assigned
assigned_again {n} a i j h =
    let s = split h in
    let t = split s.back in
    let u = split t.back in
    let w = mark_read u.mid j k.Semicolon u.back in
    rw (
      expect_read k.SignalAssign i s.mid s.front,
      delay_again {n = n} a.delay s.mid t.mid t.front
          (opens_no_delay (kind t.mid) (conditional_opens n a.waveforms t.mid u.mid u.front)),
      conditional_again {n = n} a.waveforms t.mid u.mid u.front
          w.0,
      expect_read k.Semicolon u.mid j u.back,
    ) refl
