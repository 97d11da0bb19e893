-- The time of one driver is put.
use Rattle.std.proofs.Common.{ℕ, ◌+◌, ◌<◌, ◌≤◌, ◌≡◌, ◌≢◌, ◌⊎◌, inl, inr, eqb, Bool, true, false, cond, Option, refl, ap, sym, ◌∙◌, subst, arith}
use Rattle.std.proofs.lemmas.Bool.Decides.{nat_tests}
use Rattle.sim_containers.specs.Numbers.{is_in}
use Rattle.sim_containers.specs.Times.{time_of}
use Rattle.sim_store_share.specs.PendingTimes.{Pending, AreTimes}

-- A time was put: whatever the times of all drivers are, those that are known are right.
abbrev pub IsPut : Pending → Pending → ℕ → Option ℕ → Type 0
IsPut p p' n t = (times : ℕ → Option ℕ) → times n ≡ t → ((d : ℕ) → d ≢ n → is_in p.stale d ≡ false → time_of p.queue d ≡ times d) → AreTimes p' times

same-number : (d n : ℕ) → eqb d n ≡ true → d ≡ n
same-number d n e = grind (arith, nat_tests)

apart-number : (d n : ℕ) → eqb d n ≡ false → d ≢ n
apart-number d n e = grind (arith, nat_tests)

number-same : (n : ℕ) → eqb n n ≡ true
number-same n = grind (arith, nat_tests)

number-apart : (d n : ℕ) → d ≢ n → eqb d n ≡ false
number-apart d n apart = grind (arith, nat_tests)

module _ (p p' : Pending) (n : ℕ) (t : Option ℕ) (put : IsPut p p' n t) where
  -- it is there
  pub put-here : is_in p'.stale n ≡ false → time_of p'.queue n ≡ t
  put-here fresh =
      let times : ℕ → Option ℕ = λ d. cond (eqb d n) t (time_of p.queue d) in
      let here : times n ≡ t = ap (λ b. cond b t (time_of p.queue n)) (number-same n) in
      put times here (λ d apart _. sym (ap (λ b. cond b t (time_of p.queue d)) (number-apart d n apart))) n fresh ∙ here

  -- and what was known of another driver still is
  pub put-other : (d : ℕ) (x : Option ℕ) → d ≢ n → (is_in p.stale d ≡ false → time_of p.queue d ≡ x) → is_in p'.stale d ≡ false → time_of p'.queue d ≡ x
  put-other d x apart known fresh =
      let times : ℕ → Option ℕ = λ e. cond (eqb e d) x (cond (eqb e n) t (time_of p.queue e)) in
      let there : times d ≡ x = ap (λ b. cond b x (cond (eqb d n) t (time_of p.queue d))) (number-same d) in
      let other : n ≢ d = λ e. apart (sym e) in
      let here : times n ≡ t =
      ap (λ b. cond b x (cond (eqb n n) t (time_of p.queue n))) (number-apart n d other) ∙ ap (λ b. cond b t (time_of p.queue n)) (number-same n) in
      let rest : (e : ℕ) → e ≢ n → is_in p.stale e ≡ false → time_of p.queue e ≡ times e = λ e differs was. go e differs was (eqb e d) refl in
      put times here rest d fresh ∙ there
    where
      go : (e : ℕ) → e ≢ n → is_in p.stale e ≡ false → (b : Bool) → eqb e d ≡ b
          → time_of p.queue e ≡ cond (eqb e d) x (cond (eqb e n) t (time_of p.queue e))
      go e differs was true q =
          ap (time_of p.queue) (same-number e d q) ∙ (known (subst (λ (k : ℕ). is_in p.stale k ≡ false) (same-number e d q) was)
          ∙ sym (ap (λ b. cond b x (cond (eqb e n) t (time_of p.queue e))) q))
      go e differs was false q =
          sym (ap (λ b. cond b x (cond (eqb e n) t (time_of p.queue e))) q ∙ ap (λ b. cond b t (time_of p.queue e)) (number-apart e n differs))

-- those below a number have their times, and one more
pub told-more : (p p' : Pending) (times : ℕ → Option ℕ) (n end : ℕ) (t : Option ℕ) → IsPut p p' n t → t ≡ times n
    → ((d : ℕ) → (d < n) ⊎ (end ≤ d) → is_in p.stale d ≡ false → time_of p.queue d ≡ times d)
    → (d : ℕ) → (d < n + 1) ⊎ (end ≤ d) → is_in p'.stale d ≡ false → time_of p'.queue d ≡ times d
told-more p p' times n end t put is before d side = go (eqb d n) refl side
  where
    go : (b : Bool) → eqb d n ≡ b → (d < n + 1) ⊎ (end ≤ d) → is_in p'.stale d ≡ false → time_of p'.queue d ≡ times d
    go true e s =
        subst (λ (k : ℕ). is_in p'.stale k ≡ false → time_of p'.queue k ≡ times k) (sym (same-number d n e))
        (λ fresh. put-here p p' n t put fresh ∙ is)
    go false e (inl h) =
        let apart = apart-number d n e in
        put-other p p' n t put d (times d) apart (before d (inl (omega (arith, h, apart))))
    go false e (inr h) = put-other p p' n t put d (times d) (apart-number d n e) (before d (inr h))
