-- Processes of one share have been executed, seen among the processes of all.
use Rattle.std.proofs.Common.{ℕ, zero, suc, ◌+◌, ◌-◌, ◌<◌, ◌≤◌, ◌≡◌, ◌++◌, ◌⊎◌, inl, inr, List, [], ◌∷◌, length, length-append, set}
use Rattle.std.proofs.Common.{take, refl, ap, sym, ◌∙◌, subst, arith}
use Rattle.std.proofs.Math.Decide.{dec_lt}
use Rattle.std.proofs.lemmas.List.{get_or-append-add, get_or_append_left, get_or-take, length-set, length-take, map-append}
use Rattle.std.proofs.lemmas.List.Elements.{All-head, All-tail}
use Rattle.std.specs.List.{All}
use Rattle.sim_exec_statements.specs.Ready.{IsReady}
use Rattle.sim_standard.specs.Drivers.{DriverState}
use Rattle.sim_standard.specs.State.{Owned, all_drivers, driver_values, owned_at}
use Rattle.sim_standard.proofs.Names.{nothing_owned}
use Rattle.sim_store_share.specs.InTurn.{after_one, left_by, process_in, AreExecuted, AreKept}
use Rattle.sim_store_share.specs.declared.reading.Reading.{Reading}
use Rattle.sim_store_state.proofs.Shares.{drivers-append}

set-after : {A : Type 0} (front rest : List A) (k : ℕ) (x : A) → set (front ++ rest) (length front + k) x ≡ front ++ set rest k x
set-after [] rest k x = let e : 0 + k ≡ k = omega arith in ap (λ m. set rest m x) e
set-after (y ∷ front) rest k x =
    let e : suc (length front) + k ≡ suc (length front + k) = omega arith in
    ap (λ m. set (y ∷ (front ++ rest)) m x) e ∙ ap (λ w. y ∷ w) (set-after front rest k x)

set-before : {A : Type 0} (own back : List A) (k : ℕ) (x : A) → k < length own → set (own ++ back) k x ≡ set own k x ++ back
set-before [] back k x lt = absurd (omega (arith, lt))
set-before (y ∷ own) back zero x lt = refl
set-before (y ∷ own) back (suc k) x lt = ap (λ w. y ∷ w) (set-before own back k x (omega (arith, lt)))

-- by fewer
pub kept-more : (r : Reading) (numbers : List ℕ) (count : ℕ) (old new : List Owned) → count ≤ length numbers → AreKept r (take count numbers) old new
    → AreKept r numbers old new
kept-more r numbers count old new le k = record {
  sized = k.sized;
  others = λ p other. k.others p (λ j lt.
      (let long = length-take count numbers in
      let below : j < count = omega (arith, lt, long, le) in
      λ e. other j (omega (arith, below, le)) (sym (get_or-take count numbers j 0 below) ∙ e)));
  ready = k.ready;
  values = k.values;
}

-- the share has processes before it and after it
module _ (r : Reading) (front back : List Owned) (none : r.first ≡ 0) where
  abbrev pub own_reading : Reading
  own_reading = record r { first = length front }

  abbrev pub among : List Owned → List Owned
  among os = front ++ (os ++ back)

  -- The process with a number is one of the share.
  abbrev pub IsIn : List Owned → ℕ → Type 0
  IsIn os n = (length front ≤ n) × (n < length front + length os)

  at-own : (os : List Owned) (k : ℕ) → k < length os → owned_at (among os) (length front + k) ≡ owned_at os k
  at-own os k lt = get_or-append-add front (os ++ back) k nothing_owned ∙ get_or_append_left os back nothing_owned k lt

  -- the place of a process of the share
  place : (os : List Owned) (n : ℕ) → IsIn os n → n - r.first ≡ length front + (n - length front)
  place os n i = omega (arith, i.0, none)

  inside : (os : List Owned) (n : ℕ) → IsIn os n → n - length front < length os
  inside os n i = omega (arith, i.0, i.1)

  pub own-here : (os : List Owned) (n : ℕ) → IsIn os n → owned_at (among os) (n - r.first) ≡ owned_at os (n - length front)
  own-here os n i = ap (owned_at (among os)) (place os n i) ∙ at-own os (n - length front) (inside os n i)

  one-lifted : (os : List Owned) (n : ℕ) → IsIn os n → after_one r (among os) n ≡ among (after_one own_reading os n)
  one-lifted os n i =
      let k = n - length front in
      let own : List Owned → Owned = λ w. left_by r n (owned_at w (n - r.first)) in
      ap (λ m. set (among os) m (left_by r n (owned_at (among os) (n - r.first)))) (place os n i)
      ∙ (ap (λ w. set (among os) (length front + k) (left_by r n w)) (own-here os n i)
      ∙ (set-after front (os ++ back) k (left_by r n (owned_at os k))
      ∙ ap (λ w. front ++ w) (set-before os back k (left_by r n (owned_at os k)) (inside os n i))))

  pub executed-lifted : (numbers : List ℕ) (os os' : List Owned) → All (IsIn os) numbers → AreExecuted own_reading numbers os os'
      → AreExecuted r numbers (among os) (among os')
  executed-lifted [] os os' each e = ap among e
  executed-lifted (n ∷ numbers) os os' each e =
      let i = All-head (IsIn os) n numbers each in
      let os1 = after_one own_reading os n in
      let long : length os1 ≡ length os = length-set os (n - length front) (left_by r n (owned_at os (n - length front))) in
      let still : All (IsIn os1) numbers = subst (λ (c : ℕ). All (λ (m : ℕ). (length front ≤ m) × (m < length front + c)) numbers) (sym long)
      (All-tail (IsIn os) n numbers each) in
      let j : IsIn os1 n = (i.0, omega (arith, i.1, long)) in (
        subst (IsReady (process_in r n).body r.time) (sym (ap (λ w. owned_at w (n - r.first)) (one-lifted os n i) ∙ own-here os1 n j)) e.0,
        subst (λ w. AreExecuted r numbers w (among os')) (sym (one-lifted os n i)) (executed-lifted numbers os1 os' still e.1),
      )

  -- A process is one of the share, or it owns what it owned.
  record IsWithin (os os' : List Owned) (p : ℕ) : Type 0 where
    k : ℕ
    at : p ≡ length front + k
    old : owned_at (among os) p ≡ owned_at os k
    new : owned_at (among os') p ≡ owned_at os' k

  sides : (os os' : List Owned) (p : ℕ) → length os' ≡ length os → (owned_at (among os') p ≡ owned_at (among os) p) ⊎ IsWithin os os' p
  sides os os' p long = elim (dec_lt p (length front)) [
    | yes before ↦ inl (get_or_append_left front (os' ++ back) nothing_owned p before ∙ sym (get_or_append_left front (os ++ back) nothing_owned p before))
    | no h ↦ (let k = p - length front in
        let is : p ≡ length front + k = omega (arith, h) in
        elim (dec_lt k (length os)) [
          | yes lt ↦ inr (record {
            k = k;
            at = is;
            old = ap (owned_at (among os)) is ∙ at-own os k lt;
            new = ap (owned_at (among os')) is ∙ at-own os' k (omega (arith, lt, long));
          })
          | no after ↦ inl (let j = k - length os in
              let far : p ≡ length front + (length os + j) = omega (arith, is, after) in
              let far' : p ≡ length front + (length os' + j) = omega (arith, far, long) in
              let beyond : (ws : List Owned) → owned_at (among ws) (length front + (length ws + j)) ≡ owned_at back j =
              λ ws. get_or-append-add front (ws ++ back) (length ws + j) nothing_owned ∙ get_or-append-add ws back j nothing_owned in
              ap (owned_at (among os')) far' ∙ (beyond os' ∙ sym (ap (owned_at (among os)) far ∙ beyond os)))
        ])
  ]

  values-among : (os : List Owned) → driver_values (all_drivers (among os))
      ≡ driver_values (all_drivers front) ++ (driver_values (all_drivers os) ++ driver_values (all_drivers back))
  values-among os =
      let value : DriverState → _ = λ w. w.value in
      ap driver_values (drivers-append front (os ++ back)) ∙ (map-append value (all_drivers front) (all_drivers (os ++ back))
      ∙ ap (λ w. driver_values (all_drivers front) ++ w) (ap driver_values (drivers-append os back) ∙ map-append value (all_drivers os) (all_drivers back)))

  pub kept-lifted : (numbers : List ℕ) (os os' : List Owned) → AreKept own_reading numbers os os' → AreKept r numbers (among os) (among os')
  kept-lifted numbers os os' kept = record {
    sized = omega (arith, length-append front (os' ++ back), length-append front (os ++ back), length-append os' back, length-append os back, kept.sized);
    others = λ p other. elim (sides os os' p kept.sized) [
      | inl same ↦ same
      | inr i ↦ (i.new ∙ (kept.others i.k (λ j lt e. other j lt (omega (arith, e, i.at, none))) ∙ sym i.old))
    ];
    ready = λ p body was. elim (sides os os' p kept.sized) [
      | inl same ↦ subst (IsReady body r.time) (sym same) was
      | inr i ↦ subst (IsReady body r.time) (sym i.new) (kept.ready i.k body (subst (IsReady body r.time) i.old was))
    ];
    values = values-among os' ∙ (ap (λ w. driver_values (all_drivers front) ++ (w ++ driver_values (all_drivers back))) kept.values ∙ sym (values-among os));
  }
