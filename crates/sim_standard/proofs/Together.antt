-- Processes executed one after another leave what they leave together: each keeps to its part, and those before it leave its part as it was.
use Rattle.std.proofs.Common.{ℕ, zero, suc, ◌+◌, ◌<◌, ◌≤◌, ◌≡◌, ◌≢◌, ◌==◌, ◌||◌, eqb, Bool, true, false, if◌then◌else◌, List, [], ◌∷◌}
use Rattle.std.proofs.Common.{length, set, map, refl, ap, sym, ◌∙◌, arith}
use Rattle.std.specs.List.{All, AllByRecursion}
use Rattle.std.proofs.lemmas.Bool.Decides.{nat_tests}
use Rattle.std.proofs.lemmas.List.Elements.{All-get_or, recursion_from_All}
use Rattle.sim_flat_design.specs.Processes.{Process, IsProcess}
use Rattle.sim_standard.specs.State.{State, Owned, owned_at, net_at}
use Rattle.sim_standard.specs.Processes.{meaning, part, owned_after, process_at}
use Rattle.sim_standard.proofs.Names.{no_process, with_owned}
use Rattle.sim_standard.proofs.Frame.{the_frame}
use Rattle.sim_standard.specs.Orders.{is_among, one_by_one, NoRepeats}
use Rattle.sim_standard.specs.Together.{merged, together}

-- a set and one more process
abbrev pub also : ℕ → (ℕ → Bool) → ℕ → Bool
also p f q = (p == q) || f q

pub length-merged : (f : ℕ → Bool) (r : ℕ → Owned) (i : ℕ) (os : List Owned) → length (merged f r i os) ≡ length os
unfolding merged
length-merged f r i [] = refl
length-merged f r i (o ∷ os) = ap suc (length-merged f r (suc i) os)

-- sets that agree
pub merged-same : (f g : ℕ → Bool) (r : ℕ → Owned) (i : ℕ) (os : List Owned) → ((k : ℕ) → i ≤ k → f k ≡ g k) → merged f r i os ≡ merged g r i os
unfolding merged
merged-same f g r i [] same = refl
merged-same f g r i (o ∷ os) same = rw (same i (omega arith))
    (ap (λ w. (if g i then r i else o) ∷ w) (merged-same f g r (suc i) os (λ k h. same k (omega arith))))

pub merged-none : (f : ℕ → Bool) (r : ℕ → Owned) (i : ℕ) (os : List Owned) → ((k : ℕ) → f k ≡ false) → merged f r i os ≡ os
unfolding merged
merged-none f r i [] none = refl
merged-none f r i (o ∷ os) none = rw (none i) (ap (λ w. o ∷ w) (merged-none f r (suc i) os none))

-- a process outside the set owns what it had
pub merged-out : (f : ℕ → Bool) (r : ℕ → Owned) (i p n : ℕ) (os : List Owned) → n ≡ i + p → f n ≡ false → owned_at (merged f r i os) p ≡ owned_at os p
unfolding merged
merged-out f r i p n [] q out = refl
merged-out f r i zero n (o ∷ os) q out =
    let at : i ≡ n = omega arith in
    let e : f i ≡ false = ap f at ∙ out in
    rw e refl
merged-out f r i (suc p) n (o ∷ os) q out = merged-out f r (suc i) p n os (omega arith) out

-- one more
pub merged-also : (f : ℕ → Bool) (r : ℕ → Owned) (i p n : ℕ) (os : List Owned) → n ≡ i + p → set (merged f r i os) p (r n) ≡ merged (also n f) r i os
unfolding merged
merged-also f r i p n [] q = refl
merged-also f r i zero n (o ∷ os) q =
    let at : n ≡ i = omega arith in
    let yes : eqb n i ≡ true = grind (arith, nat_tests) in
    let rest : merged f r (suc i) os ≡ merged (also n f) r (suc i) os = merged-same f (also n f) r (suc i) os (λ k h. sym (other n k (f k) (omega arith))) in
    rw (yes, at) (ap (λ w. r i ∷ w) rest)
  where
    other : (a b : ℕ) (c : Bool) → a ≢ b → ((a == b) || c) ≡ c
    other a b c ne = let t : eqb a b ≡ false = grind (arith, nat_tests) in rw t refl
merged-also f r i (suc p) n (o ∷ os) q =
    let apart : eqb n i ≡ false = grind (arith, nat_tests) in
    rw apart (ap (λ w. (if f i then r i else o) ∷ w) (merged-also f r (suc i) p n os (omega arith)))

module _ (ps : List Process) (s : State) where
  -- what each process leaves of its part
  abbrev results : ℕ → Owned
  results q = owned_after (process_at ps q) (part (process_at ps q) q s)

  -- the part of a process outside the set is as it was
  part-together : (f : ℕ → Bool) (p : ℕ) → f p ≡ false → part (process_at ps p) p (together ps f s) ≡ part (process_at ps p) p s
  part-together f p out =
      ap (λ (o : Owned). record { time = s.time; delta = 0; nets = map (net_at s.nets) (process_at ps p).reads; owned = o ∷ []; waiting = [] })
      (merged-out f results 0 p p s.owned (omega arith) out)

  -- one more process
  meaning-together : (f : ℕ → Bool) (p : ℕ) → IsProcess (process_at ps p) → f p ≡ false → p < length s.owned
      → meaning (process_at ps p) p (together ps f s) ≡ together ps (also p f) s
  meaning-together f p is out h =
      let here : State = together ps f s in
      let there : p < length here.owned = omega (arith, h, length-merged f results 0 s.owned) in
      the_frame (process_at ps p) p here is there
      ∙ (ap (λ (u : State). with_owned p (owned_after (process_at ps p) u) here) (part-together f p out)
      ∙ ap (λ (os : List Owned). record s { owned = os }) (merged-also f results 0 p p s.owned (omega arith)))

  together-same : (f g : ℕ → Bool) → ((k : ℕ) → f k ≡ g k) → together ps f s ≡ together ps g s
  together-same f g same = ap (λ (os : List Owned). record s { owned = os }) (merged-same f g results 0 s.owned (λ k h. same k))

-- a set, and those of a list
abbrev with_list : List ℕ → (ℕ → Bool) → ℕ → Bool
with_list order f q = is_among order q || f q

either : (a b c : Bool) → (b || (a || c)) ≡ ((a || b) || c)
either true true c = refl
either true false c = refl
either false true c = refl
either false false c = refl

-- those of the list are outside the set
abbrev AllOut : (ℕ → Bool) → List ℕ → Type 0
AllOut f [] = Unit {0}
AllOut f (p ∷ ps) = (f p ≡ false) × AllOut f ps

left : (a b : Bool) → (a || b) ≡ false → a ≡ false
left true b e = e
left false b e = refl

right : (a b : Bool) → (a || b) ≡ false → b ≡ false
right true b e = absurd cc
right false b e = e

out-also : (f : ℕ → Bool) (p : ℕ) (order : List ℕ) → is_among order p ≡ false → AllOut f order → AllOut (also p f) order
out-also f p [] absent out = tt
out-also f p (q ∷ order) absent out =
    let other : eqb q p ≡ false = left (eqb q p) (is_among order p) absent in
    let rest : is_among order p ≡ false = right (eqb q p) (is_among order p) absent in
    let turned : eqb p q ≡ false = grind (arith, nat_tests) in
    (rw turned out.0, out-also f p order rest out.1)

module _ (ps : List Process) (s : State) (all : (p : ℕ) → p < length s.owned → IsProcess (process_at ps p)) where
  from_set : (order : List ℕ) (f : ℕ → Bool) → NoRepeats order → AllByRecursion (λ (p : ℕ). p < length s.owned) order → AllOut f order
      → one_by_one ps order (together ps f s) ≡ together ps (with_list order f) s
  unfolding one_by_one
  from_set [] f once below out = refl
  from_set (p ∷ order) f once below out =
      ap (one_by_one ps order) (meaning-together ps s f p (all p below.0) out.0 below.0)
      ∙ (from_set order (also p f) once.1 below.1 (out-also f p order once.0 out.1)
      ∙ together-same ps s (with_list order (also p f)) (with_list (p ∷ order) f) (λ k. either (p == k) (is_among order k) (f k)))

none_out : (order : List ℕ) → AllOut (λ q. false) order
none_out [] = tt
none_out (p ∷ order) = (refl, none_out order)

or-false : (b : Bool) → (b || false) ≡ b
or-false true = refl
or-false false = refl

-- in any order, each once
pub in_any_order : (ps : List Process) (order : List ℕ) (s : State) → All IsProcess ps → length s.owned ≡ length ps → NoRepeats order
    → All (λ (p : ℕ). p < length s.owned) order → one_by_one ps order s ≡ together ps (is_among order) s
in_any_order ps order s is len once below =
    let none : s ≡ together ps (λ q. false) s =
    ap (λ (os : List Owned). record s { owned = os }) (sym (merged-none (λ q. false) (results ps s) 0 s.owned (λ k. refl))) in
    let all : (p : ℕ) → p < length s.owned → IsProcess (process_at ps p) = λ p h. All-get_or IsProcess ps p no_process (omega (arith, h, len)) is in
    ap (one_by_one ps order) none
    ∙ (from_set ps s all order (λ q. false) once (recursion_from_All (λ (p : ℕ). p < length s.owned) order below) (none_out order)
    ∙ together-same ps s (with_list order (λ q. false)) (is_among order) (λ k. or-false (is_among order k)))
