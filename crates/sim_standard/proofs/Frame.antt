-- The frame of a process: executed on the whole state it leaves what it leaves of its part.
use Rattle.std.proofs.Common.{◌≡◌, ◌<◌, ◌+◌, ℕ, suc, List, [], ◌∷◌, Bool, true, false, if◌then◌else◌, length, get_or, refl, sym, ap, ◌∙◌, subst}
use Rattle.std.proofs.Common.{arith, eqb, ltb, eqb-true}
use Rattle.std.proofs.lemmas.Bool.Decides.{nat_tests}
use Rattle.std.proofs.lemmas.List.{get_or-map}
use Rattle.sim_flat_design.specs.Bodies.{objects_of}
use Rattle.sim_flat_design.specs.Processes.{Process, IsProcess, rising, with_number, nets_of}
use Rattle.sim_standard.specs.State.{State, Owned, net_at, owned_at}
use Rattle.sim_standard.specs.Statements.{executed}
use Rattle.sim_standard.specs.Processes.{seen, object_net, meaning, part, place_in, owned_after}
use Rattle.sim_standard.proofs.Names.{no_net, with_owned}
use Rattle.sim_standard.proofs.Alongside.{Each}
use Rattle.sim_standard.proofs.Owning.{part_net, only_owned, owned_after_is}
use Rattle.sim_standard.proofs.Seeing.{Alike, executed_same}

-- a number is at its place
abbrev IsPlaced : List ℕ → ℕ → Type 0
IsPlaced xs n = (place_in xs n < length xs) × (get_or xs (place_in xs n) 0 ≡ n)

-- one place further on, with a number in front
next_at : (k x : ℕ) (xs : List ℕ) → get_or (x ∷ xs) (k + 1) 0 ≡ get_or xs k 0
next_at k x xs = let further : k + 1 ≡ suc k = omega arith in rw further refl

-- with a number in front of others, those are still at their places
after_one : (x n : ℕ) (xs : List ℕ) → IsPlaced xs n → IsPlaced (x ∷ xs) n
unfolding place_in
after_one x n xs h = go (eqb x n) refl
  where
    go : (b : Bool) → eqb x n ≡ b → let at : ℕ = if b then 0 else place_in xs n + 1 in (at < length (x ∷ xs)) × (get_or (x ∷ xs) at 0 ≡ n)
    go true e = (omega arith, eqb-true x n e)
    go false e = (omega (arith, h.0), next_at (place_in xs n) x xs ∙ h.1)

eqb_same : (n : ℕ) → eqb n n ≡ true
eqb_same n = grind (arith, nat_tests)

at_front : (n : ℕ) (xs : List ℕ) → IsPlaced (n ∷ xs) n
unfolding place_in
at_front n xs = go (eqb n n) refl
  where
    go : (b : Bool) → eqb n n ≡ b → let at : ℕ = if b then 0 else place_in xs n + 1 in (at < length (n ∷ xs)) × (get_or (n ∷ xs) at 0 ≡ n)
    go true e = (omega arith, refl)
    go false e = absurd (cc (eqb_same n, e))

-- what is placed and is not the first is placed among the others
in_rest : (x m : ℕ) (xs : List ℕ) → eqb x m ≡ false → IsPlaced (x ∷ xs) m → IsPlaced xs m
unfolding place_in
in_rest x m xs e h =
    let at : (if eqb x m then 0 else place_in xs m + 1) ≡ place_in xs m + 1 = rw e refl in
    let there : get_or (x ∷ xs) (place_in xs m + 1) 0 ≡ m = subst (λ (i : ℕ). get_or (x ∷ xs) i 0 ≡ m) at h.1 in
    let low : place_in xs m + 1 < length (x ∷ xs) = subst (λ (i : ℕ). i < length (x ∷ xs)) at h.0 in
    (omega (arith, low), sym (next_at (place_in xs m) x xs) ∙ there)

-- in front of a list that keeps a number at a place, whether it is the first or not
still_after : (x m : ℕ) (xs ys : List ℕ) → (IsPlaced xs m → IsPlaced ys m) → IsPlaced (x ∷ xs) m → IsPlaced (x ∷ ys) m
still_after x m xs ys more h = go (eqb x m) refl
  where
    go : (b : Bool) → eqb x m ≡ b → IsPlaced (x ∷ ys) m
    go true e = subst (λ (k : ℕ). IsPlaced (x ∷ ys) k) (eqb-true x m e) (at_front x ys)
    go false e = after_one x m ys (more (in_rest x m xs e h))

-- one more number keeps the others at places
still : (m n : ℕ) (xs : List ℕ) → IsPlaced xs m → IsPlaced (with_number n xs) m
unfolding with_number
still m n [] h = absurd (omega (arith, h.0))
still m n (x ∷ xs) h = go (eqb n x) (ltb n x) h (after_one n m (x ∷ xs) h) (still_after x m xs (with_number n xs) (still m n xs) h)
  where
    go : (e l : Bool) → IsPlaced (x ∷ xs) m → IsPlaced (n ∷ x ∷ xs) m → IsPlaced (x ∷ with_number n xs) m
        → IsPlaced (if e then x ∷ xs else (if l then n ∷ x ∷ xs else x ∷ with_number n xs)) m
    go true l p q r = p
    go false true p q r = q
    go false false p q r = r

-- and is at one itself
placed : (n : ℕ) (xs : List ℕ) → IsPlaced (with_number n xs) n
unfolding with_number
placed n [] = at_front n []
placed n (x ∷ xs) = go (eqb n x) (ltb n x) refl (after_one x n (with_number n xs) (placed n xs))
  where
    go : (e l : Bool) → eqb n x ≡ e → IsPlaced (x ∷ with_number n xs) n → IsPlaced (if e then x ∷ xs else (if l then n ∷ x ∷ xs else x ∷ with_number n xs)) n
    go true l e r = subst (λ (k : ℕ). IsPlaced (x ∷ xs) k) (sym (eqb-true n x e)) (at_front x xs)
    go false true e r = at_front n (x ∷ xs)
    go false false e r = r

each_still : (n : ℕ) (xs ms : List ℕ) → Each (IsPlaced xs) ms → Each (IsPlaced (with_number n xs)) ms
each_still n xs [] h = tt
each_still n xs (m ∷ ms) h = (still m n xs h.0, each_still n xs ms h.1)

-- all numbers of a list are at places in the list that rises
all_placed : (ns : List ℕ) → Each (IsPlaced (rising ns)) ns
unfolding rising
all_placed [] = tt
all_placed (n ∷ ns) = (placed n (rising ns), each_still n (rising ns) ns (all_placed ns))

-- ---- what a process sees of its part is what it sees of the whole state

module _ (p : Process) (number : ℕ) (s : State) where
  seen_alike : (objects : List ℕ) → Each (IsPlaced p.reads) (nets_of p.nets objects)
      → Each (Alike (seen (object_net p) s) (seen (part_net p) (part p number s))) objects
  seen_alike [] h = tt
  seen_alike (k ∷ ks) h =
      (sym (get_or-map (net_at s.nets) p.reads (place_in p.reads (object_net p k)) 0 no_net h.0.0 ∙ ap (net_at s.nets) h.0.1), seen_alike ks h.1)

  -- so it leaves the same
  pub same_owned_after : IsProcess p → executed (seen (object_net p) s) s.time p.body.statements (owned_at s.owned number)
      ≡ owned_after p (part p number s)
  same_owned_after is =
      let objects = objects_of p.body.statements in
      let places = subst (λ (xs : List ℕ). Each (IsPlaced xs) (nets_of p.nets objects)) (sym is.reads) (all_placed (nets_of p.nets objects)) in
      executed_same (seen (object_net p) s) (seen (part_net p) (part p number s)) s.time p.body.statements (owned_at s.owned number)
      (seen_alike objects places)
      ∙ sym (owned_after_is p (part p number s) (omega arith))

  pub the_frame : IsProcess p → number < length s.owned → meaning p number s ≡ with_owned number (owned_after p (part p number s)) s
  unfolding meaning
  the_frame is h = only_owned (object_net p) number s h p.body.statements ∙ ap (λ (o : Owned). with_owned number o s) (same_owned_after is)
