-- The reverse graph: the numbers reached in it are those that reach.
use Rattle.std.proofs.Common.{◌≡◌, ℕ, zero, suc, ◌+◌, ◌==◌, ◌<◌, ◌↔◌, List, [], ◌∷◌, ◌++◌, Bool, true, false, length, get_or, ◌⊎◌, inl, inr}
use Rattle.std.proofs.Common.{refl, ap, sym, ◌∙◌, subst, arith, All, if◌then◌else◌, drop, append-nil, ◌≤◌}
use Rattle.std.specs.List.{Contains}
use Rattle.std.proofs.lemmas.Bool.{eqb-true, eq-eqb}
use Rattle.std.proofs.lemmas.List.Elements.{All-from_get_or, Contains-append_left, Contains-append_right, Contains-append_cases, Contains-get_or}
use Rattle.std.proofs.lemmas.List.{get_or_past, drop_all}
use Rattle.sim_flat_graph.specs.Graph.{Graph, successors, Reaches, Here, Along, IsWhole, each_time, leading}
use Rattle.sim_flat_graph.proofs.Lists.{by_cases, by_order, nothing_in, first_in, later_in, one_of}
use Rattle.sim_flat_graph.proofs.Searches.{one_step}

-- ---- a row of it
IsTime : ℕ → ℕ → List ℕ → ℕ → Type 0
IsTime from to ns x = (x ≡ from) × Contains ns to

time_on : (from to n : ℕ) (ns : List ℕ) (x : ℕ) → IsTime from to ns x → IsTime from to (n ∷ ns) x
unfolding IsTime
time_on from to n ns x h = (h.0, later_in n to ns h.1)

time_now : (from to n : ℕ) (ns : List ℕ) (x : ℕ) → n == to ≡ true → (from ≡ x) ⊎ IsTime from to ns x → IsTime from to (n ∷ ns) x
unfolding IsTime
time_now from to n ns x t (inl e) = (sym e, subst (Contains (n ∷ ns)) (eqb-true n to t) (first_in n ns))
time_now from to n ns x t (inr h) = time_on from to n ns x h

or_later : {A B C : Type 0} → (B → C) → A ⊎ B → A ⊎ C
or_later f (inl a) = inl a
or_later f (inr b) = inr (f b)

time_of : (from to : ℕ) (ns : List ℕ) (x : ℕ) → Contains (each_time from to ns) x → IsTime from to ns x
unfolding each_time
time_of from to [] x c = nothing_in x c
time_of from to (n ∷ ns) x c = by_bit (n == to) refl (time_of from to ns x) c
  where
    by_bit : (b : Bool) → n == to ≡ b → (Contains (each_time from to ns) x → IsTime from to ns x)
        → Contains (if b then from ∷ each_time from to ns else each_time from to ns) x → IsTime from to (n ∷ ns) x
    by_bit true t rest c = time_now from to n ns x t (or_later rest (one_of from x (each_time from to ns) c))
    by_bit false t rest c = time_on from to n ns x (rest c)

time_there : (from to : ℕ) (ns : List ℕ) → Contains ns to → Contains (each_time from to ns) from
unfolding each_time
time_there from to [] c = nothing_in to c
time_there from to (n ∷ ns) c =
    by_cases (n == to)
    (λ t. rw t (first_in from (each_time from to ns)))
    (λ t. rw t (time_there from to ns (later t (one_of n to ns c))))
  where
    later : n == to ≡ false → (n ≡ to) ⊎ Contains ns to → Contains ns to
    later t (inl e) = let y : n == to ≡ true = eq-eqb n to e in absurd (cc)
    later t (inr h) = h

-- ---- all rows of it
pub record Leads (g : Graph) (to at x : ℕ) : Type 0 where
  pub place : ℕ
  pub is : x ≡ at + place
  pub below : place < length g
  pub among : Contains (successors g place) to

leads_now : (ns : List ℕ) (g : Graph) (to at x : ℕ) → (x ≡ at) × Contains ns to → Leads (ns ∷ g) to at x
leads_now ns g to at x h = record { place = 0; is = (let e = h.0 in omega arith); below = omega arith; among = h.1 }

leads_on : (ns : List ℕ) (g : Graph) (to at x : ℕ) → Leads g to (at + 1) x → Leads (ns ∷ g) to at x
leads_on ns g to at x h = record {
  place = suc h.place;
  is = (let e = h.is in omega arith);
  below = (let e = h.below in omega arith);
  among = h.among;
}

leads_either : (ns : List ℕ) (g : Graph) (to at x : ℕ) → IsTime at to ns x ⊎ Leads g to (at + 1) x → Leads (ns ∷ g) to at x
unfolding IsTime
leads_either ns g to at x (inl h) = leads_now ns g to at x h
leads_either ns g to at x (inr h) = leads_on ns g to at x h

both_ways : {A B C D : Type 0} → (A → C) → (B → D) → A ⊎ B → C ⊎ D
both_ways f g (inl a) = inl (f a)
both_ways f g (inr b) = inr (g b)

leading_is : (to at : ℕ) (g : Graph) (x : ℕ) → Contains (leading to at g) x → Leads g to at x
unfolding leading
leading_is to at [] x c = nothing_in x c
leading_is to at (ns ∷ g) x c =
    leads_either ns g to at x
    (both_ways (time_of at to ns x) (leading_is to (at + 1) g x) (Contains-append_cases (each_time at to ns) (leading to (at + 1) g) x c))

leading_there : (to at k : ℕ) (g : Graph) → k < length g → Contains (successors g k) to → Contains (leading to at g) (at + k)
unfolding leading
leading_there to at k [] lt c = absurd (omega arith)
leading_there to at zero (ns ∷ g) lt c =
    let e : at ≡ at + 0 = omega arith in
    subst (Contains (leading to at (ns ∷ g))) e (Contains-append_left (each_time at to ns) (leading to (at + 1) g) at (time_there at to ns c))
leading_there to at (suc k) (ns ∷ g) lt c =
    let e : at + 1 + k ≡ at + suc k = omega arith in
    subst (Contains (leading to at (ns ∷ g))) e
    (Contains-append_right (each_time at to ns) (leading to (at + 1) g) (at + 1 + k) (leading_there to (at + 1) k g (omega arith) c))

-- ---- the whole graph
module _ (g back : Graph) (same : length back ≡ length g) (rows : (n : ℕ) → successors back n ≡ leading n 0 g) where
  edge_back : (a b : ℕ) → Contains (successors back b) a → Contains (successors g a) b
  edge_back a b c =
      let h = leading_is b 0 g a (subst (λ (xs : List ℕ). Contains xs a) (rows b) c) in
      let e : h.place ≡ a = (let e = h.is in omega arith) in
      subst (λ (k : ℕ). Contains (successors g k) b) e h.among

  edge_on : (a b : ℕ) → a < length g → Contains (successors g a) b → Contains (successors back b) a
  edge_on a b lt c =
      let e : 0 + a ≡ a = omega arith in
      subst (λ (xs : List ℕ). Contains xs a) (sym (rows b)) (subst (Contains (leading b 0 g)) e (leading_there b 0 a g lt c))

  there : (a b : ℕ) → Contains (successors g a) b → a < length g
  there a b c = by_order a (length g) (λ lt. lt) (λ past. nothing_in b (subst (λ (xs : List ℕ). Contains xs b) (get_or_past g a [] past) c))

  to_back : (c a : ℕ) → Reaches g c a → Reaches back a c
  to_back c a Here = Here
  to_back c a (Along x next among rest) = one_step back next a c (to_back c next rest) (edge_on a next (there a next among) among)

  from_back : (a c : ℕ) → Reaches back a c → Reaches g c a
  from_back a c Here = Here
  from_back a c (Along x next among rest) = one_step g next c a (from_back a next rest) (edge_back next c among)

  pub reached_back : (a c : ℕ) → Reaches back a c ↔ Reaches g c a
  reached_back a c = (from_back a c, to_back c a)

  pub back_whole : IsWhole back
  back_whole =
      All-from_get_or (λ (ns : List ℕ). All (λ (n : ℕ). n < length back) ns) back []
      (λ k lt j e less.
      let x = get_or (successors back k) j e in
      let a = there x k (edge_back x k (Contains-get_or (successors back k) j e less)) in
      omega arith)

-- the rows at the end of the loop
pub rows_at_end : (g back : Graph) (i : ℕ) → length g ≤ i → ((n : ℕ) → successors back n ++ leading n i (drop i g) ≡ leading n 0 g) → (n : ℕ)
    → successors back n ≡ leading n 0 g
unfolding leading
rows_at_end g back i past h n =
    sym (append-nil (successors back n)) ∙ (ap (λ (rest : Graph). successors back n ++ leading n i rest) (sym (drop_all i g past)) ∙ h n)
