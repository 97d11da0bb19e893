-- The least of a list and the known number is the least of both.
use Rattle.std.proofs.Common.{◌≡◌, ℕ, ◌≤◌, List, [], ◌∷◌, Option, Some, None, min, ◌⊎◌, inl, inr, refl, subst, arith}
use Rattle.std.specs.List.{Contains}
use Rattle.sim_flat_graph.specs.Least.{IsLeast, lesser, least_of}
use Rattle.sim_flat_graph.proofs.Lists.{nothing_in, first_in, later_in, one_of, by_order}

-- the least number of an equivalent property
pub said_otherwise : (P Q : ℕ → Type 0) (o : Option ℕ) → ((n : ℕ) → P n → Q n) → ((n : ℕ) → Q n → P n) → IsLeast P o → IsLeast Q o
said_otherwise P Q None to from h = λ n q. h n (from n q)
said_otherwise P Q (Some m) to from h = (to m h.0, λ n q. h.1 n (from n q))

-- the least of the known number and one more
with_one : (P : ℕ → Type 0) (o : Option ℕ) (n : ℕ) → IsLeast P o → IsLeast (λ m. P m ⊎ (n ≡ m)) (Some (lesser o n))
with_one P None n h = (inr refl, λ m q. by_either m q)
  where
    by_either : (m : ℕ) → P m ⊎ (n ≡ m) → n ≤ m
    by_either m (inl p) = absurd (h m p)
    by_either m (inr e) = omega arith
with_one P (Some k) n h = (by_order k n (λ lt. inl (subst P (omega arith) h.0)) (λ ge. inr (omega arith)), λ m q. by_either m q)
  where
    by_either : (m : ℕ) → P m ⊎ (n ≡ m) → min k n ≤ m
    by_either m (inl p) = let a = h.1 m p in omega arith
    by_either m (inr e) = omega arith

pub with_more : (P : ℕ → Type 0) (o : Option ℕ) (ns : List ℕ) → IsLeast P o → IsLeast (λ m. P m ⊎ Contains ns m) (least_of o ns)
unfolding least_of
with_more P o [] h = said_otherwise P (λ m. P m ⊎ Contains [] m) o (λ m p. inl p) by_none h
  where
    by_none : (m : ℕ) → P m ⊎ Contains [] m → P m
    by_none m (inl p) = p
    by_none m (inr c) = nothing_in m c
with_more P o (n ∷ ns) h =
    said_otherwise (λ m. (P m ⊎ (n ≡ m)) ⊎ Contains ns m) (λ m. P m ⊎ Contains (n ∷ ns) m) (least_of (Some (lesser o n)) ns) to from
    (with_more (λ m. P m ⊎ (n ≡ m)) (Some (lesser o n)) ns (with_one P o n h))
  where
    to : (m : ℕ) → (P m ⊎ (n ≡ m)) ⊎ Contains ns m → P m ⊎ Contains (n ∷ ns) m
    to m (inl (inl p)) = inl p
    to m (inl (inr e)) = inr (subst (Contains (n ∷ ns)) e (first_in n ns))
    to m (inr c) = inr (later_in n m ns c)

    from : (m : ℕ) → P m ⊎ Contains (n ∷ ns) m → (P m ⊎ (n ≡ m)) ⊎ Contains ns m
    from m (inl p) = inl (inl p)
    from m (inr c) = from_list m (one_of n m ns c)
      where
        from_list : (m : ℕ) → (n ≡ m) ⊎ Contains ns m → (P m ⊎ (n ≡ m)) ⊎ Contains ns m
        from_list m (inl e) = inl (inr e)
        from_list m (inr c) = inr c
