-- Sets held as lists of their members.
use Rattle.std.proofs.Common.{ℕ, zero, suc, ◌+◌, ◌<◌, ◌≤◌, ◌≡◌, ◌≢◌, ◌⊎◌, inl, inr, Bool, true, false, ◌||◌, List, [], ◌∷◌, ◌++◌, length}
use Rattle.std.proofs.Common.{refl, ap, ◌∙◌, sym, subst, arith, eqb, replicate}
use Rattle.std.proofs.lemmas.Bool.Decides.{nat_tests}
use Rattle.std.proofs.lemmas.List.{append-nil, append_assoc, ext_get_or, get_or_past}
use Rattle.std.proofs.lemmas.List.FromFn.{length-map-range_with_len, get_or-map-range_with_len}
use Rattle.sim_containers.specs.Numbers.{is_among, is_in, members, set_with, IsListOf, RiseWithin}
use Rattle.sim_containers.proofs.Ranges.{below, below_failed, below_next, below_passed, below_skipped}
use Rattle.sim_containers.proofs.Sets.{all_same}

side : (i n : ℕ) → (i < n) ⊎ (n ≤ i)
side i n = grind arith

-- ---- what is in a set of numbers

pub sized : (numbers : List ℕ) (bound : ℕ) → length (set_with numbers bound) ≡ bound
unfolding set_with
sized numbers bound = length-map-range_with_len (is_among numbers) 0 bound

pub in_set_with : (numbers : List ℕ) (bound n : ℕ) → n < bound → is_in (set_with numbers bound) n ≡ is_among numbers n
unfolding set_with
in_set_with numbers bound n lt = get_or-map-range_with_len (is_among numbers) 0 bound n n false lt (omega arith)

pub none_with : (bound : ℕ) → set_with [] bound ≡ replicate bound false
none_with bound = all_same (set_with [] bound) bound false (sized [] bound) (in_set_with [] bound)

-- ---- what is among the numbers that pass a test

or_assoc : (a b c : Bool) → a || (b || c) ≡ (a || b) || c
or_assoc true b c = refl
or_assoc false b c = refl

or_false : (a : Bool) → a || false ≡ a
or_false true = refl
or_false false = refl

among_both : (xs ys : List ℕ) (m : ℕ) → is_among (xs ++ ys) m ≡ is_among xs m || is_among ys m
among_both [] ys m = refl
among_both (x ∷ xs) ys m = ap (λ (b : Bool). eqb x m || b) (among_both xs ys m) ∙ or_assoc (eqb x m) (is_among xs m) (is_among ys m)

differs : (n m : ℕ) → n ≢ m → eqb n m ≡ false
differs n m differ = grind (arith, nat_tests)

same : (n m : ℕ) → n ≡ m → eqb n m ≡ true
same n m e = grind (arith, nat_tests)

among_last : (xs : List ℕ) (n m : ℕ) → n ≢ m → is_among (xs ++ n ∷ []) m ≡ is_among xs m
among_last xs n m differ =
    among_both xs (n ∷ []) m ∙ (ap (λ (b : Bool). is_among xs m || (b || false)) (differs n m differ) ∙ or_false (is_among xs m))

not_among_below : (p : ℕ → Bool) (n m : ℕ) → n ≤ m → is_among (below p n) m ≡ false
not_among_below p zero m le = refl
not_among_below p (suc n) m le = go (not_among_below p n m (omega (arith, le))) (p n) refl
  where
    go : is_among (below p n) m ≡ false → (b : Bool) → p n ≡ b → is_among (below p (suc n)) m ≡ false
    go before true h = ap (λ (xs : List ℕ). is_among xs m) (below_passed p n h) ∙ (among_last (below p n) n m (omega (arith, le)) ∙ before)
    go before false h = ap (λ (xs : List ℕ). is_among xs m) (below_failed p n h) ∙ before

among_below : (p : ℕ → Bool) (n m : ℕ) → m < n → is_among (below p n) m ≡ p m
among_below p zero m lt = absurd (omega (arith, lt))
among_below p (suc n) m lt = go (among_below p n m) (p n) (eqb m n) refl refl
  where
    go : (m < n → is_among (below p n) m ≡ p m) → (b c : Bool) → p n ≡ b → eqb m n ≡ c → is_among (below p (suc n)) m ≡ p m
    go before true true h q =
        let at : n ≡ m = grind (arith, nat_tests) in
        ap (λ (xs : List ℕ). is_among xs m) (below_passed p n h)
        ∙ (among_both (below p n) (n ∷ []) m
        ∙ (ap (λ (b : Bool). b || (eqb n m || false)) (not_among_below p n m (omega (arith, at)))
        ∙ (ap (λ (b : Bool). b || false) (same n m at) ∙ (sym h ∙ ap p at))))
    go before true false h q =
        let differ : n ≢ m = grind (arith, nat_tests) in
        ap (λ (xs : List ℕ). is_among xs m) (below_passed p n h)
        ∙ (among_last (below p n) n m differ ∙ before (omega (arith, lt, differ)))
    go before false true h q =
        let at : n ≡ m = grind (arith, nat_tests) in
        ap (λ (xs : List ℕ). is_among xs m) (below_failed p n h) ∙ (not_among_below p n m (omega (arith, at)) ∙ (sym h ∙ ap p at))
    go before false false h q =
        let differ : n ≢ m = grind (arith, nat_tests) in
        ap (λ (xs : List ℕ). is_among xs m) (below_failed p n h) ∙ before (omega (arith, lt, differ))

-- the set of the members of a set is this set
pub as_it_stands : (set' : List Bool) → set_with (members set') (length set') ≡ set'
as_it_stands set' = ext_get_or false (set_with (members set') (length set')) set' (sized (members set') (length set')) (λ m lt.
    let within : m < length set' = omega (arith, lt, sized (members set') (length set')) in
    in_set_with (members set') (length set') m within ∙ among_below (is_in set') (length set') m within)

-- ---- numbers that rise

not_before : (a b : ℕ) (ns : List ℕ) → RiseWithin a b ns → (m : ℕ) → m < a → is_among ns m ≡ false
not_before a b [] rise m lt = refl
not_before a b (n ∷ ns) (from, within, rest) m lt =
    ap (λ (c : Bool). c || is_among ns m) (differs n m (omega (arith, from, lt))) ∙ not_before (suc n) b ns rest m (omega (arith, from, lt))

pub not_beyond : (a b : ℕ) (ns : List ℕ) → RiseWithin a b ns → (m : ℕ) → b ≤ m → is_among ns m ≡ false
not_beyond a b [] rise m ge = refl
not_beyond a b (n ∷ ns) (from, within, rest) m ge =
    ap (λ (c : Bool). c || is_among ns m) (differs n m (omega (arith, within, ge))) ∙ not_beyond (suc n) b ns rest m ge

-- those that pass are these numbers
risen : (p : ℕ → Bool) (a b : ℕ) (ns : List ℕ) → RiseWithin a b ns → a ≤ b → ((j : ℕ) → a ≤ j → j < b → p j ≡ is_among ns j)
    → below p b ≡ below p a ++ ns
risen p a b [] rise le test = sym (below_skipped p a b le test) ∙ sym (append-nil (below p a))
risen p a b (n ∷ ns) (from, within, rest) le test =
    let here : p n ≡ true = test n from within ∙ ap (λ (c : Bool). c || is_among ns n) (same n n refl) in
    let before : (j : ℕ) → a ≤ j → j < n → p j ≡ false = λ j ge lt. test j ge (omega (arith, lt, within))
    ∙ (ap (λ (c : Bool). c || is_among ns j) (differs n j (omega (arith, lt))) ∙ not_before (suc n) b ns rest j (omega (arith, lt))) in
    let after : (j : ℕ) → suc n ≤ j → j < b → p j ≡ is_among ns j = λ j ge lt. test j (omega (arith, ge, from)) lt
    ∙ ap (λ (c : Bool). c || is_among ns j) (differs n j (omega (arith, ge))) in
    risen p (suc n) b ns rest (omega (arith, within)) after
    ∙ (ap (λ (xs : List ℕ). xs ++ ns) (below_next p a n (suc n) (omega arith) from before here) ∙ append_assoc (below p a) (n ∷ []) ns)

pub members_rise : (numbers : List ℕ) (bound : ℕ) → RiseWithin 0 bound numbers → numbers ≡ members (set_with numbers bound)
members_rise numbers bound rise =
    sym (ap (below (is_in (set_with numbers bound))) (sized numbers bound)
    ∙ risen (is_in (set_with numbers bound)) 0 bound numbers rise (omega arith) (λ j _ lt. in_set_with numbers bound j lt))

-- a number is in the set of numbers that rise if it is among them
pub in_risen : (numbers : List ℕ) (bound : ℕ) → RiseWithin 0 bound numbers → (n : ℕ) → is_in (set_with numbers bound) n ≡ is_among numbers n
in_risen numbers bound rise n = go (side n bound)
  where
    go : (n < bound) ⊎ (bound ≤ n) → is_in (set_with numbers bound) n ≡ is_among numbers n
    go (inl lt) = in_set_with numbers bound n lt
    go (inr ge) = get_or_past (set_with numbers bound) n false (omega (arith, ge, sized numbers bound)) ∙ sym (not_beyond 0 bound numbers rise n ge)

few_rising : (a b : ℕ) (ns : List ℕ) → RiseWithin a b ns → a ≤ b → length ns + a ≤ b
few_rising a b [] rise le = omega (arith, le)
few_rising a b (n ∷ ns) (from, within, rest) le = let more = few_rising (suc n) b ns rest (omega (arith, within)) in omega (arith, more, from)

pub few : (bound : ℕ) (ns : List ℕ) → RiseWithin 0 bound ns → length ns ≤ bound
few bound ns rise = let all = few_rising 0 bound ns rise (omega arith) in omega (arith, all)

-- ---- lists of members

pub rising_list : (numbers : List ℕ) (capacity bound : ℕ) → RiseWithin 0 bound numbers → bound ≤ capacity → IsListOf numbers capacity bound
rising_list numbers capacity bound rise room = record { listed = members_rise numbers bound rise; room = room }

pub list_of_set : (set' : List Bool) (numbers : List ℕ) (capacity bound : ℕ) → numbers ≡ members set' → length set' ≡ bound → bound ≤ capacity
    → IsListOf numbers capacity bound
list_of_set set' numbers capacity bound e len room = record {
  listed = e ∙ (ap members (sym (as_it_stands set')) ∙ (ap (λ (n : ℕ). members (set_with (members set') n)) len
      ∙ ap (λ (xs : List ℕ). members (set_with xs bound)) (sym e)));
  room = room;
}

pub set_of_list : (set' : List Bool) (numbers : List ℕ) (bound : ℕ) → numbers ≡ members set' → length set' ≡ bound → set_with numbers bound ≡ set'
set_of_list set' numbers bound e len =
    ap (λ (xs : List ℕ). set_with xs bound) e ∙ (ap (set_with (members set')) (sym len) ∙ as_it_stands set')

-- a single number
pub one_in : (x bound n : ℕ) → n < bound → is_in (set_with (x ∷ []) bound) n ≡ eqb x n
one_in x bound n lt = in_set_with (x ∷ []) bound n lt ∙ or_false (eqb x n)

pub one_not_in : (x bound n : ℕ) → bound ≤ x → n < bound → is_in (set_with [] bound) n ≡ eqb x n
one_not_in x bound n ge lt = in_set_with [] bound n lt ∙ sym (differs x n (omega (arith, ge, lt)))

-- ---- the bound of a list of numbers

pub within_bound : (own : List ℕ) (bound : ℕ) (set' : List Bool) (ns : List ℕ) → set_with own bound ≡ set' → RiseWithin 0 (length set') ns
    → RiseWithin 0 bound ns
within_bound own bound set' ns e rises = subst (λ (b : ℕ). RiseWithin 0 b ns) (sym (ap length e) ∙ sized own bound) rises

pub within_length : (own : List ℕ) (bound : ℕ) (set' : List Bool) (ns : List ℕ) → set_with own bound ≡ set' → RiseWithin 0 bound ns
    → RiseWithin 0 (length set') ns
within_length own bound set' ns e rises = subst (λ (b : ℕ). RiseWithin 0 b ns) (sym (sized own bound) ∙ ap length e) rises
