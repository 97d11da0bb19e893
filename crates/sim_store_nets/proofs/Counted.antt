-- The places of drivers among the sources of nets, as they are found.
use Rattle.std.proofs.Common.{ℕ, zero, suc, ◌+◌, ◌<◌, ◌≡◌, ◌≢◌, ◌==◌, ◌++◌, ◌||◌, ◌&&◌, eqb, Bool, true, false, List, [], ◌∷◌, length, get_or, set}
use Rattle.std.proofs.Common.{take, add-one, refl, ap, sym, ◌∙◌, arith}
use Rattle.std.proofs.lemmas.Bool.Decides.{nat_tests}
use Rattle.std.proofs.lemmas.List.{get_or-set_same, get_or-set_other}
use Rattle.sim_flat_design.specs.declared.design.Source.{Source}
use Rattle.sim_store_nets.specs.Nets.{is_driver}
use Rattle.sim_store_nets.specs.Tallies.{is_placed, many, source_at}
use Rattle.sim_store_nets.proofs.Booleans.{or_false, or-assoc, and-or, at_same, at_other, eqb-suc}

-- ---- one place more

placed-append : (xs ys : List (ℕ × ℕ)) (n p : ℕ) → is_placed (xs ++ ys) n p ≡ (is_placed xs n p || is_placed ys n p)
placed-append [] ys n p = refl
placed-append (x ∷ xs) ys n p =
    let here = (x.0 == n) && (x.1 == p) in
    ap (λ b. here || b) (placed-append xs ys n p) ∙ sym (or-assoc here (is_placed xs n p) (is_placed ys n p))

pub placed-added : (places : List (List (ℕ × ℕ))) (driver net place n p d : ℕ) → d < length places
    → is_placed (get_or (set places driver (get_or places driver [] ++ (net, place) ∷ [])) d []) n p
    ≡ (is_placed (get_or places d []) n p || ((driver == d) && ((net == n) && (place == p))))
placed-added places driver net place n p d lt = go (eqb driver d) refl
  where
    more : List (ℕ × ℕ)
    more = get_or places driver [] ++ (net, place) ∷ []

    go : (b : Bool) → eqb driver d ≡ b → is_placed (get_or (set places driver more) d []) n p
        ≡ (is_placed (get_or places d []) n p || (b && ((net == n) && (place == p))))
    go true e =
        let at : driver ≡ d = grind (arith, nat_tests) in
        rw at (ap (λ w. is_placed w n p) (get_or-set_same places d (get_or places d [] ++ (net, place) ∷ []) [] lt)
        ∙ (placed-append (get_or places d []) ((net, place) ∷ []) n p
        ∙ ap (λ b. is_placed (get_or places d []) n p || b) (or_false ((net == n) && (place == p)))))
    go false e =
        let apart : d ≢ driver = grind (arith, nat_tests) in
        ap (λ w. is_placed w n p) (get_or-set_other places driver d more [] apart)
        ∙ sym (or_false (is_placed (get_or places d []) n p))

-- ---- the sources of a net, one after another

source-step : (row : List Source) (i p d : ℕ) → i < length row
    → is_driver (source_at (take (suc i) row) p) d ≡ (is_driver (source_at (take i row) p) d || (is_driver (source_at row i) d && (i == p)))
source-step [] i p d lt = absurd (omega (arith, lt))
source-step (x ∷ row) zero zero d lt = sym (at_same (is_driver x d) 0 0 refl)
source-step (x ∷ row) zero (suc p) d lt = sym (at_other (is_driver x d) 0 (suc p) (omega arith))
source-step (x ∷ row) (suc i) zero d lt =
    sym (ap (λ b. is_driver x d || b) (at_other (is_driver (source_at row i) d) (suc i) 0 (omega arith)) ∙ or_false (is_driver x d))
source-step (x ∷ row) (suc i) (suc p) d lt =
    source-step row i p d (omega (arith, lt))
    ∙ ap (λ b. is_driver (source_at (take i row) p) d || (is_driver (source_at row i) d && b)) (sym (eqb-suc i p))

both-turn : (a b c : Bool) → (a && (b && c)) ≡ ((a && c) && b)
both-turn true true true = refl
both-turn true true false = refl
both-turn true false true = refl
both-turn true false false = refl
both-turn false b c = refl

pub source-more : (row : List Source) (i p d : ℕ) (x : Source) (is_it was now new : Bool) → i < length row → x ≡ source_at row i
    → now ≡ (was || (is_driver (source_at (take i row) p) d && is_it)) → new ≡ (now || (is_driver x d && (is_it && (i == p))))
    → new ≡ (was || (is_driver (source_at (take (i + 1) row) p) d && is_it))
source-more row i p d x is_it was now new lt is e f =
    let front = is_driver (source_at (take i row) p) d in
    let here = is_driver x d in
    f ∙ (ap (λ b. b || (here && (is_it && (i == p)))) e ∙ (or-assoc was (front && is_it) (here && (is_it && (i == p)))
    ∙ ap (λ b. was || b) (ap (λ b. (front && is_it) || b) (both-turn here is_it (i == p))
    ∙ (and-or front (here && (i == p)) is_it
    ∙ ap (λ b. b && is_it) (ap (λ s. front || (is_driver s d && (i == p))) is ∙ (sym (source-step row i p d lt)
    ∙ ap (λ k. is_driver (source_at (take k row) p) d) (sym (add-one i))))))))

-- ---- nets, one after another

net-step : (rows : List (List Source)) (i n p d : ℕ) → i < length rows
    → is_driver (source_at (many (get_or (take (suc i) rows) n [])) p) d
    ≡ (is_driver (source_at (many (get_or (take i rows) n [])) p) d || (is_driver (source_at (many (get_or rows i [])) p) d && (i == n)))
net-step [] i n p d lt = absurd (omega (arith, lt))
net-step (x ∷ rows) zero zero p d lt = sym (at_same (is_driver (source_at (many x) p) d) 0 0 refl)
net-step (x ∷ rows) zero (suc n) p d lt = sym (at_other (is_driver (source_at (many x) p) d) 0 (suc n) (omega arith))
net-step (x ∷ rows) (suc i) zero p d lt =
    sym (ap (λ b. is_driver (source_at (many x) p) d || b) (at_other (is_driver (source_at (many (get_or rows i [])) p) d) (suc i) 0 (omega arith))
    ∙ or_false (is_driver (source_at (many x) p) d))
net-step (x ∷ rows) (suc i) (suc n) p d lt =
    net-step rows i n p d (omega (arith, lt))
    ∙ ap (λ b. is_driver (source_at (many (get_or (take i rows) n [])) p) d || (is_driver (source_at (many (get_or rows i [])) p) d && b))
    (sym (eqb-suc i n))

pub net-more : (rows : List (List Source)) (i n p d : ℕ) (row : List Source) (was now new : Bool) → i < length rows → row ≡ get_or rows i []
    → now ≡ (was || is_driver (source_at (many (get_or (take i rows) n [])) p) d) → new ≡ (now || (is_driver (source_at (many row) p) d && (i == n)))
    → new ≡ (was || is_driver (source_at (many (get_or (take (i + 1) rows) n [])) p) d)
net-more rows i n p d row was now new lt is e f =
    let front = is_driver (source_at (many (get_or (take i rows) n [])) p) d in
    f ∙ (ap (λ b. b || (is_driver (source_at (many row) p) d && (i == n))) e
    ∙ (or-assoc was front (is_driver (source_at (many row) p) d && (i == n))
    ∙ ap (λ b. was || b) (ap (λ r. front || (is_driver (source_at (many r) p) d && (i == n))) is ∙ (sym (net-step rows i n p d lt)
    ∙ ap (λ k. is_driver (source_at (many (get_or (take k rows) n [])) p) d) (sym (add-one i))))))

-- ---- all of it
