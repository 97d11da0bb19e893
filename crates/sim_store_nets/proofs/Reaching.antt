-- Which nets the drivers reach.
use Rattle.std.proofs.Common.{ℕ, zero, suc, ◌+◌, ◌<◌, ◌≡◌, ◌==◌, ◌++◌, ◌||◌, ◌&&◌, Bool, List, [], ◌∷◌, length, get_or}
use Rattle.std.proofs.Common.{take, add-one, refl, ap, sym, ◌∙◌, arith}
use Rattle.std.proofs.lemmas.List.{take_more}
use Rattle.sim_flat_design.specs.declared.design.Source.{Source}
use Rattle.sim_store_nets.specs.Nets.{is_driver, is_source}
use Rattle.sim_store_nets.proofs.Booleans.{or_false, or-assoc, and-or, at_same, at_other, eqb-suc}

fan_out-append : (xs ys : List Source) (d : ℕ) → is_source (xs ++ ys) d ≡ (is_source xs d || is_source ys d)
fan_out-append [] ys d = refl
fan_out-append (x ∷ xs) ys d = ap (λ b. is_driver x d || b) (fan_out-append xs ys d) ∙ sym (or-assoc (is_driver x d) (is_source xs d) (is_source ys d))

fan_out-more : (xs : List Source) (i d : ℕ) (x y : Source) → i < length xs → x ≡ get_or xs i y
    → is_source (take (i + 1) xs) d ≡ (is_source (take i xs) d || is_driver x d)
fan_out-more xs i d x y lt is =
    ap (λ w. is_source w d) (take_more xs i y lt) ∙ (fan_out-append (take i xs) (get_or xs i y ∷ []) d
    ∙ ap (λ b. is_source (take i xs) d || b) (or_false (is_driver (get_or xs i y) d) ∙ ap (λ s. is_driver s d) (sym is)))

-- one more source of a net
pub sources-more : (sources : List Source) (i d : ℕ) (x y : Source) (is_it was now new : Bool) → i < length sources → x ≡ get_or sources i y
    → now ≡ (was || (is_source (take i sources) d && is_it)) → new ≡ (now || (is_driver x d && is_it))
    → new ≡ (was || (is_source (take (i + 1) sources) d && is_it))
sources-more sources i d x y is_it was now new lt is e f =
    let front = is_source (take i sources) d in
    f ∙ (ap (λ b. b || (is_driver x d && is_it)) e ∙ (or-assoc was (front && is_it) (is_driver x d && is_it)
    ∙ ap (λ b. was || b) (and-or front (is_driver x d) is_it ∙ ap (λ b. b && is_it) (sym (fan_out-more sources i d x y lt is)))))

-- one more net
row-step : (rows : List (List Source)) (i n d : ℕ) → i < length rows
    → is_source (get_or (take (suc i) rows) n []) d ≡ (is_source (get_or (take i rows) n []) d || (is_source (get_or rows i []) d && (i == n)))
row-step [] i n d lt = absurd (omega arith)
row-step (x ∷ rows) zero zero d lt = sym (at_same (is_source x d) 0 0 refl)
row-step (x ∷ rows) zero (suc n) d lt = sym (at_other (is_source x d) 0 (suc n) (omega arith))
row-step (x ∷ rows) (suc i) zero d lt =
    sym (ap (λ b. is_source x d || b) (at_other (is_source (get_or rows i []) d) (suc i) 0 (omega arith)) ∙ or_false (is_source x d))
row-step (x ∷ rows) (suc i) (suc n) d lt =
    row-step rows i n d (omega arith) ∙ ap (λ b. is_source (get_or (take i rows) n []) d || (is_source (get_or rows i []) d && b)) (sym (eqb-suc i n))

pub rows-more : (rows : List (List Source)) (i n d : ℕ) (row : List Source) (was now new : Bool) → i < length rows → row ≡ get_or rows i []
    → now ≡ (was || is_source (get_or (take i rows) n []) d) → new ≡ (now || (is_source row d && (i == n)))
    → new ≡ (was || is_source (get_or (take (i + 1) rows) n []) d)
rows-more rows i n d row was now new lt is e f =
    let front = is_source (get_or (take i rows) n []) d in
    f ∙ (ap (λ b. b || (is_source row d && (i == n))) e ∙ (or-assoc was front (is_source row d && (i == n))
    ∙ ap (λ b. was || b) (ap (λ r. front || (is_source r d && (i == n))) is ∙ (sym (row-step rows i n d lt)
    ∙ ap (λ k. is_source (get_or (take k rows) n []) d) (sym (add-one i))))))

-- ---- the value of a net depends on the values of its drivers alone
