-- What an inertial delay keeps is a front and a back of the old transactions.
use Rattle.std.proofs.Common.{ℕ, zero, suc, ◌-◌, ◌<◌, ◌≤◌, ◌≡◌, ◌≢◌, ltb, Bool, true, false, ◌&&◌, ◌||◌, List, [], ◌∷◌, ◌++◌, length, take, drop, refl, ap}
use Rattle.std.proofs.Common.{sym, ◌∙◌, subst, arith}
use Rattle.std.proofs.lemmas.Bool.Decides.{nat_tests}
use Rattle.std.proofs.lemmas.List.{get_or-take, length-take-le}
use Rattle.sim_logic.specs.declared.logic.Logic.{Logic}
use Rattle.sim_logic.specs.declared.logic.Logic.TheVariants.{U}
use Rattle.sim_logic.specs.Logic.{is_same}
use Rattle.sim_logic.proofs.SameValues.{is_same_from_same, is_same_from_other}
use Rattle.sim_standard.specs.Drivers.{Transaction, transaction_at}
use Rattle.sim_standard.specs.Editing.{is_marked, marked_of}

pub or-true : (b : Bool) {c : Bool} → c ≡ true → (b || c) ≡ true
or-true true e = refl
or-true false e = e

and-false : (b : Bool) → (b && false) ≡ false
and-false true = refl
and-false false = refl

-- an early one is marked
pub early-marked : (limit : ℕ) (v : Logic) (x : Transaction) (xs : List Transaction) → x.0 < limit → is_marked limit v x xs ≡ true
early-marked limit v x [] h = let t : ltb x.0 limit ≡ true = grind (arith, nat_tests) in rw t
early-marked limit v x (y ∷ ys) h = let t : ltb x.0 limit ≡ true = grind (arith, nat_tests) in rw t

-- each of a chain of the new value is marked
pub chain-marked : (limit : ℕ) (v : Logic) (x : Transaction) (xs : List Transaction) → ((k : ℕ) → k < length (x ∷ xs) → (transaction_at (x ∷ xs) k).1 ≡ v)
    → is_marked limit v x xs ≡ true
chain-marked limit v x [] h = or-true (ltb x.0 limit) (is_same_from_same x.1 v (h 0 (omega arith)))
chain-marked limit v x (y ∷ ys) h =
    let e : x.1 ≡ v = h 0 (omega arith) in
    let f : y.1 ≡ v = h 1 (omega arith) in
    let t : is_same x.1 y.1 ≡ true = is_same_from_same x.1 y.1 (e ∙ sym f) in
    let ih : is_marked limit v y ys ≡ true = chain-marked limit v y ys (λ k l. h (suc k) (omega arith)) in
    or-true (ltb x.0 limit) (ap (λ (b : Bool). b && is_marked limit v y ys) t ∙ ih)

-- one that is not before the limit, and before a break of the chain, is not marked
pub late-unmarked : (limit : ℕ) (v : Logic) (c : ℕ) (x : Transaction) (xs : List Transaction) → c < length (x ∷ xs)
    → ((k : ℕ) → k ≤ c → limit ≤ (transaction_at (x ∷ xs) k).0)
    → (transaction_at (x ∷ xs) c).1 ≢ v
    → ((k : ℕ) → c < k → k < length (x ∷ xs) → (transaction_at (x ∷ xs) k).1 ≡ v)
    → is_marked limit v x xs ≡ false
late-unmarked limit v zero x [] lt late broken chain =
    let l : limit ≤ x.0 = late 0 (omega arith) in
    let s : ltb x.0 limit ≡ false = grind (arith, nat_tests) in
    ap (λ (b : Bool). b || is_same x.1 v) s ∙ is_same_from_other x.1 v broken
late-unmarked limit v (suc c) x [] lt late broken chain = absurd (omega arith)
late-unmarked limit v zero x (y ∷ ys) lt late broken chain =
    let l : limit ≤ x.0 = late 0 (omega arith) in
    let s : ltb x.0 limit ≡ false = grind (arith, nat_tests) in
    let e : y.1 ≡ v = chain 1 (omega arith) (omega arith) in
    let t : is_same x.1 y.1 ≡ false = is_same_from_other x.1 y.1 (λ p. broken (p ∙ e)) in
    ap (λ (b : Bool). b || (is_same x.1 y.1 && is_marked limit v y ys)) s ∙ ap (λ (b : Bool). b && is_marked limit v y ys) t
late-unmarked limit v (suc c) x (y ∷ ys) lt late broken chain =
    let l : limit ≤ x.0 = late 0 (omega arith) in
    let s : ltb x.0 limit ≡ false = grind (arith, nat_tests) in
    let ih : is_marked limit v y ys ≡ false = late-unmarked limit v c y ys (omega arith) (λ k h. late (suc k) (omega arith)) broken
    (λ k g h. chain (suc k) (omega arith) (omega arith)) in
    ap (λ (b : Bool). b || (is_same x.1 y.1 && is_marked limit v y ys)) s
    ∙ (ap (λ (b : Bool). is_same x.1 y.1 && b) ih ∙ and-false (is_same x.1 y.1))

marked_of-chain : (limit : ℕ) (v : Logic) (xs : List Transaction) → ((k : ℕ) → k < length xs → (transaction_at xs k).1 ≡ v) → marked_of limit v xs ≡ xs
marked_of-chain limit v [] h = refl
marked_of-chain limit v (x ∷ xs) h =
    rw (chain-marked limit v x xs h) (ap (λ (w : List Transaction). x ∷ w) (marked_of-chain limit v xs (λ k l. h (suc k) (omega arith))))

marked_of-late : (limit : ℕ) (v : Logic) (c : ℕ) (xs : List Transaction) → c ≤ length xs
    → ((k : ℕ) → k < c → limit ≤ (transaction_at xs k).0)
    → ((k : ℕ) → c ≡ suc k → (transaction_at xs k).1 ≢ v)
    → ((k : ℕ) → c ≤ k → k < length xs → (transaction_at xs k).1 ≡ v)
    → marked_of limit v xs ≡ drop c xs
marked_of-late limit v zero xs le late broken chain = marked_of-chain limit v xs (λ k l. chain k (omega arith) l)
marked_of-late limit v (suc c) [] le late broken chain = absurd (omega arith)
marked_of-late limit v (suc c) (x ∷ xs) le late broken chain =
    let no : is_marked limit v x xs ≡ false = late-unmarked limit v c x xs (omega arith) (λ k h. late k (omega arith)) (broken c refl)
    (λ k g h. chain k (omega arith) h) in
    rw no (marked_of-late limit v c xs (omega arith) (λ k l. late (suc k) (omega arith)) (λ k e. broken (suc k) (ap suc e))
    (λ k g h. chain (suc k) (omega arith) (omega arith)))

-- the early ones, and the chain at the end
marked_of-split : (limit : ℕ) (v : Logic) (e c : ℕ) (xs : List Transaction) → e ≤ c → c ≤ length xs
    → ((k : ℕ) → k < e → (transaction_at xs k).0 < limit)
    → ((k : ℕ) → e ≤ k → k < c → limit ≤ (transaction_at xs k).0)
    → ((k : ℕ) → e ≤ k → c ≡ suc k → (transaction_at xs k).1 ≢ v)
    → ((k : ℕ) → c ≤ k → k < length xs → (transaction_at xs k).1 ≡ v)
    → marked_of limit v xs ≡ take e xs ++ drop c xs
marked_of-split limit v zero c xs le within early late broken chain =
    marked_of-late limit v c xs within (λ k l. late k (omega arith) l) (λ k q. broken k (omega arith) q) chain
marked_of-split limit v (suc e) zero xs le within early late broken chain = absurd (omega arith)
marked_of-split limit v (suc e) (suc c) [] le within early late broken chain = absurd (omega arith)
marked_of-split limit v (suc e) (suc c) (x ∷ xs) le within early late broken chain =
    let yes' : is_marked limit v x xs ≡ true = early-marked limit v x xs (early 0 (omega arith)) in
    rw yes' (ap (λ (w : List Transaction). x ∷ w)
    (marked_of-split limit v e c xs (omega arith) (omega arith) (λ k l. early (suc k) (omega arith)) (λ k g l. late (suc k) (omega arith) (omega arith))
    (λ k g q. broken (suc k) (omega arith) (ap suc q)) (λ k g h. chain (suc k) (omega arith) (omega arith))))

at_take : (n : ℕ) (xs : List Transaction) (k : ℕ) → k < n → transaction_at (take n xs) k ≡ transaction_at xs k
at_take n xs k h = get_or-take n xs k (0, U) h

-- what the places mean that the pass finds in the first `end` transactions
pub kept_places-marked_of : (limit : ℕ) (v : Logic) (front back end : ℕ) (xs : List Transaction)
    → front ≤ back → back ≤ end → end ≤ length xs
    → ((k : ℕ) → back ≤ k → k < end → (transaction_at xs k).1 ≡ v)
    → (0 < back → limit ≤ (transaction_at xs (back - 1)).0 → (transaction_at xs (back - 1)).1 ≢ v)
    → ((k : ℕ) → k < front → (transaction_at xs k).0 < limit)
    → ((k : ℕ) → front ≤ k → k < back → limit ≤ (transaction_at xs k).0)
    → take front (take end xs) ++ drop back (take end xs) ≡ marked_of limit v (take end xs)
kept_places-marked_of limit v front back end xs order within fits chain broken below above =
    let ys : List Transaction = take end xs in
    let len : length ys ≡ end = length-take-le end xs fits in
    sym (marked_of-split limit v front back ys order (omega arith)
    (λ k l. rw (at_take end xs k (omega arith)) (below k l))
    (λ k g l. rw (at_take end xs k (omega arith)) (above k g l))
    (λ k g q. rw (at_take end xs k (omega arith)) (broken_at k g q))
    (λ k g h. rw (at_take end xs k (omega arith)) (chain k g (omega arith))))
  where
    the_one : (k : ℕ) → back ≡ suc k → back - 1 ≡ k
    the_one k q = omega arith

    broken_at : (k : ℕ) → front ≤ k → back ≡ suc k → (transaction_at xs k).1 ≢ v
    broken_at k g q =
        let late : limit ≤ (transaction_at xs (back - 1)).0 = rw (the_one k q) (above k g (omega arith)) in
        subst (λ (n : ℕ). (transaction_at xs n).1 ≢ v) (the_one k q) (broken (omega arith) late)
