-- The values kept of the sources of nets follow those of the drivers.
use Rattle.std.proofs.Common.{ℕ, zero, suc, ◌<◌, ◌≤◌, ◌≡◌, ◌≢◌, ◌==◌, ◌||◌, ◌&&◌, eqb, Bool, true, false, List, [], ◌∷◌, length, get_or, set, map}
use Rattle.std.proofs.Common.{refl, ap, sym, ◌∙◌, arith}
use Rattle.std.specs.Prelude.{if◌then◌else◌}
use Rattle.std.proofs.Math.Decide.{dec_lt}
use Rattle.std.proofs.lemmas.Bool.Decides.{nat_tests}
use Rattle.std.proofs.lemmas.List.{get_or-set_same, get_or-set_other, get_or-map, get_or_past, length-map, length-set}
use Rattle.sim_logic.specs.declared.logic.Logic.{Logic}
use Rattle.sim_logic.specs.declared.logic.Logic.TheVariants.{U}
use Rattle.sim_flat_design.specs.declared.design.Source.{Source}
use Rattle.sim_flat_design.specs.declared.design.Source.TheVariants as source
use Rattle.sim_store_nets.specs.Nets.{AreTallied, is_driver, value_at, value_from}
use Rattle.sim_store_nets.specs.Tallies.{TallyLists, is_placed, noted, set_all, set_one, source_at}
use Rattle.sim_store_nets.proofs.SourceValues.{same-everywhere}

-- ---- a value at each of several places

abbrev at_place : List (List Logic) → ℕ → ℕ → Logic
at_place rows n p = value_at (get_or rows n []) p

-- lists beyond the last are empty, and stay so
set-beyond : (rows : List (List Logic)) (m n : ℕ) (row : List Logic) → length rows ≤ n → get_or (set rows m row) n [] ≡ get_or rows n []
set-beyond rows m n row le =
    get_or_past (set rows m row) n [] (omega (arith, le, length-set rows m row)) ∙ sym (get_or_past rows n [] le)

row-set : (place : ℕ × ℕ) (v : Logic) (rows : List (List Logic)) (n : ℕ) → n < length rows
    → get_or (set_one place v rows) n [] ≡ (if place.0 == n then set (get_or rows n []) place.1 v else get_or rows n [])
row-set place v rows n lt = go (eqb place.0 n) refl
  where
    go : (b : Bool) → eqb place.0 n ≡ b
        → get_or (set_one place v rows) n [] ≡ (if b then set (get_or rows n []) place.1 v else get_or rows n [])
    go true e =
        let at : place.0 ≡ n = grind (arith, nat_tests) in
        rw at (get_or-set_same rows n (set (get_or rows n []) place.1 v) [] lt)
    go false e =
        let apart : n ≢ place.0 = grind (arith, nat_tests) in
        get_or-set_other rows place.0 n (set (get_or rows place.0 []) place.1 v) [] apart

choice-length : (b : Bool) (xs : List Logic) (p : ℕ) (v : Logic) → length (if b then set xs p v else xs) ≡ length xs
choice-length true xs p v = length-set xs p v
choice-length false xs p v = refl

one-length : (place : ℕ × ℕ) (v : Logic) (rows : List (List Logic)) (n : ℕ) → length (get_or (set_one place v rows) n []) ≡ length (get_or rows n [])
one-length place v rows n = elim (dec_lt n (length rows)) [
  | yes h ↦ ap length (row-set place v rows n h) ∙ choice-length (place.0 == n) (get_or rows n []) place.1 v
  | no h ↦ ap length (set-beyond rows place.0 n (set (get_or rows place.0 []) place.1 v) (omega (arith, h)))
]

pub all-length : (places : List (ℕ × ℕ)) (v : Logic) (rows : List (List Logic)) (n : ℕ)
    → length (get_or (set_all places v rows) n []) ≡ length (get_or rows n [])
all-length [] v rows n = refl
all-length (x ∷ places) v rows n = all-length places v (set_one x v rows) n ∙ one-length x v rows n

value-set : (xs : List Logic) (q p : ℕ) (v : Logic) → p < length xs → value_at (set xs q v) p ≡ (if q == p then v else value_at xs p)
value-set xs q p v lt = go (eqb q p) refl
  where
    go : (b : Bool) → eqb q p ≡ b → value_at (set xs q v) p ≡ (if b then v else value_at xs p)
    go true e = let at : q ≡ p = grind (arith, nat_tests) in rw at (get_or-set_same xs p v U lt)
    go false e = let apart : p ≢ q = grind (arith, nat_tests) in get_or-set_other xs q p v U apart

choice-at : (b : Bool) (xs : List Logic) (q p : ℕ) (v : Logic) → p < length xs
    → value_at (if b then set xs q v else xs) p ≡ (if b && (q == p) then v else value_at xs p)
choice-at true xs q p v lt = value-set xs q p v lt
choice-at false xs q p v lt = refl

-- a net with a value is there
net-there : (rows : List (List Logic)) (n p : ℕ) → p < length (get_or rows n []) → n < length rows
net-there [] n p lt = absurd (omega (arith, lt))
net-there (row ∷ rows) zero p lt = omega arith
net-there (row ∷ rows) (suc n) p lt = let h = net-there rows n p lt in omega (arith, h)

one-at : (place : ℕ × ℕ) (v : Logic) (rows : List (List Logic)) (n p : ℕ) → p < length (get_or rows n [])
    → at_place (set_one place v rows) n p ≡ (if (place.0 == n) && (place.1 == p) then v else at_place rows n p)
one-at place v rows n p lt =
    ap (λ w. value_at w p) (row-set place v rows n (net-there rows n p lt)) ∙ choice-at (place.0 == n) (get_or rows n []) place.1 p v lt

either-here : (a b : Bool) (v was now : Logic) → now ≡ (if a then v else was) → (if b then v else now) ≡ (if a || b then v else was)
either-here true true v was now e = refl
either-here true false v was now e = e
either-here false b v was now e = ap (λ w. if b then v else w) e

pub all-at : (places : List (ℕ × ℕ)) (v : Logic) (rows : List (List Logic)) (n p : ℕ) → p < length (get_or rows n [])
    → at_place (set_all places v rows) n p ≡ (if is_placed places n p then v else at_place rows n p)
all-at [] v rows n p lt = refl
all-at (x ∷ places) v rows n p lt =
    all-at places v (set_one x v rows) n p (omega (arith, lt, one-length x v rows n))
    ∙ either-here ((x.0 == n) && (x.1 == p)) (is_placed places n p) v (at_place rows n p) (at_place (set_one x v rows) n p) (one-at x v rows n p lt)

-- ---- a driver with another value

other-driver : (driving : List Logic) (k d : ℕ) (v : Logic) → d < length driving → value_at (set driving d v) k ≡ (if k == d then v else value_at driving k)
other-driver driving k d v lt = go (eqb k d) refl
  where
    go : (b : Bool) → eqb k d ≡ b → value_at (set driving d v) k ≡ (if b then v else value_at driving k)
    go true e = let at : k ≡ d = grind (arith, nat_tests) in rw at (get_or-set_same driving d v U lt)
    go false e = let apart : k ≢ d = grind (arith, nat_tests) in get_or-set_other driving d k v U apart

source-after : (driving : List Logic) (s : Source) (d : ℕ) (v : Logic) → d < length driving
    → value_from (set driving d v) s ≡ (if is_driver s d then v else value_from driving s)
source-after driving (source.Driver k) d v lt = other-driver driving k d v lt
source-after driving (source.Constant value) d v lt = refl

-- the value of the source at a place
source-value : (driving : List Logic) (row : List Source) (p : ℕ) → p < length row → value_at (map (value_from driving) row) p ≡ value_from driving
    (source_at row p)
source-value driving row p lt = get_or-map (value_from driving) row p (source.Constant U) U lt

pub tallied-noted : (sources : List (List Source)) (driving : List Logic) (t : TallyLists) (d : ℕ) (v : Logic) → d < length driving
    → AreTallied sources driving t → AreTallied sources (set driving d v) (noted t d v)
tallied-noted sources driving t d v lt i = record {
  kept = λ n some. kept n (omega (arith, some, all-length places v t.rows n));
  placed = λ n p e below within. i.placed n p e (omega (arith, below, length-set driving d v)) (omega (arith, within, all-length places v t.rows n));
}
  where
    places : List (ℕ × ℕ)
    places = get_or t.places d []

    kept : (n : ℕ) → 0 < length (get_or t.rows n []) → get_or (set_all places v t.rows) n [] ≡ map (value_from (set driving d v)) (get_or sources n [])
    kept n some =
        let row = get_or sources n [] in
        let was : get_or t.rows n [] ≡ map (value_from driving) row = i.kept n some in
        let long : length (get_or t.rows n []) ≡ length row = ap length was ∙ length-map row (value_from driving) in
        let now : length (get_or (set_all places v t.rows) n []) ≡ length (get_or t.rows n []) = all-length places v t.rows n in
        same-everywhere (get_or (set_all places v t.rows) n []) (map (value_from (set driving d v)) row)
        (omega (arith, now, long, length-map row (value_from (set driving d v))))
        (λ p within.
        let at : p < length (get_or t.rows n []) = omega (arith, within, now) in
        let in_row : p < length row = omega (arith, at, long) in
        all-at places v t.rows n p at
        ∙ (ap (λ b. if b then v else at_place t.rows n p) (i.placed n p d lt at)
        ∙ (ap (λ w. if is_driver (source_at row p) d then v else w) (ap (λ w. value_at w p) was ∙ source-value driving row p in_row)
        ∙ (sym (source-after driving (source_at row p) d v lt) ∙ sym (source-value (set driving d v) row p in_row)))))
