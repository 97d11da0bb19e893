-- Values are written place by place, and those of nets are made from those of drivers.
use Rattle.std.proofs.Common.{ℕ, zero, suc, ◌+◌, ◌<◌, ◌≡◌, Bool, List, [], ◌∷◌, length, get_or, map, set, refl, ap, sym, ◌∙◌, arith}
use Rattle.std.proofs.lemmas.List.{get_or-set_same, get_or-set_other, get_or_default, get_or-map, length-map, same_lists}
use Rattle.sim_logic.specs.declared.logic.Logic.{Logic}
use Rattle.sim_logic.specs.declared.logic.Logic.TheVariants.{U}
use Rattle.sim_logic.specs.Resolution.{resolved}
use Rattle.sim_flat_design.specs.declared.design.Source.{Source}
use Rattle.sim_flat_design.specs.declared.design.Source.TheVariants as source
use Rattle.sim_standard.specs.Drivers.{DriverState}
use Rattle.sim_standard.specs.Nets.{source_value}
use Rattle.sim_standard.specs.State.{driver_at, driver_values}
use Rattle.sim_containers.specs.Numbers.{is_in}
use Rattle.sim_containers.specs.Words.{IsNext}
use Rattle.sim_store_nets.specs.Lists.{Lists, net_from}
use Rattle.sim_store_nets.specs.Nets.{row_from, row_value, value_at, value_from}
use Rattle.sim_store_nets.proofs.Walks.{Walked, walk_more}

pub same-everywhere : (xs ys : List Logic) → length xs ≡ length ys → ((n : ℕ) → n < length xs → value_at xs n ≡ value_at ys n) → xs ≡ ys
same-everywhere xs ys l same =
    same_lists xs ys l (λ n d lt. get_or_default xs n d U lt ∙ (same n lt ∙ get_or_default ys n U d (omega (arith, l, lt))))

-- one more value is as required, if anything is required of it
pub walk-value : (now new : List Logic) (v : Logic) (Q : ℕ → Type 0) (target : ℕ → Logic) {set' : List Bool} {from n : ℕ}
    → Walked set' from (λ (k : ℕ). Q k → value_at now k ≡ target k)
    → IsNext (is_in set') from n → n < length now → new ≡ set now n v → v ≡ target n
    → Walked set' (n + 1) (λ (k : ℕ). Q k → value_at new k ≡ target k)
walk-value now new v Q target {set'} {from} {n} w next lt en ev =
    walk_more w next (λ k apart e q. ap (λ w. value_at w k) en ∙ (get_or-set_other now n k v U apart ∙ e q))
    (λ q. ap (λ w. value_at w n) en ∙ (get_or-set_same now n v U lt ∙ ev))

-- and without a condition
pub walk-each : (now new : List Logic) (v : Logic) (target : ℕ → Logic) {set' : List Bool} {from n : ℕ}
    → Walked set' from (λ (k : ℕ). value_at now k ≡ target k)
    → IsNext (is_in set') from n → n < length now → new ≡ set now n v → v ≡ target n
    → Walked set' (n + 1) (λ (k : ℕ). value_at new k ≡ target k)
walk-each now new v target {set'} {from} {n} w next lt en ev =
    walk_more w next (λ k apart e. ap (λ w. value_at w k) en ∙ (get_or-set_other now n k v U apart ∙ e))
    (ap (λ w. value_at w n) en ∙ (get_or-set_same now n v U lt ∙ ev))

-- ---- from the values of drivers

pub value-of : (ds : List DriverState) (d : ℕ) → value_at (driver_values ds) d ≡ (driver_at ds d).value
value-of [] d = refl
value-of (w ∷ ds) zero = refl
value-of (w ∷ ds) (suc d) = value-of ds d

source-from : (ds : List DriverState) (s : Source) → value_from (driver_values ds) s ≡ source_value ds s
source-from ds (source.Driver number) = value-of ds number
source-from ds (source.Constant value) = refl

sources-from : (ds : List DriverState) (row : List Source) → map (value_from (driver_values ds)) row ≡ map (source_value ds) row
sources-from ds [] = refl
sources-from ds (s ∷ row) =
    ap (λ v. v ∷ map (value_from (driver_values ds)) row) (source-from ds s) ∙ ap (λ vs. source_value ds s ∷ vs) (sources-from ds row)

pub row-from : (ds : List DriverState) (row : List Source) → row_from (driver_values ds) row ≡ row_value ds row
row-from ds row = ap resolved (sources-from ds row)

pub rows-from : (ds : List DriverState) (rows : List (List Source)) → map (row_from (driver_values ds)) rows ≡ map (row_value ds) rows
rows-from ds [] = refl
rows-from ds (row ∷ rows) =
    ap (λ v. v ∷ map (row_from (driver_values ds)) rows) (row-from ds row) ∙ ap (λ vs. row_value ds row ∷ vs) (rows-from ds rows)

-- the value of a net, from a list of all values
pub value-here : (values : List Logic) (sources : List (List Source)) (f : List Source → Logic) (n : ℕ) → values ≡ map f sources → n < length values
    → value_at values n ≡ f (get_or sources n [])
value-here values sources f n e lt =
    ap (λ w. value_at w n) e ∙ get_or-map f sources n [] U (omega (arith, lt, ap length e, length-map sources f))

-- values that are those of the sources at each net
pub resolved-everywhere : (l : Lists) (xs : List Logic) → length xs ≡ length l.sources → ((n : ℕ) → n < length xs → value_at xs n ≡ net_from l n)
    → xs ≡ map (row_from l.driving) l.sources
resolved-everywhere l xs e at =
    let f = row_from l.driving in
    let long = length-map l.sources f in
    same-everywhere xs (map f l.sources) (omega (arith, e, long))
    (λ n lt. at n lt ∙ sym (value-here (map f l.sources) l.sources f n refl (omega (arith, lt, e, long))))
