-- The value of digits, and the test of a time.
use Rattle.std.proofs.Common.{◌≡◌, ℕ, suc, ◌+◌, ◌-◌, ◌*◌, ◌<◌, ◌≤◌, List, [], ◌∷◌, fold, drop, length, get_or, refl, sym, ◌∙◌, arith}
use Rattle.std.proofs.lemmas.List.{at_drop_all}
use Rattle.std.proofs.Math.Seq.{drop-cons}
use Rattle.sim_logic.specs.declared.time.Unit.{Unit as TimeUnit}
use Rattle.sim_logic.specs.declared.time.Unit.TheVariants as u
use Rattle.sim_logic.specs.Time.{femtoseconds_in, largest_time}
use Rattle.sim_text_tree.specs.Times.{value_of, time_of}

pub grows : (ds : List ℕ) (n : ℕ) → n ≤ fold (λ (n b : ℕ). 10 * n + (b - 48)) n ds
grows [] n = omega arith
grows (d ∷ ds) n = omega (arith, grows ds (10 * n + (d - 48)))

over : (v : ℕ) (unit : TimeUnit) → largest_time < v → largest_time < v * femtoseconds_in unit
over v u.Fs h = omega arith
over v u.Ps h = omega arith
over v u.Ns h = omega arith
over v u.Us h = omega arith
over v u.Ms h = omega arith
over v u.Sec h = omega arith
over v u.Min h = omega arith
over v u.Hr h = omega arith

abbrev pub Value : ℕ → List ℕ → ℕ
Value v ds = fold (λ (n b : ℕ). 10 * n + (b - 48)) v ds

pub too_large : (ds : List ℕ) (i v : ℕ) (unit : TimeUnit) → i < length ds → Value v (drop i ds) ≡ value_of ds → 461168601842738790 < v
    → largest_time < time_of ds unit
unfolding time_of
too_large ds i v unit lt e h =
    let step : Value v (drop i ds) ≡ Value (10 * v + (get_or ds i 0 - 48)) (drop (suc i) ds) = rw (drop-cons ds i 0 lt) refl in
    let more = grows (drop (suc i) ds) (10 * v + (get_or ds i 0 - 48)) in
    over (value_of ds) unit (omega (arith, step, e, more))

pub in_time : (ds : List ℕ) (i v : ℕ) (unit : TimeUnit) → length ds ≤ i → Value v (drop i ds) ≡ value_of ds → v * femtoseconds_in unit ≡ time_of ds unit
unfolding time_of
in_time ds i v unit le e =
    let is : v ≡ value_of ds = sym (at_drop_all (λ (t : List ℕ). Value v t) ds i le) ∙ e in
    rw is refl
