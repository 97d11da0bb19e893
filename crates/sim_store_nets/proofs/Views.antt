-- Nets, from their values and those before the cycle.
use Rattle.std.proofs.Common.{ℕ, zero, suc, ◌<◌, ◌≤◌, ◌≡◌, List, [], ◌∷◌, length, get_or, refl, ap, arith}
use Rattle.sim_logic.specs.declared.logic.Logic.{Logic}
use Rattle.sim_standard.proofs.Names.{no_net}
use Rattle.sim_store_nets.specs.Nets.{views_of, changed_to}

pub length-views_of : (values values_before : List Logic) → length values ≡ length values_before → length (views_of values values_before) ≡ length values
length-views_of [] values_before e = refl
length-views_of (v ∷ values) [] e = absurd (omega arith)
length-views_of (v ∷ values) (l ∷ values_before) e = ap suc (length-views_of values values_before (omega arith))

-- beyond the values there is no net
pub past_values : (values values_before : List Logic) (k : ℕ) → length values ≤ k → no_net ≡ get_or (views_of values values_before) k no_net
past_values [] values_before k le = refl
past_values (v ∷ values) values_before zero le = absurd (omega arith)
past_values (v ∷ values) [] (suc k) le = refl
past_values (v ∷ values) (l ∷ values_before) (suc k) le = past_values values values_before k (omega arith)

pub past_values_before : (values values_before : List Logic) (k : ℕ) → length values_before ≤ k → no_net ≡ get_or (views_of values values_before) k no_net
past_values_before [] values_before k le = refl
past_values_before (v ∷ values) [] k le = refl
past_values_before (v ∷ values) (l ∷ values_before) zero le = absurd (omega arith)
past_values_before (v ∷ values) (l ∷ values_before) (suc k) le = past_values_before values values_before k (omega arith)

pub view_here : (values values_before : List Logic) (k : ℕ) (d e : Logic) → k < length values → k < length values_before
    → changed_to (get_or values k d) (get_or values_before k e)
    ≡ get_or (views_of values values_before) k no_net
view_here [] values_before k d e lt l = absurd (omega arith)
view_here (v ∷ values) [] k d e lt l = absurd (omega arith)
view_here (v ∷ values) (w ∷ values_before) zero d e lt l = refl
view_here (v ∷ values) (w ∷ values_before) (suc k) d e lt l = view_here values values_before k d e (omega arith) (omega arith)
