-- The properties of a waveform without faults.
use Rattle.std.proofs.Common.{ℕ, ◌≡◌, inl, inr, ◌≤◌, nat_le, nat_lt, Bool, true, false, List, [], ◌∷◌, ◌++◌, length, Option, Some, None, refl}
use Rattle.std.specs.Prelude.{slice_get}
use Rattle.std.proofs.lemmas.Bool.{leb-false, ltb-false}
use Rattle.std.proofs.lemmas.Option.{slice_get_cases}
use Rattle.sim_flat_scope.specs.declared.fault.Kind.TheVariants as k
use Rattle.sim_text_tree.specs.Times.{time_of}
use Rattle.sim_text_tree.specs.Starts.{start_of}
use Rattle.sim_text_tree.specs.declared.waveform.Element.{Element}
use Rattle.sim_text_tree.specs.declared.waveform.DelayMechanism.{DelayMechanism}
use Rattle.sim_text_tree.specs.declared.waveform.DelayMechanism.TheVariants as delay
use Rattle.sim_flat_scope.specs.declared.scope.Type as ty
use Rattle.sim_flat_scope.specs.declared.fault.Kind as kind
use Rattle.sim_flat_scope.specs.declared.fault.Fault.{Fault}
use Rattle.sim_flat_scope.specs.Faults.{fault, where_}
use Rattle.sim_flat_scope.specs.Scopes.{Lookup}
use Rattle.sim_flat_check.specs.Waveforms.{delay_after, not_above, not_rising, most_elements, excess, too_many, delay_faults, values_faults}
use Rattle.sim_flat_check.specs.Waveforms.{waveform_faults}
use Rattle.sim_flat_check.specs.Laws.{ElementsRise, Rises, IsLimited, IsSound}

-- if two lists together are empty, both are
pub front_empty : {X : Type 0} (xs ys : List X) → xs ++ ys ≡ [] → xs ≡ []
front_empty [] ys h = refl
front_empty (x ∷ xs) ys h = cc

pub back_empty : {X : Type 0} (xs ys : List X) → xs ++ ys ≡ [] → ys ≡ []
back_empty [] ys h = h
back_empty (x ∷ xs) ys h = cc

-- if there is no fault, its condition does not hold
never : (b : Bool) (k : kind.Kind) (at : ℕ) → where_ b (fault k at) ≡ [] → b ≡ false
never true k at h = cc
never false k at h = refl

pub rises_from : (before : ℕ) (xs : List Element) → not_rising (Some before) xs ≡ [] → ElementsRise before xs
unfolding not_rising
rises_from before [] h = tt
rises_from before (x ∷ xs) h =
    let later : List Fault = not_rising (Some (delay_after x.after)) xs in (
      leb-false (delay_after x.after) before (never (nat_le (delay_after x.after) before) k.NotAscending (start_of x.value)
          (front_empty (not_above (Some before) x) later h)),
      rises_from (delay_after x.after) xs (back_empty (not_above (Some before) x) later h),
    )

pub rises : (w : List Element) → not_rising None w ≡ [] → Rises w
unfolding not_rising
rises [] h = tt
rises (x ∷ xs) h = rises_from (delay_after x.after) xs h

some_excess : (o : Option Element) (x : Element) → o ≡ Some x → excess o ≡ [] → ⊥
some_excess None x e h = cc
some_excess (Some y) x e h = cc

pub few : (w : List Element) → too_many w ≡ [] → length w ≤ most_elements
unfolding too_many
few w h = elim (slice_get_cases w most_elements).1 as (λ _. length w ≤ most_elements) [
  | inl t ↦ absurd (some_excess (slice_get w most_elements) t.0 t.2 h)
  | inr t ↦ t.0
]

pub limited : (mechanism : DelayMechanism) (w : List Element) → delay_faults mechanism w ≡ [] → IsLimited mechanism w
unfolding delay_faults
limited delay.Unwritten w h = tt
limited delay.Transport w h = tt
limited delay.Inertial w h = tt
limited (delay.Reject t) [] h = tt
limited (delay.Reject t) (x ∷ xs) h = ltb-false (delay_after x.after) (time_of t.digits t.unit)
    (never (nat_lt (delay_after x.after) (time_of t.digits t.unit)) k.RejectTooLong t.at h)

pub sound : (look : Lookup) (mechanism : DelayMechanism) (target : Option ty.Type) (w : List Element) → waveform_faults look mechanism target w ≡ []
    → IsSound mechanism w
unfolding waveform_faults
sound look mechanism target w h =
    let values : List Fault = values_faults look target w in
    let counted : List Fault = too_many w ++ values in
    let timed : List Fault = not_rising None w ++ counted in
    let t = back_empty (delay_faults mechanism w) timed h in
    let c = back_empty (not_rising None w) counted t in
    record {
      few = few w (front_empty (too_many w) values c);
      rises = rises w (front_empty (not_rising None w) counted t);
      limited = limited mechanism w (front_empty (delay_faults mechanism w) timed h);
    }
