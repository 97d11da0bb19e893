-- Waveforms in order are waveforms of the design, and their rejection limits are at most their first delays.
use Rattle.std.proofs.Common.{◌≡◌, ℕ, ◌&&◌, List, [], ◌∷◌, map, Bool, true, false, refl}
use Rattle.std.specs.List.{All}
use Rattle.std.proofs.lemmas.Bool.{ltb-true}
use Rattle.sim_flat_scope.specs.Scopes.{Lookup}
use Rattle.sim_flat_design.specs.declared.held.Held.{Held}
use Rattle.sim_flat_design.specs.declared.waveform.Element as design
use Rattle.sim_flat_design.specs.Waveforms.{ElementsRise, IsWaveform}
use Rattle.sim_flat_design.specs.Bodies.{is_rejected, logic_fits, waveform_fits}
use Rattle.sim_flat_design.proofs.Fitting.{assignment_fitting, null_fits, signal_fits, waveform_fitting}
use Rattle.sim_text_tree.specs.declared.waveform.Element.{Element}
use Rattle.sim_text_tree.specs.declared.waveform.DelayMechanism.{DelayMechanism}
use Rattle.sim_text_tree.specs.declared.waveform.DelayMechanism.TheVariants as mechanism
use Rattle.sim_flat_bodies.specs.Statements.{delay_of, element_of, waveform_of}
use Rattle.std.proofs.lemmas.List.Sums.{AllPass-from_list_all}
use Rattle.sim_text_tree.specs.declared.waveform.ConditionalWaveform.{ConditionalWaveform}
use Rattle.sim_text_tree.specs.declared.waveform.ConcurrentSignalAssignment.{ConcurrentSignalAssignment}
use Rattle.sim_flat_bodies.specs.Timed.{concurrent_timed, conditional_timed, last_timed, after_of, rises_from, rises, rejects_within, waveform_timed}

first : (a b : Bool) → (a && b) ≡ true → a ≡ true
first true b h = refl
first false b h = cc

second : (a b : Bool) → (a && b) ≡ true → b ≡ true
second true b h = h
second false b h = cc

rising : (look : Lookup) (time : ℕ) (w : List Element) → rises_from time w ≡ true → ElementsRise time (map (element_of look) w)
unfolding rises_from element_of
rising look time [] h = tt
rising look time (x ∷ xs) h = (ltb-true _ _ (first _ _ h), rising look (after_of x.after) xs (second _ _ h))

pub is_waveform : (look : Lookup) (d : DelayMechanism) (w : List Element) → waveform_timed d w ≡ true → IsWaveform (waveform_of look w)
unfolding waveform_timed rises waveform_of element_of
is_waveform look d [] h = cc
is_waveform look d (x ∷ xs) h = rising look (after_of x.after) xs (first _ _ h)

rejected : (look : Lookup) (d : DelayMechanism) (w : List Element) → waveform_timed d w ≡ true → is_rejected (delay_of d) (waveform_of look w) ≡ true
unfolding waveform_timed rises rejects_within delay_of waveform_of element_of
rejected look mechanism.Unwritten w h = refl
rejected look mechanism.Transport w h = refl
rejected look mechanism.Inertial w h = refl
rejected look (mechanism.Reject t) [] h = cc
rejected look (mechanism.Reject t) (x ∷ xs) h = second _ _ h

pub waveform_is_fitting : (look : Lookup) (d : DelayMechanism) (w : List Element) (objects : ℕ) (variables : List Held) → waveform_timed d w ≡ true
    → All (λ (x : design.Element). logic_fits objects variables x.value ≡ true) (waveform_of look w)
    → waveform_fits objects variables (delay_of d) (waveform_of look w) ≡ true
waveform_is_fitting look d w objects variables h f =
    waveform_fitting objects variables (delay_of d) (waveform_of look w) (rejected look d w h) f

-- waveforms in order
pub ruleset timed = (is_waveform, waveform_is_fitting)

pub concurrent_first : (a : ConcurrentSignalAssignment) → concurrent_timed a ≡ true
    → All (λ (c : ConditionalWaveform). conditional_timed a.delay c ≡ true) a.waveforms.conditional
unfolding concurrent_timed
concurrent_first a h = AllPass-from_list_all (conditional_timed a.delay) a.waveforms.conditional (first _ _ h)

pub concurrent_last : (a : ConcurrentSignalAssignment) → concurrent_timed a ≡ true → last_timed a.delay a.waveforms.otherwise ≡ true
unfolding concurrent_timed
concurrent_last a h = second _ _ h

-- the references of signal assignments are in range
pub ruleset assignments_fit = (signal_fits, null_fits, assignment_fitting, concurrent_first, concurrent_last)
