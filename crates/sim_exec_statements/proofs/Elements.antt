-- The evaluated elements of a waveform ascend as the waveform does.
use Rattle.std.proofs.Common.{◌≡◌, ◌≤◌, ℕ, suc, List, [], ◌∷◌, take, length, arith}
use Rattle.std.proofs.lemmas.List.{take_all}
use Rattle.sim_flat_design.specs.declared.held.Held.{Held}
use Rattle.sim_flat_design.specs.declared.waveform.Element.{Element}
use Rattle.sim_flat_design.specs.Waveforms.{IsWaveform}
use Rattle.sim_flat_design.specs.Waveforms as design
use Rattle.sim_standard.specs.Drivers.{Transaction}
use Rattle.sim_standard.specs.declared.net_view.NetView.{NetView}
use Rattle.sim_standard.specs.Expressions.{element_values}
use Rattle.sim_wave.specs.Rising.{RisesFrom}

module _ (look : ℕ → NetView) (variables : List Held) where
  later : (time : ℕ) (w : List Element) → design.ElementsRise time w → RisesFrom (suc time) (element_values look variables w)
  later time [] h = tt
  later time (x ∷ xs) h = (omega (arith, h.0), later x.after xs h.1)

  pub element_values_rise : (w : List Element) → IsWaveform w → RisesFrom 0 (element_values look variables w)
  element_values_rise [] h = tt
  element_values_rise (x ∷ xs) h = (omega arith, later x.after xs h)

  -- and so does a prefix that contains all of them
  pub all_values_rise : (w : List Element) (n : ℕ) (found : List Transaction) → length w ≤ n → IsWaveform w
      → found ≡ element_values look variables (take n w) → RisesFrom 0 found
  all_values_rise w n found all h is = rw (is, take_all n w all) (element_values_rise w h)
