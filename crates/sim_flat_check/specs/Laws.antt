-- The properties of a waveform without faults (IEEE 1076-2008, 10.5.2), and of names.
use Rattle.std.specs.Prelude.{ℕ, ◌≡◌, ◌<◌, ◌≤◌, List, [], ◌∷◌, length, Bool, true, Option, Some, is_some}
use Rattle.sim_flat_scope.specs.declared.scope.Meaning.{Meaning}
use Rattle.sim_flat_scope.specs.declared.scope.Meaning.TheVariants as m
use Rattle.sim_flat_scope.specs.Scopes.{Lookup}
use Rattle.sim_text_tree.specs.Times.{time_of}
use Rattle.sim_text_tree.specs.declared.waveform.Element.{Element}
use Rattle.sim_text_tree.specs.declared.waveform.DelayMechanism.{DelayMechanism}
use Rattle.sim_text_tree.specs.declared.waveform.DelayMechanism.TheVariants as delay
use Rattle.sim_flat_check.specs.Waveforms.{delay_after, most_elements}

-- Each delay is greater than the one before it, and the first is greater than this one.
abbrev pub ElementsRise : ℕ → List Element → Type 0
ElementsRise before [] = Unit {0}
ElementsRise before (x ∷ xs) = (before < delay_after x.after) × ElementsRise (delay_after x.after) xs

-- The delays ascend strictly.
abbrev pub Rises : List Element → Type 0
Rises [] = Unit {0}
Rises (x ∷ xs) = ElementsRise (delay_after x.after) xs

-- A rejection limit is at most the first delay.
abbrev pub IsLimited : DelayMechanism → List Element → Type 0
IsLimited (delay.Reject t) (x ∷ xs) = time_of t.digits t.unit ≤ delay_after x.after
IsLimited _ _ = Unit {0}

-- A waveform with at most the allowed number of elements, ascending delays, and a small enough rejection limit.
pub record IsSound (mechanism : DelayMechanism) (w : List Element) : Type 0 where
  pub few : length w ≤ most_elements
  pub rises : Rises w
  pub limited : IsLimited mechanism w

-- whether a name that is a port, a signal or a variable has a type: its type mark is not at fault
abbrev pub has_type : Option Meaning → Bool
has_type (Some (m.Port object mode t)) = is_some t
has_type (Some (m.Signal object t)) = is_some t
has_type (Some (m.Variable place t)) = is_some t
has_type _ = true

-- No type mark of a declaration is at fault.
abbrev pub AllTyped : Lookup → Type 0
AllTyped look = (n : List ℕ) → has_type (look n) ≡ true
