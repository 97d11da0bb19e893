-- A part is that of a process if its views, drivers and variables are.
use Rattle.std.proofs.Common.{◌≡◌, List, Bool, false, IsTrue, sym, ap, ◌∙◌}
use Rattle.std.specs.Bool.{Decides}
use Rattle.sim_flat_design.specs.declared.held.Held.{Held}
use Rattle.sim_standard.specs.Drivers.{DriverState}
use Rattle.sim_standard.specs.State.{Owned}

module _ (A : Type 0) (ds es : List DriverState) (vs ws : List Held) (own : Owned) (is : own ≡ record { drivers = es; variables = ws }) where
  abbrev Mine : Owned
  Mine = record { drivers = ds; variables = vs }

  pub part_is : (b : Bool) → A → ds ≡ es → Decides b (vs ≡ ws) → (IsTrue b → A × (Mine ≡ own)) × (A × (Mine ≡ own) → IsTrue b)
  part_is b a same decides = (
    λ yes. (
      a,
      ap (λ (xs : List DriverState). record { drivers = xs; variables = vs }) same
          ∙ (ap (λ (xs : List Held). record { drivers = es; variables = xs }) (decides.0 yes) ∙ sym is),
    ),
    λ both. decides.1 (ap (λ (o : Owned). o.variables) (both.1 ∙ is)),
  )

  pub part_differs : (ds ≡ es → ⊥) → (IsTrue false → A × (Mine ≡ own)) × (A × (Mine ≡ own) → IsTrue false)
  part_differs apart = (λ no. absurd cc, λ both. absurd (apart (ap (λ (o : Owned). o.drivers) (both.1 ∙ is))))
