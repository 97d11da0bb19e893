-- An execution leaves the current value of each driver as it was.
use Rattle.std.proofs.Common.{◌≡◌, ℕ, List, set, Option, Some, None, refl, ap, ◌∙◌}
use Rattle.std.proofs.Math.Seq.{map-set_same}
use Rattle.sim_logic.specs.declared.logic.Logic.{Logic}
use Rattle.sim_flat_design.specs.declared.waveform.Element.{Element}
use Rattle.sim_flat_design.specs.declared.statement.Delay.{Delay}
use Rattle.sim_flat_design.specs.declared.statement.Statement.{Statement}
use Rattle.sim_flat_design.specs.Bodies.{objects_of}
use Rattle.sim_standard.specs.Drivers.{DriverState}
use Rattle.sim_standard.specs.declared.net_view.NetView.{NetView}
use Rattle.sim_standard.specs.State.{Owned, driver_at, driver_values}
use Rattle.sim_standard.specs.Expressions.{boolean_value, taken_waveform}
use Rattle.sim_standard.specs.Statements.{own_steps, executed}
use Rattle.sim_standard.proofs.Names.{no_driver, waveform_assigned}
use Rattle.sim_standard.proofs.Alongside.{Keeps, each_of_all, all_go}

-- a driver is replaced by one with its value
value_kept : (drivers : List DriverState) (place : ℕ) (driver : DriverState) → driver.value ≡ (driver_at drivers place).value
    → driver_values (set drivers place driver) ≡ driver_values drivers
value_kept drivers place driver e = map-set_same (λ (d : DriverState). d.value) drivers place driver no_driver e

module _ (look : ℕ → NetView) (now : ℕ) where
  assignment_keeps : (place : ℕ) (mechanism : Delay) (elements : Option (List Element)) (own : Owned)
      → driver_values (waveform_assigned look now place mechanism elements own).drivers ≡ driver_values own.drivers
  assignment_keeps place mechanism None own = refl
  assignment_keeps place mechanism (Some elements) own = value_kept own.drivers place _ refl

  -- both are the same, and their drivers have these values
  abbrev Valued : List Logic → Owned → Owned → Type 0
  Valued values own other = (own ≡ other) × (driver_values own.drivers ≡ values)

  keeps : (values : List Logic) → Keeps (own_steps look now) (own_steps look now) (λ k. Unit {0}) (Valued values)
  keeps values = record {
    holds = λ c e s t is. ap (λ (o : Owned). boolean_value look o.variables c) is.0;
    signal = λ a e s t is. (
      ap (λ (o : Owned). (own_steps look now).signal a o) is.0,
      assignment_keeps a.driver a.delay (taken_waveform look s.variables a.conditional a.otherwise) s ∙ is.1,
    );
    logic_variable = λ place x e s t is. (ap (λ (o : Owned). (own_steps look now).logic_variable place x o) is.0, is.1);
    boolean_variable = λ place x e s t is. (ap (λ (o : Owned). (own_steps look now).boolean_variable place x o) is.0, is.1);
  }

  -- statements leave the values of drivers
  pub values_kept : (xs : List Statement) (own : Owned) → driver_values (executed look now xs own).drivers ≡ driver_values own.drivers
  unfolding executed
  values_kept xs own =
      (all_go (own_steps look now) (own_steps look now) (λ k. Unit {0}) (Valued (driver_values own.drivers)) (keeps (driver_values own.drivers)) xs
      (each_of_all (λ k. Unit {0}) (λ k. tt) (objects_of xs)) own own (refl, refl)).1
