use Rattle.std.proofs.Common.{ap, sym, ◌∙◌, ◌≡◌}
use denote.Enum.Bare.{same_true}
use Rattle.std.proofs.lemmas.Slice.Eq.{slice_eq-Decides}
use Rattle.sim_logic.specs.contracts.logic.Logic.{the_type}
use Rattle.sim_standard.specs.Drivers.{DriverState}
use Rattle.sim_wave.proofs.Comparing.{are_same-Decides, same-pending}
use Rattle.sim_wave.proofs.driver.Driver.same.Goals as goal

pub returns-then-eq : goal.returns-then-eq
returns-then-eq c =
    let a = c.args.self.now in
    let b = c.args.other.now in
    let values : c.self.inside.value ≡ c.other.inside.value = same_true the_type tt _ _ (sym c.if-eq.ensures) in
    same-pending a b c.eq-then-eq.result c.as_slice.result.now c.as_slice-then-eq.result.now
    (c.as_slice.ensures ∙ ap (λ (w : DriverState). w.pending) c.self.view_is)
    (c.as_slice-then-eq.ensures ∙ ap (λ (w : DriverState). w.pending) c.other.view_is)
    (sym (ap (λ (w : DriverState). w.value) c.self.view_is) ∙ (values ∙ ap (λ (w : DriverState). w.value) c.other.view_is))
    (slice_eq-Decides are_same-Decides c.as_slice.result.now c.as_slice-then-eq.result.now c.eq-then-eq.result c.eq-then-eq.ensures)
