use Rattle.std.proofs.Common.{ℕ, ◌≡◌, Option, ap, sym, subst, ◌∙◌}
use Rattle.std.proofs.lemmas.Result.{IfOk-weaker}
use Rattle.sim_standard.specs.Drivers.{next_time}
use Rattle.sim_standard.specs.State.{all_drivers}
use Rattle.sim_containers.specs.RowArray.{joined}
use Rattle.sim_store_state.specs.FlatState.{FlatState}
use Rattle.sim_store_state.specs.Times.{IsNext}
use Rattle.sim_store_state.proofs.Times.{next_is_least}
use Rattle.sim_store_state.proofs.flat_state.FlatState.next.Goals as goal

pub returns-clause-least : goal.returns-clause-least
returns-clause-least c =
    let owned = ap joined c.as_mut_slice.ensures.value ∙ ap (λ (h : FlatState). h.owned) c.self.view_is in
    IfOk-weaker c.next_of.result _ _
    (λ (next : Option ℕ) (is : next ≡ next_time (all_drivers (joined c.as_mut_slice.result.now))).
    subst (IsNext (all_drivers c.args.self.now.owned)) (sym (is ∙ ap (λ os. next_time (all_drivers os)) owned)) (next_is_least
    (all_drivers c.args.self.now.owned)))
    c.next_of.ensures.value
