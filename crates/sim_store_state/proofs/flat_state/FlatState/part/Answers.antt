use Rattle.std.proofs.Common.{ap, ◌∙◌}
use Rattle.sim_standard.specs.State.{owned_at}
use Rattle.sim_store_state.specs.FlatState.{FlatState}
use Rattle.sim_store_state.proofs.flat_state.FlatState.part.Goals as goal

pub returns-clause-owned : goal.returns-clause-owned
returns-clause-owned c =
    rw (c.in_ok-drivers.ensures, c.in_ok-variables.ensures.items) (rw c.as_slice.ensures.value at c.owned.ensures
    ∙ ap (λ (h : FlatState). owned_at h.owned c.args.number) c.self.view_is)
