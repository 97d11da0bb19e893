use Rattle.std.proofs.Common.{ap, arith, length, subst, sym}
use Rattle.std.specs.List.{All}
use Rattle.sim_standard.specs.Records.{IsNamed}
use Rattle.sim_store_state.specs.Log.{Logged}
use Rattle.sim_store.specs.Run.{Run}
use Rattle.sim_store.proofs.Logs.{changes-together, rest-named}
use Rattle.sim_store.proofs.run.Run.give.Goals as goal

pub give-requires-clause-changes : goal.give-requires-clause-changes
give-requires-clause-changes c =
    omega (
      arith,
      changes-together c.self.invariant.1,
      c.each_cycle_is_recorded.ensures.few,
      c.self.invariant.0.within,
      ap (λ (r : Run). r.store.limit) c.self.view_is,
      c.limit-limit.ensures,
      c.limit-limit.type_inv,
    )

pub returns-clause-named : goal.returns-clause-named
returns-clause-named c =
    subst (λ (r : Run). All (IsNamed (length r.store.simulation.design.nets)) c.give.result.records) c.self.view_is
    (subst (λ (w : Logged). All (IsNamed (length c.self.inside.simulation.design.nets)) w.records) (sym c.give.ensures.given)
    (rest-named c.self.invariant.1 _ c.each_cycle_is_recorded.ensures.named))
