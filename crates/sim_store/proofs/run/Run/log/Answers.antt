use Rattle.std.proofs.Common.{length, subst}
use Rattle.std.specs.List.{All}
use Rattle.sim_standard.specs.Records.{IsNamed}
use Rattle.sim_store.specs.Run.{Run}
use Rattle.sim_store.proofs.Logs.{rest-named}
use Rattle.sim_store.proofs.run.Run.log.Goals as goal

pub returns-clause-named : goal.returns-clause-named
returns-clause-named c =
    subst (λ (r : Run). All (IsNamed (length r.store.simulation.design.nets)) c.self.inside.log.records) c.self.view_is
    (rest-named c.self.invariant.1 _ c.each_cycle_is_recorded.ensures.named)
