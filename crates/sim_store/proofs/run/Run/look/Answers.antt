use Rattle.std.proofs.Common.{ap, arith}
use Rattle.sim_store_state.specs.declared.log.Past.{Past}
use Rattle.sim_store.specs.Run.{Run}
use Rattle.sim_store.proofs.Logs.{changes-together, records-together}
use Rattle.sim_store.proofs.run.Run.look.Goals as goal

pub overflow_add-result : goal.overflow_add-result
overflow_add-result c =
    omega (
      arith,
      records-together c.self.invariant.1,
      ap (λ (p : Past). p.records) c.past-past.ensures,
      c.len.ensures,
      c.each_cycle_is_recorded.ensures.count,
      c.self.invariant.0.within,
      ap (λ (r : Run). r.store.limit) c.self.view_is,
      c.limit-limit.ensures,
      c.limit-limit.type_inv,
    )

pub overflow_add-past : goal.overflow_add-past
overflow_add-past c =
    omega (
      arith,
      changes-together c.self.invariant.1,
      ap (λ (p : Past). p.changes) c.past-past.ensures,
      c.count.ensures,
      c.each_cycle_is_recorded.ensures.few,
      c.self.invariant.0.within,
      ap (λ (r : Run). r.store.limit) c.self.view_is,
      c.limit-limit.ensures,
      c.limit-limit.type_inv,
    )
