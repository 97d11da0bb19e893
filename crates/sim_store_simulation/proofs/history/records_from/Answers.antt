use Rattle.std.proofs.Common.{List, IfOk, ap, sym, subst, length, ◌≡◌, ◌∙◌}
use Rattle.sim_standard.specs.declared.record.Record.{Record}
use Rattle.sim_store_simulation.specs.declared.history.Place.{Place}
use Rattle.sim_store_simulation.proofs.Reading.{all-counted, from-number, from_start, times-below}
use Rattle.sim_store_simulation.proofs.history.records_from.Goals as goal

pub entries_before-from-requires-clause-records : goal.entries_before-from-requires-clause-records
entries_before-from-requires-clause-records c =
    let all = from_start _ c.lists.result.0.now c.lists.result.1.now _ c.requires.past c.lists.ensures.records in
    sym (all-counted c.lists.result.0.now c.lists.result.1.now) ∙ (ap length all ∙ sym c.len-count.ensures)

pub records_after-requires-clause-times : goal.records_after-requires-clause-times
records_after-requires-clause-times c =
    times-below c.lists.result.1.now c.entries_before-from.result.0 _ c.entries_before-from.ensures.within c.entries_before-from.ensures.times

pub returns : goal.returns
returns c =
    let place : Place = record { times = c.entries_before-from.result.1; time = c.last_time.result; delta = c.delta_before.result } in
    let all = from-number c.lists.result.0.now c.lists.result.1.now c.entries_before-from.result.0 c.args.number place c.args.log.now.records
    (from_start _ c.lists.result.0.now c.lists.result.1.now _ c.requires.past c.lists.ensures.records)
    c.entries_before-from.ensures.records c.entries_before-from.ensures.times c.last_time.ensures
    (c.delta_before.ensures.same c.lists.result.0.now place.times place.time) in
    subst (λ (rs : List Record). IfOk c.records_after.result (λ v. v.items ≡ rs)) all c.records_after.ensures
