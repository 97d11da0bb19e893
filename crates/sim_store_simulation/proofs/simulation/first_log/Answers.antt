use Rattle.std.proofs.Common.{List, [], ◌∷◌, ◌++◌, ap, sym, ◌∙◌}
use Rattle.sim_standard.specs.declared.record.Record.{Record}
use Rattle.sim_standard.specs.Records.{values_of}
use Rattle.sim_store_state.specs.FlatState.{FlatState}
use Rattle.sim_store_simulation.proofs.Going.{first-records}
use Rattle.sim_store_simulation.proofs.simulation.first_log.Goals as goal

pub returns-clause-records : goal.returns-clause-records
returns-clause-records c =
    let record_of : FlatState → Record = λ w. record { time = 0; delta = 0; changes = values_of w.nets } in
    c.record_all.ensures.records
    ∙ (ap (λ (rs : List Record). rs ++ record_of c.args.state.now ∷ []) (c.in_ok-reserve.ensures.same.records ∙ c.new-log.ensures.records)
    ∙ (ap (λ (w : FlatState). record_of w ∷ []) c.requires ∙ sym (first-records c.args.design.now)))
