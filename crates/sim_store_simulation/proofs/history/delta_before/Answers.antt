use Rattle.std.proofs.Common.{◌∙◌, ap, arith, drop}
use Rattle.sim_store_state.specs.Log.{records_after}
use Rattle.sim_store_simulation.proofs.Reading.{delta-below, none-begins, time-begins}
use Rattle.sim_store_simulation.proofs.history.delta_before.Goals as goal

pub returns-then-from-entries-clause-same : goal.returns-then-from-entries-clause-same
returns-then-from-entries-clause-same c times n time =
    none-begins c.args.entries.now c.args.from (omega (arith, c.if-from-entries.true)) times n time _ _

pub returns-then-times_of-ne0-clause-same : goal.returns-then-times_of-ne0-clause-same
returns-then-times_of-ne0-clause-same c times n time =
    time-begins c.args.entries.now c.args.from _ (omega (arith, c.requires, c.if-from-entries.false))
    (λ w. c.if-times_of-ne0.true (c.times_of.ensures ∙ w)) times n time _ _

pub returns : goal.returns
returns c = record {
  few = delta-below c.args.entries.now c.args.from _ c.requires c.last_delta.ensures;
  same = λ times n time. ap (λ m. records_after times n time m (drop c.args.from c.args.entries.now)) c.last_delta.ensures;
}
