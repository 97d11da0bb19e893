use Rattle.std.proofs.Common.{ℕ, sym, subst, List, ap, length, arith, ◌∙◌}
use Rattle.std.specs.List.{enumerate_from}
use Rattle.sim_logic.specs.declared.logic.Logic.{Logic}
use Rattle.sim_standard.specs.Records.{values_of}
use Rattle.sim_store_state.proofs.Logged.{all_values}
use Rattle.sim_store_state.specs.FlatState.{FlatState}
use Rattle.sim_store_state.specs.Log.{IsRecorded}
use Rattle.sim_store_state.proofs.Contents.{net-count}
use Rattle.sim_store_state.proofs.flat_state.FlatState.record_all.Goals as goal

pub append_all-requires : goal.append_all-requires
append_all-requires c =
    let n = net-count c.self.view_is c.self.invariant in
    let v = ap length c.seen.ensures.values in
    record {
      few = omega (arith, c.requires.few, n, v);
      next = c.requires.next;
      room = record { time = c.requires.room.time; entries = omega (arith, c.requires.room.entries, n, v) };
    }

pub returns : goal.returns
returns c =
    let s = c.self.inside in
    let as_recorded = λ (changes : List (ℕ × Logic)).
    IsRecorded c.args.log.now c.append_all.new.self (record { time = c.args.time; delta = c.args.delta; changes = changes }) in
    subst as_recorded
    (ap (λ v. enumerate_from 0 v) c.seen.ensures.values
    ∙ (sym (all_values 0 s.values.present s.values.before (sym c.self.invariant.nets)) ∙ ap (λ (h : FlatState). values_of h.nets) c.self.view_is))
    c.append_all.ensures
