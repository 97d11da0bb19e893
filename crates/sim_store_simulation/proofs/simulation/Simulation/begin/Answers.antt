use Rattle.std.proofs.Common.{◌≤◌, arith, sym, rules, false, List, [], length, refl, ap, ◌∙◌, subst}
use Rattle.std.proofs.lemmas.List.{length-replicate}
use Rattle.std.specs.List.{All}
use Rattle.sim_flat_design.specs.Designs.{AreOwned}
use Rattle.sim_flat_design.specs.Processes.{Process, IsProcess}
use Rattle.sim_store_state.specs.declared.log.Past.{Past}
use Rattle.sim_store_simulation.proofs.Counting.{totals-begin}
use Rattle.sim_store_simulation.proofs.Going.{begins, first-records}
use Rattle.sim_store_simulation.proofs.simulation.Simulation.begin.Goals as goal

pub invariant_of-result : goal.invariant_of-result
invariant_of-result c =
    let m = c.in-Ok.ensures.contents in
    let start = c.in-Ok.ensures.start in
    let owned : AreOwned (length c.args.design.nets) 0 0 c.args.design.processes c.args.design.drivers = search rules in
    let all : All IsProcess c.args.design.processes = subst (λ (ps : List Process). All IsProcess ps) c.processes.ensures.value c.are_processes.ensures in
    let begun = begins c.args.design _ c.in-Ok.contents.value.state c.in-Ok.contents.value.due
    c.in-Ok.contents.value.waiting.waiting c.in-Ok.contents.value.deposited
    (search rules) owned all start.0 m.held_is m.parted m.deposited_is in
    record {
      compiled = m.compiled;
      marked = m.marked;
      state = rw (start.1, start.2, start.3, start.4) begun;
      marks_sized = ap length m.deposited_is ∙ length-replicate (length c.args.design.processes) false;
      counts = rw start.0 (totals-begin (length c.args.design.nets) _ _ c.in-Ok.contents.value.totals.items (first-records c.args.design) m.totals_is);
    }

pub returns-in-Ok-clause-ok : goal.returns-in-Ok-clause-ok
returns-in-Ok-clause-ok c =
    let start = c.in-Ok.ensures.start in
    rw (start.0, start.3, start.4, c.in-Ok.ensures.contents.deposited_is) refl

pub returns-in-Ok-clause-log : goal.returns-in-Ok-clause-log
returns-in-Ok-clause-log c =
    let start = c.in-Ok.ensures.start in
    rw (start.0, start.3) (record {
      given = [];
      all = c.in-Ok.ensures.records;
      records = ap (λ (p : Past). p.records) c.in-Ok.ensures.past;
      changes = ap (λ (p : Past). p.changes) c.in-Ok.ensures.past;
      begun = λ none. c.in-Ok.ensures.past;
      slow = subst (λ (p : Past). p.delta ≤ p.records) (sym c.in-Ok.ensures.past) (omega arith);
      last = c.in-Ok.ensures.last;
    })
