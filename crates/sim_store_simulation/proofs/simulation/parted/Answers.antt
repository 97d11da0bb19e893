use Rattle.std.proofs.Common.{ℕ, ◌<◌, Bool, List, length, not, ap, ◌∙◌, arith}
use Rattle.sim_flat_design.specs.Processes.{Process}
use Rattle.sim_standard.specs.Processes.{process_at}
use Rattle.sim_store_simulation.specs.Simulation.{those_in}
use Rattle.sim_store_simulation.proofs.simulation.parted.Goals as goal

pub returns-clause-parted : goal.returns-clause-parted
returns-clause-parted c =
    let all = ap length c.processes-processes.ensures.value in
    let w = c.in_ok-waiting.waiting in
    let postponed = λ (p : ℕ) (lt : p < length c.args.design.now.processes).
    c.in_ok-waiting.ensures.postponed p (omega (arith, lt, all))
    ∙ ap (λ (ps : List Process). (process_at ps p).postponed) c.processes-processes.ensures.value in
    record {
      due_sized = c.in_ok-due.ensures.sized ∙ all;
      waiting_sized = c.first.ensures.waiting_sized ∙ (c.in_ok-waiting.ensures.waiting_sized ∙ all);
      due_are = λ p lt. c.in_ok-due.ensures.due p (omega (arith, lt, all)) ∙ ap not (postponed p lt);
      waiting_are = λ p lt. c.in_ok-due.ensures.moved p (omega (arith, lt, all)) ∙ (rw (c.in_ok-waiting.ensures.none p) (postponed p lt));
    }

pub returns-clause-postponed : goal.returns-clause-postponed
returns-clause-postponed c =
    let all = ap length c.processes-processes.ensures.value in
    record {
      sized = ap length c.first.ensures.postponed ∙ (c.in_ok-waiting.ensures.postponed_sized ∙ all);
      are = λ p lt.
          ap (λ (s : List Bool). those_in s p) c.first.ensures.postponed
          ∙ (c.in_ok-waiting.ensures.postponed p (omega (arith, lt, all))
          ∙ ap (λ (ps : List Process). (process_at ps p).postponed) c.processes-processes.ensures.value);
    }
