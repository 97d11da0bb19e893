use Rattle.std.proofs.Common.{◌≤◌, length, subst, sym, ap, ◌∙◌, arith}
use Rattle.sim_flat_design.specs.Designs.{most}
use Rattle.sim_store_simulation.specs.Simulation.{Simulation, due_numbers, is_due, those_in}
use Rattle.sim_standard.proofs.Numbers.{counted, counted-same, ranged}
use Rattle.sim_store_simulation.proofs.Listing.{listed-few}
use Rattle.sim_store_simulation.specs.Contents.{simulation_of}
use Rattle.sim_store_simulation.proofs.Boxes.{held, shown}
use Rattle.sim_store_simulation.proofs.simulation.Simulation.due.Goals as goal

pub returns-clause-value : goal.returns-clause-value
returns-clause-value c =
    let m = c.deref.result.now in
    let kept = held c.self.inside.design c.deref.ensures c.self.invariant in
    let view = shown c.self.inside.design c.deref.ensures c.self.view_is in
    let s = c.self.inside in
    let h = simulation_of s.design m in
    let i = kept.state in
    c.numbers.ensures ∙ (ranged (those_in m.due) 0 (length m.due) ∙ (ap (counted (those_in m.due) 0) i.due_sized
    ∙ (counted-same (those_in m.due) (is_due h) 0 (length h.design.processes) (λ k ge lt. i.due_are k (omega (arith, lt)))
    ∙ (sym (ranged (is_due h) 0 (length h.design.processes)) ∙ ap (λ (g : Simulation). due_numbers g) view))))

pub returns-clause-few : goal.returns-clause-few
returns-clause-few c =
    let m = c.deref.result.now in
    let kept = held c.self.inside.design c.deref.ensures c.self.invariant in
    let s = c.self.inside in
    let i = kept.state in
    let listed : length c.numbers.result.now ≤ length m.due =
    subst (λ ns. length ns ≤ length m.due) (sym c.numbers.ensures) (listed-few m.due) in
    let bound : length c.processes-processes.result.now ≤ most = c.processes-processes.ensures.bound in
    omega (arith, listed, i.due_sized, bound, ap length c.processes-processes.ensures.value)
