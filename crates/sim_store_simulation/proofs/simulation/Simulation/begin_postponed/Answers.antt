use Rattle.std.proofs.Common.{◌≡◌, List, Bool, false, length, replicate, sym, ap, ◌∙◌, subst}
use Rattle.std.proofs.lemmas.List.{length-replicate}
use Rattle.sim_store_simulation.specs.Simulation.{Simulation, ArePostponedNext, IsComplete, in_postponed_phase, updated_last}
use Rattle.sim_store_simulation.specs.declared.phase.Phase.TheVariants as phase
use Rattle.sim_store_simulation.proofs.Going.{none-marked-for, postponed-keeps}
use Rattle.sim_store_simulation.specs.declared.simulation.Contents.{Contents}
use Rattle.sim_store_simulation.specs.Contents.{IsOf, simulation_of}
use Rattle.sim_store_simulation.proofs.Boxes.{held, shown}
use Rattle.sim_store_simulation.proofs.simulation.Simulation.begin_postponed.Goals as goal

pub invariant_of-self : goal.invariant_of-self
invariant_of-self c =
    let m = c.deref_mut-contents.result.now in
    let kept = held c.self.inside.design c.deref_mut-contents.ensures.value c.self.invariant in
    let view = shown c.self.inside.design c.deref_mut-contents.ensures.value c.self.view_is in
    let s = c.self.inside in
    let i = kept.state in
    let all = subst IsComplete (sym view) c.requires.complete in
    let first = subst (λ (g : Simulation). g.phase ≡ phase.NonPostponed) (sym view) c.requires.phase in
    let next = subst (λ (g : Simulation). ArePostponedNext g.design g.cycles (updated_last g)) (sym view) c.requires.next in
    subst (λ (w : Contents). IsOf s.design w) (sym c.begin_phase.ensures) (record {
      compiled = kept.compiled;
      marked = kept.marked;
      state = postponed-keeps i all first next c.take.new.self (replicate (length m.deposited) false)
          (c.take.ensures.sized ∙ (i.due_sized ∙ sym i.waiting_sized)) c.take.ensures.same (none-marked-for i m.deposited kept.marks_sized);
      marks_sized = length-replicate (length m.deposited) false ∙ kept.marks_sized;
      counts = kept.counts;
    })

pub returns : goal.returns
returns c =
    let m = c.deref_mut-contents.result.now in
    let kept = held c.self.inside.design c.deref_mut-contents.ensures.value c.self.invariant in
    let view = shown c.self.inside.design c.deref_mut-contents.ensures.value c.self.view_is in
    ap (simulation_of c.self.inside.design) c.begin_phase.ensures
    ∙ (ap (λ (marks : List Bool). record (in_postponed_phase (simulation_of c.self.inside.design m)) { deposited = marks })
    (none-marked-for kept.state m.deposited kept.marks_sized) ∙ ap in_postponed_phase view)
