use Rattle.std.proofs.Common.{List, Bool, MatchOption, sym, subst}
use Rattle.sim_containers.specs.Numbers.{is_beside}
use Rattle.sim_containers.specs.Words.{IsNext, NoneFrom}
use Rattle.sim_store_simulation.specs.Simulation.{Simulation, IsComplete, IsLeastMissing}
use Rattle.sim_store_simulation.proofs.Walks.{least-missing}
use Rattle.sim_store_simulation.proofs.Boxes.{held, shown}
use Rattle.sim_store_simulation.proofs.Listed.{all-complete, executed-marked}
use Rattle.sim_store_simulation.proofs.simulation.Simulation.missing.Goals as goal

pub returns-then-contents : goal.returns-then-contents
returns-then-contents c =
    let kept = held c.self.inside.design c.deref-contents.ensures c.self.invariant in
    let view = shown c.self.inside.design c.deref-contents.ensures c.self.view_is in
    subst IsComplete view (all-complete c.self.inside.design c.deref-contents.result.now kept.state c.if-contents.true)

pub returns : goal.returns
returns c =
    let m = c.deref-contents.result.now in
    let kept = held c.self.inside.design c.deref-contents.ensures c.self.invariant in
    let view = shown c.self.inside.design c.deref-contents.ensures c.self.view_is in
    let marks = executed-marked m.all_executed m.due m.deposited c.if-contents.false in
    subst (λ (h : Simulation). MatchOption c.next_beside.result (IsComplete h) (IsLeastMissing h)) view
    (least-missing kept.state c.next_beside.result (subst (λ (executed : List Bool).
    MatchOption c.next_beside.result (NoneFrom (is_beside m.due executed) 0) (IsNext (is_beside m.due executed) 0)) (sym marks)
    c.next_beside.ensures.value))
