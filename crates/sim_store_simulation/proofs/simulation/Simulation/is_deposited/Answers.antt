use Rattle.std.proofs.Common.{List, Bool, ap, sym, ◌∙◌}
use Rattle.sim_store_simulation.specs.Simulation.{Simulation, those_in}
use Rattle.sim_store_simulation.proofs.Boxes.{shown}
use Rattle.sim_store_simulation.proofs.Listed.{executed-due, executed-marked}
use Rattle.sim_store_simulation.proofs.simulation.Simulation.is_deposited.Goals as goal

pub returns-then-contents : goal.returns-then-contents
returns-then-contents c =
    let m = c.deref-contents.result.now in
    let view = shown c.self.inside.design c.deref-contents.ensures c.self.view_is in
    let due = executed-due m.all_executed m.due m.deposited c.if-contents.true in
    c.has.ensures ∙ (ap (λ (executed : List Bool). those_in executed c.args.number) (sym due)
    ∙ ap (λ (g : Simulation). those_in g.deposited c.args.number) view)

pub returns : goal.returns
returns c =
    let m = c.deref-contents.result.now in
    let view = shown c.self.inside.design c.deref-contents.ensures c.self.view_is in
    let marks = executed-marked m.all_executed m.due m.deposited c.if-contents.false in
    c.contains.ensures ∙ (ap (λ (executed : List Bool). those_in executed c.args.number) (sym marks)
    ∙ ap (λ (g : Simulation). those_in g.deposited c.args.number) view)
