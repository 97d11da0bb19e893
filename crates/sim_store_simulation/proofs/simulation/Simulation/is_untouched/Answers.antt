use Rattle.std.proofs.Common.{List, Bool, ap, sym, ◌∙◌}
use Rattle.sim_store_simulation.specs.Simulation.{Simulation, those_in}
use Rattle.sim_store_simulation.proofs.Boxes.{shown}
use Rattle.sim_store_simulation.proofs.Listed.{executed-marked}
use Rattle.sim_store_simulation.proofs.Members.{none-replicated}
use Rattle.sim_store_simulation.proofs.simulation.Simulation.is_untouched.Goals as goal

pub returns : goal.returns
returns c empty p =
    let m = c.deref-contents.result.now in
    let view = shown c.self.inside.design c.deref-contents.ensures c.self.view_is in
    let marks = executed-marked m.all_executed m.due m.deposited c.if-contents.false in
    ap (λ (g : Simulation). those_in g.deposited p) (sym view)
    ∙ (ap (λ (executed : List Bool). those_in executed p) marks
    ∙ (ap (λ (executed : List Bool). those_in executed p) (c.is_empty.ensures.0 empty) ∙ none-replicated _ p))
