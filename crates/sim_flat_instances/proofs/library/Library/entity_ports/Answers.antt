use Rattle.std.proofs.Common.{ap, sym, ◌∙◌}
use Rattle.sim_flat_instances.specs.Libraries.{Library}
use Rattle.sim_flat_instances.proofs.Reading.{got}
use Rattle.sim_flat_instances.proofs.ReferencePlaces.{ports_none, ports_some}
use Rattle.sim_flat_instances.proofs.library.Library.entity_ports.Goals as goal

pub returns-in-None : goal.returns-in-None
returns-in-None c = ports_none c.args.self.now _ c.args.name.now (ap (λ (l : Library). l.entities) c.self.view_is)
    (sym (c.self.invariant.2 c.args.name.now) ∙ (sym c.find.ensures ∙ c.in-None.is))

pub returns-in-Some : goal.returns-in-Some
returns-in-Some c = got c.get.result c.deref.result.now c.in-Some.place c.get.ensures.lookup.3 c.get.ensures.lookup.1
    ∙ ports_some c.args.self.now _ c.args.name.now c.in-Some.place c.deref.result.now
    (ap (λ (l : Library). l.entities) c.self.view_is)
    (sym (c.self.invariant.2 c.args.name.now) ∙ (sym c.find.ensures ∙ c.in-Some.is)) (c.deref.ensures.value ∙ c.self.invariant.1)
