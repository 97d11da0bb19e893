use Rattle.std.proofs.Common.{List, Bor, slice_get, ap, sym, ◌∙◌}
use Rattle.sim_text_tree.specs.declared.unit.Entity.{Entity}
use Rattle.sim_flat_instances.specs.Libraries.{Library}
use Rattle.sim_flat_instances.proofs.Reading.{got}
use Rattle.sim_flat_instances.proofs.ReferencePlaces.{entity_none, entity_some}
use Rattle.sim_flat_instances.proofs.library.Library.entity.Goals as goal

pub returns-in-None : goal.returns-in-None
returns-in-None c = entity_none c.args.self.now _ c.args.name.now (ap (λ (l : Library). l.entities) c.self.view_is)
    (sym (c.self.invariant.2 c.args.name.now) ∙ (sym c.find.ensures ∙ c.in-None.is))

pub returns-in-Some : goal.returns-in-Some
returns-in-Some c =
    let es = c.self.inside.entities.list.items in
    let read = c.copied.ensures ∙ (got c.get.result c.deref.result.now c.in-Some.place c.get.ensures.lookup.3 c.get.ensures.lookup.1
    ∙ ap (λ (xs : List (Bor Entity)). slice_get xs c.in-Some.place) c.deref.ensures.value) in
    entity_some c.args.self.now es c.args.name.now c.in-Some.place c.copied.result (ap (λ (l : Library). l.entities) c.self.view_is)
    (sym (c.self.invariant.2 c.args.name.now) ∙ (sym c.find.ensures ∙ c.in-Some.is)) read
