use Rattle.std.proofs.Common.{ap, sym, ◌∙◌, arith, get_or, refl}
use Rattle.std.proofs.lemmas.Option.{slice_get_read, slice_get_past}
use Rattle.sim_flat_blocks.specs.declared.links.Link.TheVariants.{Open}
use Rattle.sim_flat_blocks.specs.Links.{kept, link_in}
use Rattle.sim_flat_blocks.proofs.KeptLinks.{at_place, past_places}
use Rattle.sim_flat_blocks.proofs.links.Links.get.Goals as goal

pub returns-then-place-self : goal.returns-then-place-self
returns-then-place-self c =
    sym (ap (λ ls. get_or ls c.args.place Open) (sym c.self.view_is)
    ∙ past_places c.self.inside.first.items c.self.inside.others.entries c.self.inside.ports c.args.place (omega arith))

pub returns-then-place-len : goal.returns-then-place-len
returns-then-place-len c =
    ap (λ o. link_in o (kept c.self.inside.others.entries c.args.place))
    (sym (slice_get_read c.self.inside.first.items _ c.args.place c.index.result.now refl (omega arith) c.index.ensures))
    ∙ sym (ap (λ ls. get_or ls c.args.place Open) (sym c.self.view_is)
    ∙ at_place c.self.inside.first.items c.self.inside.others.entries c.self.inside.ports c.args.place (omega arith))

pub returns : goal.returns
returns c =
    c.other.ensures
    ∙ (ap (λ o. link_in o (kept c.self.inside.others.entries c.args.place)) (sym (slice_get_past c.self.inside.first.items c.args.place (omega arith)))
    ∙ sym (ap (λ ls. get_or ls c.args.place Open) (sym c.self.view_is)
    ∙ at_place c.self.inside.first.items c.self.inside.others.entries c.self.inside.ports c.args.place (omega arith)))
