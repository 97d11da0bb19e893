use Rattle.std.proofs.Common.{None, Some, ap, sym, ◌∙◌}
use Rattle.std.specs.Option.{option_copied}
use Rattle.sim_flat_instances.specs.Libraries.{first_entity}
use Rattle.sim_flat_blocks.proofs.SharedPorts.{shared_by}
use Rattle.sim_flat_blocks.proofs.plan.ports_of_block.Goals as goal

pub returns-in_ok-none-in-None : goal.returns-in_ok-none-in-None
returns-in_ok-none-in-None c =
    c.in_ok-none-in-None.ensures ∙ (c.new.ensures
    ∙ shared_by c.args.library.now c.args.name.now.text c.entity_place.result c.args.shared.now None c.requires.shared
    (c.entity_place.ensures ∙ ap (first_entity c.args.library.now.entities) c.text.ensures.text)
    (sym (ap option_copied c.in-None.is) ∙ c.shared_at.ensures))

pub returns-in_ok-copy-in-Some : goal.returns-in_ok-copy-in-Some
returns-in_ok-copy-in-Some c =
    c.in_ok-copy-in-Some.ensures
    ∙ shared_by c.args.library.now c.args.name.now.text c.entity_place.result c.args.shared.now (Some c.in-Some.ports.now) c.requires.shared
    (c.entity_place.ensures ∙ ap (first_entity c.args.library.now.entities) c.text.ensures.text)
    (sym (ap option_copied c.in-Some.is) ∙ c.shared_at.ensures)
