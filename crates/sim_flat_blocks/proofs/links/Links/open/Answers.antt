use Rattle.std.proofs.Common.{◌≡◌, List, [], ap, sym, ◌∙◌, replicate}
use Rattle.sim_flat_blocks.specs.declared.links.Link.{Link}
use Rattle.sim_flat_blocks.specs.declared.links.Link.TheVariants.{Open}
use Rattle.sim_flat_blocks.specs.Links.{by_place, unlinked}
use Rattle.sim_flat_blocks.proofs.KeptLinks.{none_kept, open_unlinked}
use Rattle.sim_flat_blocks.proofs.links.Links.open.Goals as goal
use Rattle.sim_flat_blocks.proofs.links.Links.open.Goals.{After-new}

open_places : (c : After-new) → by_place c.in_ok-first.first.items c.new.result.entries c.args.ports ≡ replicate c.args.ports Open
open_places c =
    ap (λ es. by_place c.in_ok-first.first.items es c.args.ports) c.new.ensures.empty
    ∙ (ap (λ (ls : List Link). by_place ls [] c.args.ports) c.in_ok-first.ensures
    ∙ none_kept c.min.result c.args.ports)

pub invariant_of-result : goal.invariant_of-result
invariant_of-result c = sym (ap unlinked (open_places (goal.at.invariant_of-result c).After-new) ∙ open_unlinked c.args.ports)

pub returns : goal.returns
returns c = open_places (goal.at.returns c).After-new
