use Rattle.std.proofs.Common.{◌∙◌, ℕ, List, ap}
use Rattle.sim_flat_instances.specs.Places.{place_of_both}
use Rattle.sim_flat_instances.proofs.Maps.{pair_found}
use Rattle.sim_flat_instances.proofs.places.PairPlaces.find.Goals as goal

pub returns : goal.returns
returns c = c.copied.ensures
    ∙ (c.get.ensures.value ∙ (pair_found c.args.first.now c.args.second.now c.self.inside.places.entries
    ∙ ap (λ (x : List ((List ℕ × List ℕ) × ℕ)). place_of_both x c.args.first.now c.args.second.now) c.self.view_is))
