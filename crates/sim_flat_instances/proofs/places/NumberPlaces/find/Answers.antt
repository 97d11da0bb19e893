use Rattle.std.proofs.Common.{◌∙◌, ℕ, List, ap}
use Rattle.sim_flat_instances.specs.Places.{place_of_number}
use Rattle.sim_flat_instances.proofs.Maps.{number_found}
use Rattle.sim_flat_instances.proofs.places.NumberPlaces.find.Goals as goal

pub returns : goal.returns
returns c = c.copied.ensures
    ∙ (c.get.ensures.value ∙ (number_found c.args.number c.self.inside.places.entries
    ∙ ap (λ (x : List (ℕ × ℕ)). place_of_number x c.args.number) c.self.view_is))
