use Rattle.std.proofs.Common.{◌∙◌, ℕ, List, ap}
use Rattle.sim_flat_instances.specs.Places.{place_of}
use Rattle.sim_flat_instances.proofs.Maps.{found}
use Rattle.sim_flat_instances.proofs.places.Places.find.Goals as goal

pub returns : goal.returns
returns c = c.copied.ensures
    ∙ (c.get.ensures.value ∙ (found c.args.name.now c.self.inside.places.entries ∙ ap (λ (x : List (List ℕ × ℕ)). place_of x c.args.name.now) c.self.view_is))
