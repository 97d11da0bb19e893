use Rattle.sim_flat_instances.proofs.Maps.{number_put}
use Rattle.sim_flat_instances.proofs.places.NumberPlaces.put.Goals as goal

pub returns : goal.returns
returns c = number_put c.args.number c.args.place c.self.inside.places.entries c.insert.new.self.entries c.args.self.now
    c.in_ok-insert.ensures.updates.0 c.self.view_is
