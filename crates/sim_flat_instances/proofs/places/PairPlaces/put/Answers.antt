use Rattle.sim_flat_instances.proofs.Maps.{pair_put}
use Rattle.sim_flat_instances.proofs.places.PairPlaces.put.Goals as goal

pub returns : goal.returns
returns c = pair_put (c.args.first, c.args.second) c.args.place c.self.inside.places.entries c.insert.new.self.entries c.args.self.now
    c.in_ok-insert.ensures.updates.0 c.self.view_is
