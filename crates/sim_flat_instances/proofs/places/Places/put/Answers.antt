use Rattle.sim_flat_instances.proofs.Maps.{put}
use Rattle.sim_flat_instances.proofs.places.Places.put.Goals as goal

pub returns : goal.returns
returns c = put c.args.name c.args.place c.self.inside.places.entries c.insert.new.self.entries c.args.self.now c.in_ok-insert.ensures.updates.0 c.self.view_is
