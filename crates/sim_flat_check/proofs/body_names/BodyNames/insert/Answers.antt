use Rattle.std.proofs.Common.{◌∙◌}
use Rattle.sim_flat_check.proofs.KnownNames.{is_new, inserted}
use Rattle.sim_flat_check.proofs.body_names.BodyNames.insert.Goals as goal

pub returns-clause-is_new : goal.returns-clause-is_new
returns-clause-is_new c = c.in_ok-is_new.ensures.added ∙ is_new (c.args.entity, c.args.name) c.self.inside.names.keys c.args.self.now c.self.view_is

pub returns-clause-names : goal.returns-clause-names
returns-clause-names c = inserted (c.args.entity, c.args.name) c.self.inside.names.keys c.insert.new.self.keys c.args.self.now
    c.in_ok-is_new.ensures.keys c.self.view_is
