use Rattle.std.proofs.Common.{sym, ◌∙◌}
use Rattle.sim_flat_instances.proofs.MissingPorts.{some_missed, none_missed}
use Rattle.sim_flat_instances.proofs.port_map.PortMap.check_missing.Goals as goal

pub returns-then-misses_one : goal.returns-then-misses_one
returns-then-misses_one c =
    c.note.ensures ∙ some_missed c.args.self.now c.args.label c.args.first.now (sym c.misses_one.ensures ∙ c.if-misses_one.true)

pub returns-else-misses_one : goal.returns-else-misses_one
returns-else-misses_one c = none_missed c.args.self.now c.args.label c.args.first.now (sym c.misses_one.ensures ∙ c.if-misses_one.false)
