use Rattle.std.proofs.Common.{◌∙◌}
use Rattle.sim_containers.proofs.Queues.{later_gone, later_kept}
use Rattle.sim_containers.proofs.times.is_later.Goals as goal

pub returns-then-later-now : goal.returns-then-later-now
returns-then-later-now c = later_gone c.args.now c.args.later c.args.time c.if-later-now.true

pub returns : goal.returns
returns c = c.is_time.ensures ∙ later_kept c.args.now c.args.later c.args.time c.if-later-now.false
