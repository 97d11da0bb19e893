use Rattle.std.proofs.Common.{arith}
use Rattle.std.proofs.lemmas.Grind.{common_steps}
use Rattle.sim_flat_instances.proofs.interface.same_ports.Goals as goal
use Rattle.sim_flat_instances.proofs.Alike.{other_counts}
use Rattle.sim_flat_instances.specs.Interfaces.{are_alike}

pub returns-then-first-second : goal.returns-then-first-second
returns-then-first-second c = other_counts _ _ c.if-first-second.true

pub returns-then-not-same_port : goal.returns-then-not-same_port
unfolding are_alike
returns-then-not-same_port c = grind (arith, common_steps)

pub loop-place-preserved : goal.loop-place-preserved
unfolding are_alike
loop-place-preserved c = grind (arith, common_steps)

pub returns : goal.returns
unfolding are_alike
returns c = grind (arith, common_steps)
