use Rattle.std.proofs.lemmas.Grind.{common_steps}
use Rattle.std.proofs.Common.{rules, arith}
use Rattle.sim_containers.proofs.times.TimeQueue.take_due.Goals as goal

pub returns-clause-drivers : goal.returns-clause-drivers
returns-clause-drivers c = search rules

pub take-requires-clause-sized : goal.take-requires-clause-sized
take-requires-clause-sized c = grind (arith, common_steps)

pub list-requires : goal.list-requires
list-requires c = grind (arith, common_steps)
