use Rattle.std.proofs.Common.{arith}
use Rattle.std.proofs.lemmas.Grind.{common_steps}
use Rattle.sim_store_simulation.proofs.Listed.{marked-of}
use Rattle.sim_store_simulation.proofs.simulation.execute_all.Goals as goal

pub execute_listed-requires-clause-of : goal.execute_listed-requires-clause-of
execute_listed-requires-clause-of c = marked-of c.args.design.now c.args.contents.now c.if-contents.false c.requires

pub execute_listed-requires-clause-fresh : goal.execute_listed-requires-clause-fresh
execute_listed-requires-clause-fresh c = grind (arith, common_steps)
