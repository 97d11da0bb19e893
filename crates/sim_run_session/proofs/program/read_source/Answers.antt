use Rattle.std.proofs.Common.{arith}
use Rattle.std.proofs.lemmas.Grind.{common_steps}
use Rattle.sim_run_session.proofs.program.read_source.Goals as goal

pub returns-then-len-most-clause-source :
    goal.returns-then-len-most-clause-source
returns-then-len-most-clause-source g c = grind (arith, common_steps)

pub loop-preserved : goal.loop-preserved
loop-preserved g c = grind (arith, common_steps)
