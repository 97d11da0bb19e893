use Rattle.std.proofs.Common.{arith}
use Rattle.std.proofs.lemmas.Grind.{common_steps}
use Rattle.sim_text_reader.proofs.cursor.unit_in.Goals as goal

pub returns-in-fs : goal.returns-in-fs
returns-in-fs c = grind (arith, common_steps)

pub returns-in-ps : goal.returns-in-ps
returns-in-ps c = grind (arith, common_steps)

pub returns-in-ns : goal.returns-in-ns
returns-in-ns c = grind (arith, common_steps)

pub returns-in-us : goal.returns-in-us
returns-in-us c = grind (arith, common_steps)

pub returns-in-ms : goal.returns-in-ms
returns-in-ms c = grind (arith, common_steps)

pub returns-in-hr : goal.returns-in-hr
returns-in-hr c = grind (arith, common_steps)

pub returns-in-sec : goal.returns-in-sec
returns-in-sec c = grind (arith, common_steps)

pub returns-in-min : goal.returns-in-min
returns-in-min c = grind (arith, common_steps)
