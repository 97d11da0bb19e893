use Rattle.std.proofs.Common.{arith}
use Rattle.std.proofs.lemmas.Grind.{common_steps}
use Rattle.sim_text_reader.proofs.cursor.logic_of.Goals as goal

pub returns-in-U : goal.returns-in-U
returns-in-U c = grind (arith, common_steps)

pub returns-in-X : goal.returns-in-X
returns-in-X c = grind (arith, common_steps)

pub returns-in-48 : goal.returns-in-48
returns-in-48 c = grind (arith, common_steps)

pub returns-in-49 : goal.returns-in-49
returns-in-49 c = grind (arith, common_steps)

pub returns-in-Z : goal.returns-in-Z
returns-in-Z c = grind (arith, common_steps)

pub returns-in-W : goal.returns-in-W
returns-in-W c = grind (arith, common_steps)

pub returns-in-L : goal.returns-in-L
returns-in-L c = grind (arith, common_steps)

pub returns-in-H : goal.returns-in-H
returns-in-H c = grind (arith, common_steps)

pub returns-in-45 : goal.returns-in-45
returns-in-45 c = grind (arith, common_steps)
