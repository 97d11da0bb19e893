use Rattle.std.proofs.Common.{arith}
use Rattle.std.proofs.lemmas.Grind.{common_steps}
use Rattle.sim_text_tokens.proofs.scan.number_tail.Goals as goal

pub loop-rest-preserved-then-is_ascii_digit : goal.loop-rest-preserved-then-is_ascii_digit
loop-rest-preserved-then-is_ascii_digit c = grind (arith, common_steps)

pub loop-rest-preserved : goal.loop-rest-preserved
loop-rest-preserved c = grind (arith, common_steps)
