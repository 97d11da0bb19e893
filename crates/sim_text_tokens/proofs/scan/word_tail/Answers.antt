use Rattle.std.proofs.Common.{arith}
use Rattle.std.proofs.lemmas.Grind.{common_steps}
use Rattle.sim_text_tokens.proofs.scan.word_tail.Goals as goal

pub loop-rest-preserved-then-is_ascii_alphanumeric : goal.loop-rest-preserved-then-is_ascii_alphanumeric
loop-rest-preserved-then-is_ascii_alphanumeric c = grind (arith, common_steps)

pub loop-rest-preserved : goal.loop-rest-preserved
loop-rest-preserved c = grind (arith, common_steps)
