use Rattle.std.proofs.Common.{arith}
use Rattle.sim_text_reader.proofs.UnitParts.{architecture_body_in_parts}
use Rattle.sim_text_reader.proofs.units.architecture_body.Goals as goal

pub returns-in_err-statements : goal.returns-in_err-statements
returns-in_err-statements c = grind (arith, architecture_body_in_parts)

pub returns-in_err-word_repeated : goal.returns-in_err-word_repeated
returns-in_err-word_repeated c = grind (arith, architecture_body_in_parts)

pub returns : goal.returns
returns c = grind (arith, architecture_body_in_parts)
