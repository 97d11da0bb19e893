use Rattle.std.proofs.Common.{arith}
use Rattle.sim_text_reader.proofs.UnitParts.{process_in_parts}
use Rattle.sim_text_reader.proofs.concurrents.process.Goals as goal

pub returns-in_err-expect_both : goal.returns-in_err-expect_both
returns-in_err-expect_both c = grind (arith, process_in_parts)

pub returns-in_err-sensitivity : goal.returns-in_err-sensitivity
returns-in_err-sensitivity c = grind (arith, process_in_parts)

pub returns-in_err-variables : goal.returns-in_err-variables
returns-in_err-variables c = grind (arith, process_in_parts)

pub returns : goal.returns
returns c = grind (arith, process_in_parts)
