use Rattle.std.proofs.Common.{arith}
use Rattle.sim_text_reader.proofs.UnitParts.{process_body_in_parts}
use Rattle.sim_text_reader.proofs.concurrents.process_body.Goals as goal

pub returns-in_err-statements : goal.returns-in_err-statements
returns-in_err-statements c = grind (arith, process_body_in_parts)

pub returns-in_err-postponed_repeated : goal.returns-in_err-postponed_repeated
returns-in_err-postponed_repeated c = grind (arith, process_body_in_parts)

pub returns-in_err-label_repeated : goal.returns-in_err-label_repeated
returns-in_err-label_repeated c = grind (arith, process_body_in_parts)

pub returns : goal.returns
returns c = grind (arith, process_body_in_parts)
