use Rattle.std.proofs.Common.{arith}
use Rattle.sim_text_reader.proofs.StatementParts.{if_end_in_parts}
use Rattle.sim_text_reader.proofs.statements.if_end.Goals as goal

pub returns-in_err-expect_both : goal.returns-in_err-expect_both
returns-in_err-expect_both c = grind (arith, if_end_in_parts)

pub returns-in_err-label_repeated : goal.returns-in_err-label_repeated
returns-in_err-label_repeated c = grind (arith, if_end_in_parts)

pub returns : goal.returns
returns c = grind (arith, if_end_in_parts)
