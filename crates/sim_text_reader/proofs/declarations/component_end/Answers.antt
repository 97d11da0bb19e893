use Rattle.std.proofs.Common.{arith}
use Rattle.sim_text_reader.proofs.UnitParts.{component_end_in_parts}
use Rattle.sim_text_reader.proofs.declarations.component_end.Goals as goal

pub returns-in_err-expect_both : goal.returns-in_err-expect_both
returns-in_err-expect_both c = grind (arith, component_end_in_parts)

pub returns-in_err-name_repeated : goal.returns-in_err-name_repeated
returns-in_err-name_repeated c = grind (arith, component_end_in_parts)

pub returns : goal.returns
returns c = grind (arith, component_end_in_parts)
