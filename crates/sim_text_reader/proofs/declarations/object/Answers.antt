use Rattle.std.proofs.Common.{arith}
use Rattle.sim_text_reader.proofs.UnitParts.{object_in_parts}
use Rattle.sim_text_reader.proofs.declarations.object.Goals as goal

pub returns-in_err-names : goal.returns-in_err-names
returns-in_err-names c = grind (arith, object_in_parts)

pub returns-in_err-mark : goal.returns-in_err-mark
returns-in_err-mark c = grind (arith, object_in_parts)

pub returns-in_err-initial : goal.returns-in_err-initial
returns-in_err-initial c = grind (arith, object_in_parts)

pub returns : goal.returns
returns c = grind (arith, object_in_parts)
