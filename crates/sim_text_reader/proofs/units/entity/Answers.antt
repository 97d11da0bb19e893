use Rattle.std.proofs.Common.{arith}
use Rattle.sim_text_reader.proofs.UnitParts.{entity_in_parts}
use Rattle.sim_text_reader.proofs.units.entity.Goals as goal

pub returns-in_err-name : goal.returns-in_err-name
returns-in_err-name c = grind (arith, entity_in_parts)

pub returns-in_err-ports : goal.returns-in_err-ports
returns-in_err-ports c = grind (arith, entity_in_parts)

pub returns-in_err-word_repeated : goal.returns-in_err-word_repeated
returns-in_err-word_repeated c = grind (arith, entity_in_parts)

pub returns : goal.returns
returns c = grind (arith, entity_in_parts)
