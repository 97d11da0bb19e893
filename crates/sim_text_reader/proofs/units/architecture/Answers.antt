use Rattle.std.proofs.Common.{arith}
use Rattle.sim_text_reader.proofs.UnitParts.{architecture_in_parts}
use Rattle.sim_text_reader.proofs.units.architecture.Goals as goal

pub returns-in_err-name : goal.returns-in_err-name
returns-in_err-name c = grind (arith, architecture_in_parts)

pub returns-in_err-entity : goal.returns-in_err-entity
returns-in_err-entity c = grind (arith, architecture_in_parts)

pub returns-in_err-declarations : goal.returns-in_err-declarations
returns-in_err-declarations c = grind (arith, architecture_in_parts)

pub returns : goal.returns
returns c = grind (arith, architecture_in_parts)
