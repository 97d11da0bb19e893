use Rattle.std.proofs.Common.{arith}
use Rattle.sim_text_reader.proofs.UnitParts.{entity_named_in_parts}
use Rattle.sim_text_reader.proofs.concurrents.entity_named.Goals as goal

pub returns-in_err-library : goal.returns-in_err-library
returns-in_err-library c = grind (arith, entity_named_in_parts)

pub returns-in_err-entity : goal.returns-in_err-entity
returns-in_err-entity c = grind (arith, entity_named_in_parts)

pub returns-in_err-architecture : goal.returns-in_err-architecture
returns-in_err-architecture c = grind (arith, entity_named_in_parts)

pub returns : goal.returns
returns c = grind (arith, entity_named_in_parts)
