use Rattle.std.proofs.Common.{arith}
use Rattle.std.proofs.lemmas.Grind.{common_steps}
use Rattle.sim_text_reader.proofs.UnitParts.{component_in_parts}
use Rattle.sim_text_reader.proofs.declarations.component.Goals as goal

pub word_after-requires : goal.word_after-requires
word_after-requires c = grind (arith, common_steps, component_in_parts)

pub eat-is-requires : goal.eat-is-requires
eat-is-requires c = grind (arith, common_steps, component_in_parts)

pub ports-requires : goal.ports-requires
ports-requires c = grind (arith, common_steps, component_in_parts)

pub component_end-requires : goal.component_end-requires
component_end-requires c = grind (arith, common_steps, component_in_parts)

pub returns-in_err-name : goal.returns-in_err-name
returns-in_err-name c = grind (arith, common_steps, component_in_parts)

pub returns-in_err-ports : goal.returns-in_err-ports
returns-in_err-ports c = grind (arith, common_steps, component_in_parts)

pub returns : goal.returns
returns c = grind (arith, common_steps, component_in_parts)
