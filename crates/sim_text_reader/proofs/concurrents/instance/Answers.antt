use Rattle.std.proofs.Common.{arith}
use Rattle.sim_text_reader.proofs.UnitParts.{instance_in_parts}
use Rattle.sim_text_reader.proofs.concurrents.instance.Goals as goal

pub returns-in_err-unit : goal.returns-in_err-unit
returns-in_err-unit c = grind (arith, instance_in_parts)

pub returns : goal.returns
returns c = grind (arith, instance_in_parts)
