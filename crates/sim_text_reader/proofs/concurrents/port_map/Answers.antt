use Rattle.std.proofs.Common.{arith}
use Rattle.sim_text_reader.proofs.UnitParts.{port_map_in_parts}
use Rattle.sim_text_reader.proofs.concurrents.port_map.Goals as goal

pub returns-then-not-eat : goal.returns-then-not-eat
returns-then-not-eat c = grind (arith, port_map_in_parts)

pub returns-in_err-expect_both : goal.returns-in_err-expect_both
returns-in_err-expect_both c = grind (arith, port_map_in_parts)

pub returns-in_err-found : goal.returns-in_err-found
returns-in_err-found c = grind (arith, port_map_in_parts)

pub returns : goal.returns
returns c = grind (arith, port_map_in_parts)
