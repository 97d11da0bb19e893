use Rattle.std.proofs.Common.{arith}
use Rattle.sim_text_reader.proofs.UnitParts.{ports_in_parts}
use Rattle.sim_text_reader.proofs.declarations.ports.Goals as goal

pub returns-then-not-eat : goal.returns-then-not-eat
returns-then-not-eat c = grind (arith, ports_in_parts)

pub returns-in_err-expect : goal.returns-in_err-expect
returns-in_err-expect c = grind (arith, ports_in_parts)

pub returns-in_err-found : goal.returns-in_err-found
returns-in_err-found c = grind (arith, ports_in_parts)

pub returns-in_err-expect_both : goal.returns-in_err-expect_both
returns-in_err-expect_both c = grind (arith, ports_in_parts)

pub returns : goal.returns
returns c = grind (arith, ports_in_parts)
