use Rattle.std.proofs.Common.{arith}
use Rattle.sim_text_reader.proofs.StatementParts.{signal_assigned_in_parts}
use Rattle.sim_text_reader.proofs.statements.signal_assigned.Goals as goal

pub returns-in_err-mechanism : goal.returns-in_err-mechanism
returns-in_err-mechanism c = grind (arith, signal_assigned_in_parts)

pub returns-in_err-delay : goal.returns-in_err-delay
returns-in_err-delay c = grind (arith, signal_assigned_in_parts)

pub returns : goal.returns
returns c = grind (arith, signal_assigned_in_parts)
