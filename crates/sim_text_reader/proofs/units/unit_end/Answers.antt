use Rattle.std.proofs.Common.{rules}
use Rattle.sim_text_reader.proofs.units.unit_end.Goals as goal

pub returns-in_err-name_repeated : goal.returns-in_err-name_repeated
returns-in_err-name_repeated c = search rules

pub returns : goal.returns
returns c = search rules
