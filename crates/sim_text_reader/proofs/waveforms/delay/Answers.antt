use Rattle.std.proofs.Common.{rules}
use Rattle.sim_text_grammar.specs.Waveforms.{delay}
use Rattle.sim_text_reader.proofs.waveforms.delay.Goals as goal

pub returns-in_ok-limit-in-Reject : goal.returns-in_ok-limit-in-Reject
unfolding delay
returns-in_ok-limit-in-Reject c = search rules
