use Rattle.sim_text_grammar.proofs.WholeFiles.{large_time}
use Rattle.sim_text_grammar.proofs.laws.a_time_range_fault_is_at_a_number_too_large.Goals as goal

pub returns : goal.returns
returns c = λ tokens n e. large_time tokens n e
