use Rattle.sim_standard.proofs.Frame.{the_frame}
use Rattle.sim_standard.proofs.execution.a_process_reads_and_changes_only_its_part.Goals as goal

pub returns : goal.returns
returns c = the_frame
