use Rattle.sim_exec_statements.proofs.Places.{made_rising}
use Rattle.sim_exec.proofs.done.SightNets.view.Goals as goal

pub place_in-requires : goal.place_in-requires
place_in-requires c = made_rising c.reads.result.now _ c.reads.ensures.reads
