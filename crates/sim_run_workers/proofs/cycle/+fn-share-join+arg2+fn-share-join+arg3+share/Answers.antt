use denote.Exit as exit
use denote.Param.Send.{IsSync}
use Rattle.std.proofs.Common.{rules}
use Rattle.sim_run_workers.proofs.Crossing.{worker_send}
use Rattle.sim_run_workers.proofs.cycle.+fn-share-join+arg2+fn-share-join+arg3+share.Goals as goal

pub join-seat-requires-send-F : goal.join-seat-requires-send-F
join-seat-requires-send-F g t c κs within =
    let r : IsSync g.row.R = search rules in
    let s : IsSync g.row.G = search rules in
    worker_send 1 _ exit.no _ g.row.R g.row.G _ _ _ _ r s
