use denote.Param.Send.{sendable}
use Rattle.std.proofs.Crossing.{crosses}
use Rattle.sim_store.proofs.Crossing.{store_send, store_sync}
use Rattle.sim_run_tests.proofs.sharing.run_and_watch.Goals as goal

pub join-requires-send-F : goal.join-requires-send-F
join-requires-send-F g c κs within = search (store_send, store_sync, crosses, sendable) depth 40
