use Rattle.std.proofs.Common.{◌+◌, ◌*◌}
use Rattle.sim_run_workers.proofs.cycle.+fn-share-join+arg2+fn-share-join+arg3+share.Given as goal

abbrev pub decreases-join+arg2 : goal.decreases-join+arg2
decreases-join+arg2 g l = 2 * l.rest + 1

abbrev pub decreases-join+arg3 : goal.decreases-join+arg3
decreases-join+arg3 g l = 2 * l.half + 1

abbrev pub decreases-share : goal.decreases-share
decreases-share g l = 2 * l.workers
