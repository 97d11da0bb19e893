use Rattle.std.proofs.Common.{◌-◌, length}
use Rattle.sim_store_state.proofs.flat_state.FlatState.has_busy.Given as goal

abbrev pub decreases-loop-missing : goal.decreases-loop-missing
decreases-loop-missing l = length l.numbers - l.place
