use Rattle.std.proofs.Common.{◌≡◌, ◌+◌, drop, length}
use Rattle.sim_flat_blocks.specs.Below.{signal_names}
use Rattle.sim_flat_blocks.proofs.count.signal_count.Given as goal

abbrev pub invariant-loop-declaration : goal.invariant-loop-declaration
invariant-loop-declaration l = l.count + length (signal_names (drop l.declaration-index l.declarations)) ≡ length (signal_names l.declarations)
