use Rattle.std.proofs.Common.{◌≡◌, [], replicate}
use Rattle.sim_flat_expansion.proofs.flat_sources.none.Given as goal

abbrev pub invariant-loop-turn : goal.invariant-loop-turn
invariant-loop-turn l = l.lists.items ≡ replicate l._turn []
