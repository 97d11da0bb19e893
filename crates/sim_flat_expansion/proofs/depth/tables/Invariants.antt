use Rattle.std.proofs.Common.{◌≡◌}
use Rattle.sim_flat_expansion.specs.Depth as spec
use Rattle.sim_flat_expansion.proofs.depth.tables.Given as goal

abbrev pub invariant-loop-turn : goal.invariant-loop-turn
invariant-loop-turn l = l.table ≡ spec.table_at l.blocks l._turn
