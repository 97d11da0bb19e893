use Rattle.std.proofs.Common.{◌≡◌}
use Rattle.sim_flat_expansion.specs.Counts as spec
use Rattle.sim_flat_expansion.proofs.counts.tables.Given as goal

abbrev pub invariant-loop-turn : goal.invariant-loop-turn
invariant-loop-turn l = l.table ≡ spec.table_at l.fn.kind l.blocks l._turn
