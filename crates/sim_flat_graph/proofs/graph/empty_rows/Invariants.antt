use Rattle.std.proofs.Common.{◌≡◌, [], replicate}
use Rattle.sim_flat_graph.proofs.graph.empty_rows.Given as goal

abbrev pub invariant-loop-row : goal.invariant-loop-row
invariant-loop-row l = l.rows.items ≡ replicate l._row []
