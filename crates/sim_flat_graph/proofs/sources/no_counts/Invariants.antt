use Rattle.std.proofs.Common.{◌≡◌, ◌+◌, ℕ, length, get_or}
use Rattle.sim_flat_graph.proofs.sources.no_counts.Given as goal

abbrev pub invariant-loop-port : goal.invariant-loop-port
invariant-loop-port l = (length l.counts.items ≡ l._port-index) × ((n : ℕ) → get_or l.counts.items n 0 ≡ 0)

abbrev pub invariant-loop-signal : goal.invariant-loop-signal
invariant-loop-signal l = (length l.counts.items ≡ length l.block.ports + l._signal-index) × ((n : ℕ) → get_or l.counts.items n 0 ≡ 0)
