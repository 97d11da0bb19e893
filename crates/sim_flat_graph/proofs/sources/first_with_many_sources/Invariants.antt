use Rattle.sim_flat_graph.specs.Least.{IsLeast}
use Rattle.sim_flat_graph.proofs.SourcePlaces.{Below}
use Rattle.sim_flat_graph.proofs.sources.first_with_many_sources.Given as goal

abbrev pub invariant-loop-number : goal.invariant-loop-number
invariant-loop-number l = IsLeast (Below l.blocks l.top l.number) l.least
