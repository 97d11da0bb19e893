use Rattle.sim_flat_graph.specs.Least.{IsLeast}
use Rattle.sim_flat_graph.proofs.Recursions.{Below}
use Rattle.sim_flat_graph.proofs.recursion.least_recursive.Given as goal

abbrev pub invariant-loop-number : goal.invariant-loop-number
invariant-loop-number l = IsLeast (Below l.blocks l.top l.number) l.least
