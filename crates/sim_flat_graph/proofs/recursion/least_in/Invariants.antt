use Rattle.std.proofs.Common.{◌≡◌, drop}
use Rattle.sim_flat_graph.specs.Least.{least_of}
use Rattle.sim_flat_graph.specs.Recursion as spec
use Rattle.sim_flat_graph.proofs.recursion.least_in.Given as goal

abbrev pub invariant-loop-instance : goal.invariant-loop-instance
invariant-loop-instance l =
    least_of l.least (spec.places_of (spec.marked l.marks) (drop l.instance-index l.instances))
    ≡ least_of l.fn.known (spec.places_of (spec.marked l.marks) l.instances)
