use Rattle.std.proofs.Common.{◌≡◌, drop}
use Rattle.std.specs.List.{list_any}
use Rattle.sim_flat_graph.specs.Recursion.{is_earlier}
use Rattle.sim_flat_graph.proofs.recursion.has_earlier.Given as goal

abbrev pub invariant-loop-instance : goal.invariant-loop-instance
invariant-loop-instance l = list_any (is_earlier l.known) (drop l.instance-index l.instances) ≡ list_any (is_earlier l.known) l.instances
