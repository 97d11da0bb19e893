use Rattle.std.proofs.Common.{◌≡◌, drop}
use Rattle.sim_flat_scope.specs.Scopes.{means}
use Rattle.sim_flat_bodies.specs.Statements.{branches_targets, gathered, sequence_targets}
use Rattle.sim_flat_bodies.proofs.assigned.+gathering.Given as goal

abbrev pub invariant-add_branches-loop-each : goal.invariant-add_branches-loop-each
invariant-add_branches-loop-each l =
    gathered l.targets (branches_targets (means l.names.process.now l.names.architecture.now) (drop l.each-index l.list))
    ≡ gathered l.fn.targets (branches_targets (means l.names.process.now l.names.architecture.now) l.list)

abbrev pub invariant-add_sequence-loop-each : goal.invariant-add_sequence-loop-each
invariant-add_sequence-loop-each l =
    gathered l.targets (sequence_targets (means l.names.process.now l.names.architecture.now) (drop l.each-index l.list))
    ≡ gathered l.fn.targets (sequence_targets (means l.names.process.now l.names.architecture.now) l.list)
