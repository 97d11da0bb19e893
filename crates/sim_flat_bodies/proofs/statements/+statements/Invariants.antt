use Rattle.std.proofs.Common.{◌≡◌, true, take, map, length}
use Rattle.std.specs.List.{All}
use Rattle.sim_flat_scope.specs.Scopes.{means}
use Rattle.sim_flat_design.specs.Bodies.{branch_fits, statement_fits}
use Rattle.sim_flat_bodies.specs.Statements.{branch_of, sequential_of}
use Rattle.sim_flat_bodies.proofs.statements.+statements.Given as goal

abbrev pub invariant-sequence-loop-each : goal.invariant-sequence-loop-each
invariant-sequence-loop-each l =
    (l.found.items ≡ map (sequential_of (means l.names.process.now l.names.architecture.now) l.targets) (take l.each-index l.list))
    × All (λ x. statement_fits l.names.objects (length l.targets) l.names.variables.now x ≡ true) l.found.items

abbrev pub invariant-branches-loop-each : goal.invariant-branches-loop-each
invariant-branches-loop-each l =
    (l.found.items ≡ map (branch_of (means l.names.process.now l.names.architecture.now) l.targets) (take l.each-index l.list))
    × All (λ x. branch_fits l.names.objects (length l.targets) l.names.variables.now x ≡ true) l.found.items
