use Rattle.std.proofs.Common.{◌≡◌, true, take, map}
use Rattle.std.specs.List.{All}
use Rattle.sim_flat_scope.specs.Scopes.{means}
use Rattle.sim_flat_design.specs.Bodies.{conditional_fits}
use Rattle.sim_flat_bodies.specs.Statements.{conditional_of, delay_of}
use Rattle.sim_flat_bodies.proofs.waveforms.conditionals.Given as goal

abbrev pub invariant-loop-each : goal.invariant-loop-each
invariant-loop-each l =
    (l.found.items ≡ map (conditional_of (means l.names.process.now l.names.architecture.now)) (take l.each-index l.list))
    × All (λ x. conditional_fits l.names.objects l.names.variables.now (delay_of l.mechanism) x ≡ true) l.found.items
