use Rattle.std.proofs.Common.{◌≡◌, true, take, map}
use Rattle.std.specs.List.{All}
use Rattle.sim_flat_scope.specs.Scopes.{means}
use Rattle.sim_flat_design.specs.Bodies.{logic_fits}
use Rattle.sim_flat_bodies.specs.Statements.{element_of}
use Rattle.sim_flat_bodies.proofs.waveforms.elements.Given as goal

abbrev pub invariant-loop-each : goal.invariant-loop-each
invariant-loop-each l =
    (l.found.items ≡ map (element_of (means l.names.process.now l.names.architecture.now)) (take l.each-index l.elements))
    × All (λ x. logic_fits l.names.objects l.names.variables.now x.value ≡ true) l.found.items
