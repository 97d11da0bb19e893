use Rattle.std.proofs.Common.{◌≡◌, ℕ, List, Bor, drop}
use Rattle.std.specs.Option.{option_or}
use Rattle.sim_text_tree.specs.declared.unit.Architecture.{Architecture}
use Rattle.sim_flat_instances.specs.Libraries.{is_of, last_architecture, bodies_at}
use Rattle.sim_flat_instances.specs.Places.{place_of, last_place}
use Rattle.sim_flat_instances.proofs.library.last_architectures.Given as goal

abbrev pub invariant-loop-place : goal.invariant-loop-place
invariant-loop-place l = (e : List ℕ) →
    option_or (last_place (λ (a : Bor Architecture). is_of e a.now) l.place (drop l.place l.architectures)) (place_of l.places e)
    ≡ last_architecture (bodies_at l.architectures) e
