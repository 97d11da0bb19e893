use Rattle.std.proofs.Common.{◌≡◌, ℕ, List, Bor, drop}
use Rattle.std.specs.Option.{option_or}
use Rattle.sim_text_tree.specs.declared.unit.Architecture.{Architecture}
use Rattle.sim_flat_instances.specs.Libraries.{is_named_of, last_named, bodies_at}
use Rattle.sim_flat_instances.specs.Places.{place_of_both, last_place}
use Rattle.sim_flat_instances.proofs.library.named_architectures.Given as goal

abbrev pub invariant-loop-place : goal.invariant-loop-place
invariant-loop-place l = (e n : List ℕ) →
    option_or (last_place (λ (a : Bor Architecture). is_named_of e n a.now) l.place (drop l.place l.architectures)) (place_of_both l.places e n)
    ≡ last_named (bodies_at l.architectures) e n
