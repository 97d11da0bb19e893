use Rattle.std.proofs.Common.{ℕ, Bool, List, ◌≡◌, IsTrue, length, false, ap, ◌∙◌, refl, subst}
use Rattle.std.specs.Prelude.{◌↔◌}
use Rattle.sim_containers.specs.Numbers.{is_in}
use Rattle.sim_containers.proofs.Sets.{all_same}
use Rattle.sim_store_simulation.specs.Waiting.{Waiting}
use Rattle.sim_store_simulation.proofs.Members.{none-replicated}
use Rattle.sim_store_simulation.proofs.waiting.Waiting.is_empty.Goals as goal

pub returns : goal.returns
returns c =
    let w = c.self.inside.waiting in
    subst (λ (v : Waiting). IsTrue c.is_empty.result ↔ ((p : ℕ) → is_in v.waiting p ≡ false)) c.self.view_is (
      λ is p. ap (λ (marks : List Bool). is_in marks p) (c.is_empty.ensures.0 is) ∙ none-replicated (length w) p,
      λ none. c.is_empty.ensures.1 (all_same w (length w) false refl (λ p lt. none p)),
    )
