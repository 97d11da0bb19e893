use Rattle.std.proofs.Common.{◌∙◌, ◌+◌, ap, arith, ℕ, length, replicate, false, sym}
use Rattle.std.proofs.lemmas.Grind.{common_steps}
use Rattle.sim_containers.specs.Numbers.{stamped}
use Rattle.sim_containers.proofs.Stamped.{count, none_later, none_stamped}
use Rattle.sim_containers.proofs.stamps.Stamps.clear.Goals as goal

pub returns-then-self : goal.returns-then-self
returns-then-self c =
    ap (stamped 1) c.take_back.ensures
    ∙ (none_stamped (length c.self.inside.stamps.items) 1 (omega arith)
    ∙ ap (λ (n : ℕ). replicate n false) (sym (count c.self.inside.stamp c.self.inside.stamps.items) ∙ ap length c.self.view_is))

pub returns : goal.returns
returns c =
    none_later c.self.inside.stamp (c.self.inside.stamp + 1) c.self.inside.stamps.items (omega arith) c.self.invariant.past
    ∙ ap (λ (n : ℕ). replicate n false) (sym (count c.self.inside.stamp c.self.inside.stamps.items) ∙ ap length c.self.view_is)

pub invariant_of-self : goal.invariant_of-self
invariant_of-self c = grind (arith, common_steps)
