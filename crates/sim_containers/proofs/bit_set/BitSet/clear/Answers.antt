use Rattle.std.proofs.Common.{◌∙◌, arith, ℕ, ap, false, replicate}
use Rattle.sim_containers.proofs.Sets.{length_of_view, no_member, no_members, none_beyond}
use Rattle.sim_containers.proofs.bit_set.BitSet.clear.Goals as goal

pub returns-then-self-eq0 : goal.returns-then-self-eq0
returns-then-self-eq0 c =
    no_member c.args.self.now (λ n _. none_beyond c.self.inside.words.items c.self.inside.tops.items c.self.inside.count c.self.inside.end
    c.args.self.now c.self.invariant c.self.view_is n (omega (arith, c.if-self-eq0.true)))

pub returns : goal.returns
returns c =
    no_members c.clear_used.new.words.items c.self.inside.count c.clear_used.ensures.none
    ∙ ap (λ (n : ℕ). replicate n false) (length_of_view c.self.inside.words.items c.self.inside.count c.args.self.now c.self.view_is)
