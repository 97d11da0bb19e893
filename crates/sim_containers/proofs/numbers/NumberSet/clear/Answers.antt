use Rattle.std.proofs.Common.{◌≡◌, ◌∙◌, ap, arith, length, false, true, refl, replicate, sym, ℕ, List, Bool}
use Rattle.std.proofs.lemmas.List.{length-replicate}
use Rattle.sim_containers.proofs.Bits.{not_both}
use Rattle.sim_containers.specs.Numbers.{is_in}
use Rattle.sim_containers.proofs.Ranges.{beyond_end, bits_sized, none_below}
use Rattle.sim_containers.proofs.Sets.{all_same, in_none}
use Rattle.sim_containers.proofs.numbers.NumberSet.clear.Goals as goal

pub returns-then-self-eq0 : goal.returns-then-self-eq0
returns-then-self-eq0 c = all_same c.args.self.now (length c.args.self.now) false refl (λ k _. beyond_end c.self.inside.marks c.self.inside.bits
    c.self.inside.list.items _ c.self.inside.is_listed c.self.inside.end c.args.self.now c.self.invariant c.self.view_is k (omega (arith, c.if-self-eq0.true)))

pub invariant_of-self : goal.invariant_of-self
invariant_of-self c =
    let len : length c.clear.new.self ≡ length c.self.inside.marks = ap length c.clear.ensures ∙ length-replicate (length c.self.inside.marks) false in
    let sized = bits_sized c.self.inside.marks c.self.inside.bits c.self.inside.list.items _ c.self.inside.is_listed c.self.inside.end c.self.invariant in
    record {
      listed = λ _. c.clear-2.ensures.items ∙ sym (none_below c.clear.new.self (length c.self.inside.marks) c.clear.ensures);
      clear = λ _. c.clear_marked.ensures ∙ ap (λ (n : ℕ). replicate n false) (sized ∙ sym len);
      marked = λ e. absurd (not_both true e refl);
      unlisted = λ e. absurd (not_both true e refl);
      room = omega (arith, len, c.clear-2.ensures.capacity, c.self.invariant.room);
      within = omega arith;
      none = λ n _. ap (λ (s : List Bool). is_in s n) c.clear.ensures ∙ in_none (length c.self.inside.marks) n;
      fits = omega (arith, len, c.self.invariant.fits);
    }

pub clear_marked-requires : goal.clear_marked-requires
clear_marked-requires c e =
    let sized = bits_sized c.self.inside.marks c.self.inside.bits c.self.inside.list.items _ c.self.inside.is_listed c.self.inside.end c.self.invariant in
    c.self.invariant.clear e ∙ ap (λ (n : ℕ). replicate n false) (sym sized)
