use Rattle.std.proofs.Common.{◌∙◌, ◌∷◌, ◌++◌, ◌+◌, [], ℕ, List, ap, arith, length, refl, sym}
use Rattle.sim_containers.specs.Numbers.{is_in}
use Rattle.sim_containers.proofs.Ranges.{below_next, below_skipped, few_below}
use Rattle.sim_containers.proofs.Sets.{member_within}
use Rattle.sim_containers.proofs.numbers.push_marked.Goals as goal

pub push_reserved-requires : goal.push_reserved-requires
push_reserved-requires c =
    let within = member_within c.args.bits.now c.in-Some.number c.in-Some.ensures.passes in
    omega (
      arith,
      within,
      c.in-Some.ensures.further,
      c.requires.room,
      ap length c.loop-number.invariant.items,
      c.loop-number.invariant.capacity,
      few_below (is_in c.args.bits.now) c.loop-number.from,
    )

pub loop-number-preserved : goal.loop-number-preserved
loop-number-preserved c =
    let within = member_within c.args.bits.now c.in-Some.number c.in-Some.ensures.passes in
    record {
      items = c.push_reserved.ensures.items ∙ (ap (λ (l : List ℕ). l ++ c.in-Some.number ∷ []) c.loop-number.invariant.items
          ∙ sym (below_next (is_in c.args.bits.now) c.loop-number.from c.in-Some.number (c.in-Some.number + 1) refl
          c.in-Some.ensures.further c.in-Some.ensures.first c.in-Some.ensures.passes));
      capacity = c.push_reserved.ensures.capacity ∙ c.loop-number.invariant.capacity;
      within = omega (arith, within);
    }

pub returns-clause-items : goal.returns-clause-items
returns-clause-items c =
    c.loop-number.invariant.items
    ∙ below_skipped (is_in c.args.bits.now) c.loop-number.from (length c.args.bits.now) c.loop-number.invariant.within (λ i le l. c.in_default.ensures i le)
