use Rattle.std.proofs.lemmas.Grind.{common_steps}
use Rattle.std.proofs.Common.{ℕ, ◌<◌, ◌≤◌, ◌⊎◌, ◌∙◌, List, inl, inr, arith, length, subst, sym}
use Rattle.std.proofs.lemmas.List.{get_or-set_other, length-set}
use Rattle.sim_containers.specs.Words.{has, IsNext}
use Rattle.sim_containers.proofs.Places.{used_within}
use Rattle.sim_containers.proofs.Sets.{clear_before, clear_up_to, none_up_to}
use Rattle.sim_containers.proofs.words.clear_used.Goals as goal

side : (i n : ℕ) → (i < n) ⊎ (n ≤ i)
side i n = grind arith

pub loop-from-preserved : goal.loop-from-preserved
loop-from-preserved c =
    let i = c.loop-from.invariant in
    let words = c.loop-from.words.items in
    let old = c.args.words.now.items in
    let tops = c.loop-from.tops.items in
    let place = c.in-Some.place in
    let next : IsNext (has tops) c.loop-from.from place =
    subst (λ (t : List ℕ). IsNext (has t) c.loop-from.from place) c.as_slice.ensures.value c.in-Some.ensures in
    let further : c.loop-from.from ≤ place = next.further in
    let used : place < length old = used_within old place (sym (c.requires.tops place) ∙ (sym (i.tops place further) ∙ next.passes)) in
    record {
      len = length-set words place 0 ∙ i.len;
      none = clear_up_to words place (omega (arith, used, i.len))
          (clear_before words old tops c.args.tops.now.items c.loop-from.from place c.requires.tops i.tops next i.none i.rest);
      rest = λ k le. get_or-set_other words place k 0 0 (omega (arith, le)) ∙ i.rest k (omega (arith, le, further));
      tops_len = c.mark.ensures.len ∙ i.tops_len;
      no_tops = none_up_to tops c.mark.new.words.items place c.mark.ensures.here c.mark.ensures.others (λ k lt. elim (side k c.loop-from.from) [
        | inl before ↦ i.no_tops k before
        | inr after ↦ next.first k after lt
      ]);
      tops = λ k le. c.mark.ensures.others k (omega (arith, le)) ∙ i.tops k (omega (arith, le, further));
      within = omega (arith, used, i.len, length-set words place 0);
    }

pub index_mut-requires : goal.index_mut-requires
index_mut-requires c = grind (arith, common_steps)

pub loop-from-smaller : goal.loop-from-smaller
loop-from-smaller c = grind (arith, common_steps)

pub overflow_add-from : goal.overflow_add-from
overflow_add-from c = grind (arith, common_steps)

pub returns-in-None-clause-none : goal.returns-in-None-clause-none
returns-in-None-clause-none c = grind (arith, common_steps)

pub mark-requires : goal.mark-requires
mark-requires c = grind (arith, common_steps)
