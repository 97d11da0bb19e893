use Rattle.std.proofs.Common.{ℕ, rules, tests, ◌≡◌, ◌+◌, ◌<◌, ◌++◌, [], ◌∷◌, true, false, List, length, take, get_or, ap, sym, ◌∙◌, subst, arith}
use Rattle.std.specs.Vec.Iter.{into_iter_items}
use Rattle.std.proofs.lemmas.List.{length-append, take_all}
use Rattle.sim_standard.specs.State.{Owned}
use Rattle.sim_containers.specs.RowArray.{joined}
use Rattle.sim_containers.proofs.Flat.{joined-push}
use Rattle.sim_store_state.specs.FlatState.{counts}
use Rattle.sim_store_nets.proofs.Walks.{not_both}
use Rattle.sim_store.specs.Handing.{AreInOrder, IsRange, Range, completed, at_input, lengths}
use Rattle.sim_store.proofs.Orders.{AreLeft, first-left, none-left, range-none, taken-more}
use Rattle.sim_store.proofs.Returning.{range-both, range-of}
use Rattle.sim_store.proofs.handing.shares_of.Goals as goal

pub loop-answer-init : goal.loop-answer-init
loop-answer-init g c =
    let f = c.args.input.now in
    let parts = c.args.parts.now in
    let none : c.in_ok-shares.shares.items ≡ [] = c.in_ok-shares.ensures.items in
    let gives = c.into_iter-answer-iterator.ensures.into_iter_gives in
    let items = into_iter_items c.into_iter-answer-iterator.result in
    let own : joined c.in_ok-shares.shares.items ≡ [] = ap (λ (w : List (List Owned)). joined w) none in (
      tt,
      tt,
      range-none (joined c.in_ok-shares.shares.items) own,
      omega (arith, ap length own),
      omega (arith, ap length none),
      ap (λ (w : List (List Owned)). counts w) none ∙ ap (λ (w : List (List Owned)). take (length w) parts) (sym none),
      omega (arith, ap length gives.0, gives.1, c.args.answers.ok.0),
      λ all.
          subst (λ (w : List (List Owned)). AreLeft f.cycles f.phase parts (length w) 0 items) (sym none) (record {
            counts_are = ap (λ (w : List Range). lengths w) gives.0 ∙ all.counts_are;
            in_order = subst (AreInOrder f.cycles f.phase 0) (sym gives.0) all.in_order;
          }),
    )

pub loop-answer-preserved : goal.loop-answer-preserved
loop-answer-preserved g c =
    let d = g.D.DesignType.design in
    let f = c.args.input.now in
    let h = at_input d f in
    let parts = c.args.parts.now in
    let answer = c.in-Some.answer in
    let is : c.is_next.result ≡ true = search (rules, tests) in
    let t = c.is_next.ensures.0 is in
    let i = c.loop-answer.invariant in
    let xs = c.loop-answer.shares.items in
    let number = c.len-number.result in
    let n : number ≡ length xs = omega (arith, c.len-number.ensures) in
    let lt : number < length parts = omega (arith, c.if-number-parts.false, i.4, n) in
    let at : answer.from ≡ 0 + length (joined xs) = omega (arith, t.2, i.3) in
    let r = range-of d f.cycles answer.cycles f.phase answer.phase (0 + length (joined xs)) answer.from answer.owned t.0 t.1 at
    c.into_share.ensures.range in
    let e : c.add.new.shares.items ≡ xs ++ answer.owned ∷ [] = c.in_ok-add.ensures ∙ ap (λ (w : List Owned). xs ++ w ∷ []) c.into_share.ensures.share in
    let j : joined c.add.new.shares.items ≡ joined xs ++ answer.owned = ap (λ (w : List (List Owned)). joined w) e ∙ joined-push xs answer.owned in
    let more : length c.add.new.shares.items ≡ length xs + 1 = omega (arith, ap length e, length-append xs (answer.owned ∷ [])) in
    let own : length answer.owned ≡ get_or parts (length xs) 0 = t.3 ∙ ap (λ (k : ℕ). get_or parts k 0) n in (
      tt,
      tt,
      subst (λ (w : List Owned). IsRange h (completed h).owned 0 w) (sym j) (range-both (joined xs) answer.owned i.2 r),
      omega (arith, i.3, ap length j, length-append (joined xs) answer.owned, t.3),
      omega (arith, more, lt, n),
      ap (λ (w : List (List Owned)). counts w) e
          ∙ (taken-more xs answer.owned parts (omega (arith, lt, n)) own i.5 ∙ ap (λ (w : List (List Owned)). take (length w) parts) (sym e)),
      omega (arith, ap length c.in-Some.ensures.steps.0, c.in-Some.ensures.steps.1, i.6),
      λ all.
          let w = first-left answer (into_iter_items c.next.new.self) _ c.in-Some.ensures.steps.0 (i.7 all) in
          subst (λ (k : ℕ). AreLeft f.cycles f.phase parts k (c.loop-answer.from + get_or parts number 0) (into_iter_items c.next.new.self)) (sym more)
          (subst (λ (k : ℕ). AreLeft f.cycles f.phase parts (length xs + 1) (c.loop-answer.from + get_or parts k 0) (into_iter_items c.next.new.self)) (sym n)
          w.others),
    )

pub returns-then-number-parts-clause-err : goal.returns-then-number-parts-clause-err
returns-then-number-parts-clause-err g c = λ e all.
    let w = first-left c.in-Some.answer (into_iter_items c.next.new.self) _ c.in-Some.ensures.steps.0 (c.loop-answer.invariant.7 all) in
    absurd (omega (arith, w.within, c.len-number.ensures, c.if-number-parts.true))

pub returns-then-not-is_next-clause-err : goal.returns-then-not-is_next-clause-err
returns-then-not-is_next-clause-err g c = λ e all.
    let w = first-left c.in-Some.answer (into_iter_items c.next.new.self) _ c.in-Some.ensures.steps.0 (c.loop-answer.invariant.7 all) in
    let n : c.len-number.result ≡ length c.loop-answer.shares.items = omega (arith, c.len-number.ensures) in
    let count = w.count_is ∙ ap (λ (k : ℕ). get_or c.args.parts.now k 0) (sym n) in
    let is : c.is_next.result ≡ false = search (rules, tests) in
    not_both _ is (c.is_next.ensures.1 (w.cycles_are, w.phase_is, w.from_is, count))

pub returns-then-len-parts-clause-err : goal.returns-then-len-parts-clause-err
returns-then-len-parts-clause-err g c = λ e all.
    let i = c.loop-answer.invariant in
    let f = c.args.input.now in
    let items = into_iter_items c.loop-answer.answer-iterator in
    let none : length items ≡ 0 = omega (arith, i.6, c.in-None.ensures.steps.0) in
    absurd (omega (arith, none-left c.args.parts.now _ _ items none (i.7 all), i.4, c.len.ensures, c.if-len-parts.true))

pub returns-clause-range : goal.returns-clause-range
returns-clause-range g c = c.loop-answer.invariant.2

pub returns-clause-counts : goal.returns-clause-counts
returns-clause-counts g c =
    let i = c.loop-answer.invariant in
    i.5 ∙ take_all (length c.loop-answer.shares.items) c.args.parts.now (omega (arith, c.len.ensures, c.if-len-parts.false))
