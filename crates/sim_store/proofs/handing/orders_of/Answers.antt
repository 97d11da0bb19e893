use Rattle.std.proofs.Common.{ℕ, rules, ◌≡◌, ◌+◌, ◌-◌, ◌++◌, [], ◌∷◌, List, length, reverse, ap, sym, ◌∙◌, subst, arith}
use Rattle.std.proofs.lemmas.List.{length-append, reverse-append}
use Rattle.std.specs.Arc.{arc_value}
use Rattle.sim_standard.specs.State.{Owned}
use Rattle.sim_containers.specs.RowArray.{joined}
use Rattle.sim_containers.proofs.Flat.{joined-push, written_back}
use Rattle.sim_store_state.specs.FlatState.{counts}
use Rattle.sim_store.specs.Handing.{AreInOrder, AreParts, IsRange, Range, at_input, lengths}
use Rattle.sim_store_simulation.specs.Simulation.{reached}
use Rattle.sim_store.proofs.Orders.{all-handed, more-handed}
use Rattle.sim_store.proofs.Returning.{range-back, range-front}
use Rattle.sim_store.proofs.handing.orders_of.Goals as goal

pub overflow_sub-to : goal.overflow_sub-to
overflow_sub-to g c =
    let rest = c.pop.new.self.items in
    let share = c.in-Some.share in
    let e : c.loop-turn.shares.items ≡ rest ++ share ∷ [] = c.in-Some.ensures.items in
    let all : joined c.loop-turn.shares.items ≡ joined rest ++ share = ap (λ (w : List (List Owned)). joined w) e ∙ joined-push rest share in
    omega (arith, c.loop-turn.invariant.to, ap length all, length-append (joined rest) share, c.len-to.ensures)

pub order_of-requires : goal.order_of-requires
order_of-requires g c =
    let h = at_input g.D.DesignType.design (arc_value c.args.input.now) in
    let rest = c.pop.new.self.items in
    let share = c.in-Some.share in
    let i = c.loop-turn.invariant in
    let e : c.loop-turn.shares.items ≡ rest ++ share ∷ [] = c.in-Some.ensures.items in
    let all : joined c.loop-turn.shares.items ≡ joined rest ++ share = ap (λ (w : List (List Owned)). joined w) e ∙ joined-push rest share in
    range-back (joined rest) share (c.loop-turn.to - c.len-to.result)
    (omega (arith, i.to, ap length all, length-append (joined rest) share, c.len-to.ensures))
    (subst (λ (w : List Owned). IsRange h (reached h).owned 0 w) all i.range)

pub loop-turn-preserved : goal.loop-turn-preserved
loop-turn-preserved g c =
    let f = arc_value c.args.input.now in
    let h = at_input g.D.DesignType.design f in
    let rest = c.pop.new.self.items in
    let share = c.in-Some.share in
    let i = c.loop-turn.invariant in
    let o = c.in_ok-order.order in
    let os = c.loop-turn.orders.items in
    let to = c.loop-turn.to - c.len-to.result in
    let e : c.loop-turn.shares.items ≡ rest ++ share ∷ [] = c.in-Some.ensures.items in
    let all : joined c.loop-turn.shares.items ≡ joined rest ++ share = ap (λ (w : List (List Owned)). joined w) e ∙ joined-push rest share in
    let back : reverse c.push.new.self.items ≡ o ∷ reverse os =
    ap (λ (w : List Range). reverse w) c.in_ok-push.ensures.items ∙ reverse-append os (o ∷ []) in
    let own : length o.owned ≡ length share = ap (λ (r : Range). length r.owned) c.in_ok-order.ensures in
    let ends : c.loop-turn.to ≡ to + length o.owned = omega (arith, i.to, ap length all, length-append (joined rest) share, c.len-to.ensures, own) in
    let order : AreInOrder f.cycles f.phase to (o ∷ reverse os) = (
      ap (λ (r : Range). r.cycles) c.in_ok-order.ensures,
      ap (λ (r : Range). r.phase) c.in_ok-order.ensures,
      ap (λ (r : Range). r.from) c.in_ok-order.ensures,
      subst (λ (n : ℕ). AreInOrder f.cycles f.phase n (reverse os)) ends i.order,
    ) in
    record {
      range = range-front (joined rest) share (subst (λ (w : List Owned). IsRange h (reached h).owned 0 w) all i.range);
      to = omega (arith, i.to, ap length all, length-append (joined rest) share, c.len-to.ensures);
      left = omega (arith, i.left, ap length e, length-append rest (share ∷ []));
      counted = ap (λ (w : List Range). counts rest ++ lengths w) back
          ∙ more-handed rest share o (reverse os) (counts c.args.shares.items) own
          (ap (λ (w : List (List Owned)). counts w ++ lengths (reverse os)) (sym e) ∙ i.counted);
      order = subst (AreInOrder f.cycles f.phase to) (sym back) order;
    }

pub returns : goal.returns
returns g c =
    let f = arc_value c.args.input.now in
    let os = c.loop-turn.orders.items in
    let i = c.loop-turn.invariant in
    let none : length c.loop-turn.shares.items ≡ 0 = omega (arith, i.left, c.loop-turn-test.false, c.len-count.ensures) in
    let many : length c.reverse.new.self ≡ c.loop-turn.orders.len = search rules in
    let back : c.reverse.new.self ≡ reverse os = c.reverse.ensures.after ∙ ap (λ (w : List Range). reverse w) c.as_mut_slice.ensures.value in
    let whole = written_back c.reverse.new.self os c.loop-turn.orders.len many ∙ back in
    subst (AreParts f.cycles f.phase (counts c.args.shares.items)) (sym whole)
    (all-handed c.loop-turn.shares.items c.loop-turn.to (reverse os) (counts c.args.shares.items) none i.to i.counted i.order)
