use Rattle.std.proofs.Common.{◌≡◌, ◌+◌, ◌-◌, ◌≤◌, ◌++◌, ◌∙◌, sym, ap, subst, List, length, take, drop, rules, arith, length-drop}
use Rattle.std.specs.List.{remove_range}
use Rattle.smallvec.specs.SmallVec.{small_vec_len}
use Rattle.sim_standard.specs.Drivers.{Transaction, transaction_at}
use Rattle.sim_standard.specs.Editing.{edited}
use Rattle.sim_wave.specs.Rising.{scheduled}
use Rattle.sim_wave.specs.Run.{IsRun}
use Rattle.sim_wave.proofs.Storing.{drop-remove_range, kept-edited, length-left, IsRun-edited}
use Rattle.sim_wave.proofs.stored.Stored.edit.Goals as goal

pub returns-in_err-reserve-clause-in_place : goal.returns-in_err-reserve-clause-in_place
returns-in_err-reserve-clause-in_place c few =
    let old = c.as_slice.result.now in
    let es = c.args.elements.now in
    let k = c.kept_by-kept.result in
    let is : old ≡ drop c.self.inside.head c.self.inside.list.items = c.as_slice.ensures ∙ sym c.self.view_is in
    let same : edited old c.args.now c.args.delay es ≡ edited c.args.self.now c.args.now c.args.delay es = ap
    (λ (w : List Transaction). edited w c.args.now c.args.delay es) c.as_slice.ensures in
    let left = length-left c.args.now k.front k.back k.end old es k.order.0 k.order.1 c.kept_by-kept.ensures.within in
    let gives = kept-edited c.args.now old c.args.delay es (remove_range (take k.end old) k.front k.back) c.requires.some c.kept_by-kept.ensures.kept in
    let len : length (edited c.args.self.now c.args.now c.args.delay es) ≡ k.front + (k.end - k.back) + length es =
    ap (λ (w : List Transaction). length w) (sym (gives ∙ same)) ∙ left in
    let beyond : length old ≡ length c.self.inside.list.items - c.self.inside.head =
    ap (λ (w : List Transaction). length w) is ∙ length-drop c.self.inside.head c.self.inside.list.items in
    let room : small_vec_len c.self.inside.list + c.saturating_sub.result ≤ c.self.inside.list.capacity = omega arith in
    let bad = rw c.in_err-reserve.was at (c.reserve.ensures.succeeds room) in
    cc

pub returns-clause-ok : goal.returns-clause-ok
returns-clause-ok c =
    let old = c.as_slice.result.now in
    let es = c.args.elements.now in
    let k = c.kept_by-kept.result in
    let j = c.beyond-kept.result in
    let xs = c.self.inside.list.items in
    let h = c.self.inside.head in
    let is : old ≡ drop h xs = c.as_slice.ensures ∙ sym c.self.view_is in
    let beyond : length old ≡ length xs - h = ap (λ (w : List Transaction). length w) is ∙ length-drop h xs in
    let items : c.rewrite.new.list.items ≡ remove_range (take j.end xs) j.front j.back ++ scheduled c.args.now es = search rules in
    let left : drop h c.rewrite.new.list.items ≡ remove_range (take k.end old) k.front k.back ++ scheduled c.args.now es =
    rw (items, is) (drop-remove_range h k.front k.back k.end j.front j.back j.end xs (scheduled c.args.now es) k.order.0 k.order.1 (omega arith)
    c.beyond-kept.ensures.front c.beyond-kept.ensures.back c.beyond-kept.ensures.end) in
    left ∙ (kept-edited c.args.now old c.args.delay es (remove_range (take k.end old) k.front k.back) c.requires.some c.kept_by-kept.ensures.kept
    ∙ ap (λ (w : List Transaction). edited w c.args.now c.args.delay es) c.as_slice.ensures)

pub invariant_of-self-2 : goal.invariant_of-self-2
invariant_of-self-2 c =
    let old = c.as_slice.result.now in
    let es = c.args.elements.now in
    let k = c.kept_by-kept.result in
    let j = c.beyond-kept.result in
    let xs = c.self.inside.list.items in
    let h = c.self.inside.head in
    let is : old ≡ drop h xs = c.as_slice.ensures ∙ sym c.self.view_is in
    let beyond : length old ≡ length xs - h = ap (λ (w : List Transaction). length w) is ∙ length-drop h xs in
    let items : c.rewrite.new.list.items ≡ remove_range (take j.end xs) j.front j.back ++ scheduled c.args.now es = search rules in
    let fits : j.end ≤ length xs = omega arith in
    let left : length c.rewrite.new.list.items ≡ j.front + (j.end - j.back) + length es =
    ap (λ (w : List Transaction). length w) items ∙ length-left c.args.now j.front j.back j.end xs es j.order.0 j.order.1 fits in (
      omega arith,
      omega arith,
      subst (λ (w : List Transaction). IsRun w j.front (c.len-2.result - (length es - 1)) (transaction_at es 0).1) (sym items)
          (IsRun-edited c.args.now h k.back k.end j.front j.back j.end (c.len-2.result - (length es - 1)) xs old es c.requires.some is
          j.order.0 j.order.1 fits c.beyond-kept.ensures.back c.beyond-kept.ensures.end c.kept_by-kept.ensures.chain (omega arith)),
    )
