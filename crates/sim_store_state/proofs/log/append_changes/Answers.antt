use Rattle.std.proofs.Common.{ℕ, ◌≡◌, ◌+◌, ◌<◌, ◌≤◌, ◌++◌, List, [], length, get_or, map, set, add-one, append-nil, refl, ap, sym, subst, arith, ◌∙◌}
use Rattle.std.proofs.lemmas.List.{get_or-set_other, length-append, length-map, length-set}
use Rattle.sim_logic.specs.declared.logic.Logic.{Logic}
use Rattle.sim_logic.specs.declared.logic.Logic.TheVariants.{U}
use Rattle.sim_containers.proofs.Ranges.{member_small}
use Rattle.sim_standard.specs.Records.{changes_from}
use Rattle.sim_store_nets.specs.Lists.{NetValues, net_from, resolved_by}
use Rattle.sim_store_nets.specs.Nets.{changed_to, value_at, views_of}
use Rattle.sim_store_nets.proofs.SourceValues.{resolved-everywhere, walk-value}
use Rattle.sim_store_nets.proofs.Walks.{bound_at, listed_step, none_else, only_step, walk_done, walk_listed, walk_on, walk_start}
use Rattle.sim_store_state.specs.Counting.{AreCounted, change_of}
use Rattle.sim_store_state.specs.Log.{changed}
use Rattle.sim_store_state.proofs.Counting.{appended-step, changes-start, changes-step, countable-more, counted-none, counted-step}
use Rattle.sim_store_state.proofs.Skips.{change-few}
use Rattle.sim_store_state.proofs.log.append_changes.Goals as goal

pub resolve_net-requires : goal.resolve_net-requires
resolve_net-requires c =
    let u = c.requires.unresolved in
    let nets = c.touched-nets.result.now in
    let within = member_small c.args.lists.now.touched nets 0 c.touched-nets.ensures (omega (arith, c.if-nets-eq1.true)) in
    let at : get_or nets 0 0 < length c.args.values.now.present = omega (arith, within, u.sized, u.sources) in
    record {
      unresolved = record { at = at; sources = u.sources; none = sym (ap (λ (vs : List Logic). value_at vs (get_or nets 0 0)) u.none) };
      few = omega (arith, at, c.requires.few);
      room = omega (arith, at, c.requires.room);
      countable = λ n. omega (arith, at, c.requires.countable n);
    }

pub returns-then-nets-eq1-clause-values : goal.returns-then-nets-eq1-clause-values
returns-then-nets-eq1-clause-values c =
    let u = c.requires.unresolved in
    let touched = c.args.lists.now.touched in
    let nets = c.touched-nets.result.now in
    let n = get_or nets 0 0 in
    let old = c.args.values.now.present in
    let value = net_from c.args.lists.now n in
    let new = set old n value in
    let within = member_small touched nets 0 c.touched-nets.ensures (omega (arith, c.if-nets-eq1.true)) in
    let next = only_step touched nets c.touched-nets.ensures c.if-nets-eq1.true in
    let none = none_else touched nets c.touched-nets.ensures c.if-nets-eq1.true in
    let long = length-set old n value in
    let walked = walk-value old new value (λ k. k < length old) (net_from c.args.lists.now) (walk_start touched (λ k e lt. u.others k lt e)) next
    (omega (arith, within, u.sized, u.sources)) refl refl in
    c.resolve_net.ensures.values ∙ ap (λ (xs : List Logic). record c.args.values.now { present = xs })
    (resolved-everywhere c.args.lists.now new (long ∙ u.sources) (λ k lt. walk_done walked none k (omega (arith, lt, long))))

pub returns-then-nets-eq1-clause-appended : goal.returns-then-nets-eq1-clause-appended
returns-then-nets-eq1-clause-appended c =
    let u = c.requires.unresolved in
    let nets = c.touched-nets.result.now in
    let n = get_or nets 0 0 in
    let v = c.args.values.now in
    let v' = c.resolve_net.new.values in
    let value = net_from c.args.lists.now n in
    let within = member_small c.args.lists.now.touched nets 0 c.touched-nets.ensures (omega (arith, c.if-nets-eq1.true)) in
    let step = changes-step v v' n value c.resolve_net.ensures.values (ap length (sym u.none)) (omega (arith, within, u.sized, u.sources))
    (λ m le. sym (ap (λ (vs : List Logic). value_at vs m) u.none)) in
    appended-step c.args.entries.now.items c.args.entries.now.items c.resolve_net.new.entries.items [] (change_of n value (value_at v.before n))
    (changes_from 0 (views_of v'.present v'.before))
    (step ∙ ap (λ (cs : List (ℕ × Logic)). cs ++ change_of n value (value_at v.before n)) (changes-start v u.none))
    (sym (append-nil c.args.entries.now.items)) c.resolve_net.ensures.appended

pub returns-then-nets-eq1-clause-counted : goal.returns-then-nets-eq1-clause-counted
returns-then-nets-eq1-clause-counted c =
    let u = c.requires.unresolved in
    let nets = c.touched-nets.result.now in
    let n = get_or nets 0 0 in
    let v = c.args.values.now in
    let v' = c.resolve_net.new.values in
    let value = net_from c.args.lists.now n in
    let within = member_small c.args.lists.now.touched nets 0 c.touched-nets.ensures (omega (arith, c.if-nets-eq1.true)) in
    let step = changes-step v v' n value c.resolve_net.ensures.values (ap length (sym u.none)) (omega (arith, within, u.sized, u.sources))
    (λ m le. sym (ap (λ (vs : List Logic). value_at vs m) u.none)) in
    counted-step [] (change_of n value (value_at v.before n)) (changes_from 0 (views_of v'.present v'.before))
    (step ∙ ap (λ (cs : List (ℕ × Logic)). cs ++ change_of n value (value_at v.before n)) (changes-start v u.none))
    (counted-none c.args.totals.now) c.resolve_net.ensures.counted

pub loop-place-init : goal.loop-place-init
loop-place-init c =
    let u = c.requires.unresolved in
    let none = changes-start c.args.values.now u.none in
    record {
      before = refl;
      long = refl;
      walked = walk_start c.args.lists.now.touched (λ n e lt. u.others n lt e);
      none = λ n le. sym (ap (λ (vs : List Logic). value_at vs n) u.none);
      few = omega (arith, ap length none);
      capacity = refl;
      appended = sym (ap (λ (cs : List (ℕ × Logic)). c.args.entries.now.items ++ map changed cs) none ∙ append-nil c.args.entries.now.items);
      counted = subst (λ (cs : List (ℕ × Logic)). AreCounted cs c.args.totals.now c.args.totals.now) (sym none) (counted-none c.args.totals.now);
    }

pub resolve_net-requires-in-loop-place : goal.resolve_net-requires-in-loop-place
resolve_net-requires-in-loop-place c =
    let u = c.requires.unresolved in
    let i = c.loop-place.invariant in
    let nets = c.touched-nets.result.now in
    let place = c.loop-place.place in
    let within = member_small c.args.lists.now.touched nets place c.touched-nets.ensures c.loop-place-test.true in
    let next = listed_step c.args.lists.now.touched nets place c.touched-nets.ensures c.loop-place-test.true in
    let at : get_or nets place 0 < length c.loop-place.values.present = omega (arith, within, u.sized, u.sources, i.long) in
    let changes = changes_from 0 (views_of c.loop-place.values.present c.loop-place.values.before) in
    record {
      unresolved = record { at = at; sources = i.long ∙ u.sources; none = i.none (get_or nets place 0) next.further };
      few = omega (arith, at, i.long, c.requires.few);
      room = omega (
        arith,
        at,
        i.long,
        next.further,
        i.few,
        i.capacity,
        c.requires.room,
        ap length i.appended,
        length-append c.args.entries.now.items (map changed changes),
        length-map changes changed,
        c.args.entries.now.ok.0,
        c.loop-place.entries.ok.0,
      );
      countable = countable-more c.args.totals.now c.loop-place.totals changes (length c.args.values.now.present) i.counted
          (omega (arith, at, i.long, next.further, i.few)) c.requires.countable;
    }

pub loop-place-preserved : goal.loop-place-preserved
loop-place-preserved c =
    let u = c.requires.unresolved in
    let i = c.loop-place.invariant in
    let nets = c.touched-nets.result.now in
    let place = c.loop-place.place in
    let n = get_or nets place 0 in
    let v = c.loop-place.values in
    let v' = c.resolve_net-in-loop-place.new.values in
    let value = net_from c.args.lists.now n in
    let one = change_of n value (value_at v.before n) in
    let before = changes_from 0 (views_of v.present v.before) in
    let within = member_small c.args.lists.now.touched nets place c.touched-nets.ensures c.loop-place-test.true in
    let next = listed_step c.args.lists.now.touched nets place c.touched-nets.ensures c.loop-place-test.true in
    let at : n < length v.present = omega (arith, within, u.sized, u.sources, i.long) in
    let e = c.resolve_net-in-loop-place.ensures.values in
    let long : length v.present ≡ length v.before = i.long ∙ (ap length (sym u.none) ∙ ap length (sym i.before)) in
    let step = changes-step v v' n value e long at (λ m le. i.none m (omega (arith, le, next.further))) in
    record {
      before = ap (λ (w : NetValues). w.before) e ∙ i.before;
      long = ap (λ (w : NetValues). length w.present) e ∙ (length-set v.present n value ∙ i.long);
      walked = walk_on nets place (walk-value v.present v'.present value (λ k. k < length c.args.values.now.present) (net_from c.args.lists.now)
          i.walked next at (ap (λ (w : NetValues). w.present) e) refl);
      none = λ m le.
          let above : n + 1 ≤ m = subst (λ (k : ℕ). bound_at nets k ≤ m) (add-one place) le in
          ap (λ (w : NetValues). value_at w.present m) e ∙ (get_or-set_other v.present n m value U (omega (arith, above))
          ∙ (i.none m (omega (arith, above, next.further)) ∙ ap (λ (w : NetValues). value_at w.before m) (sym e)));
      few = subst (λ (k : ℕ). length (changes_from 0 (views_of v'.present v'.before)) ≤ bound_at nets k) (sym (add-one place))
          (omega (arith, i.few, next.further, ap length step, length-append before one, change-few n (changed_to value (value_at v.before n))));
      capacity = c.resolve_net-in-loop-place.ensures.capacity ∙ i.capacity;
      appended = appended-step c.args.entries.now.items c.loop-place.entries.items c.resolve_net-in-loop-place.new.entries.items before one
          (changes_from 0 (views_of v'.present v'.before)) step i.appended c.resolve_net-in-loop-place.ensures.appended;
      counted = counted-step before one (changes_from 0 (views_of v'.present v'.before)) step i.counted c.resolve_net-in-loop-place.ensures.counted;
    }

pub returns-clause-values : goal.returns-clause-values
returns-clause-values c =
    let u = c.requires.unresolved in
    let i = c.loop-place.invariant in
    let v = c.loop-place.values in
    let now = resolved-everywhere c.args.lists.now v.present (i.long ∙ u.sources)
    (λ n lt. walk_listed c.touched-nets.result.now c.loop-place.place c.touched-nets.ensures c.loop-place-test.false c.loop-place.auto.place-end i.walked n
    (omega (arith, lt, i.long))) in
    ap (λ (xs : List Logic). record v { present = xs }) now
    ∙ ap (λ (xs : List Logic). record (resolved_by c.args.lists.now v) { before = xs }) i.before
