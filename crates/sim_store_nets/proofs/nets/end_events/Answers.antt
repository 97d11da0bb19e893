use Rattle.std.proofs.Common.{get_or, refl, set, sym, arith, ◌∙◌}
use Rattle.std.proofs.lemmas.List.{length-set}
use Rattle.sim_containers.proofs.Ranges.{member_small}
use Rattle.sim_store_nets.specs.Nets.{value_at}
use Rattle.sim_store_nets.proofs.Walks.{listed_step, none_else, only_step, walk_done, walk_listed, walk_on, walk_start}
use Rattle.sim_store_nets.proofs.SourceValues.{same-everywhere, walk-each}
use Rattle.sim_store_nets.proofs.nets.end_events.Goals as goal

pub bounds-values-only : goal.bounds-values-only
bounds-values-only c =
    let within = member_small c.args.touched.now c.numbers-nets.result.now 0 c.numbers-nets.ensures (omega (arith, c.if-nets-eq1.true)) in
    omega (arith, within, c.requires.touched.sized)

pub bounds-values_before-only : goal.bounds-values_before-only
bounds-values_before-only c =
    let within = member_small c.args.touched.now c.numbers-nets.result.now 0 c.numbers-nets.ensures (omega (arith, c.if-nets-eq1.true)) in
    omega (arith, within, c.requires.touched.sized, c.requires.sized)

pub returns-then-nets-eq1 : goal.returns-then-nets-eq1
returns-then-nets-eq1 c =
    let nets = c.numbers-nets.result.now in
    let n = get_or nets 0 0 in
    let values = c.args.values.now in
    let old = c.args.values_before.now in
    let new = set old n (value_at values n) in
    let within = member_small c.args.touched.now nets 0 c.numbers-nets.ensures (omega (arith, c.if-nets-eq1.true)) in
    let next = only_step c.args.touched.now nets c.numbers-nets.ensures c.if-nets-eq1.true in
    let start = walk_start c.args.touched.now (λ k e. sym (c.requires.touched.still k e)) in
    let walked = walk-each old new (value_at values n) (value_at values) start next
    (omega (arith, within, c.requires.touched.sized, c.requires.sized)) refl refl in
    same-everywhere new values (length-set old n (value_at values n) ∙ c.requires.sized)
    (λ k _. walk_done walked (none_else c.args.touched.now nets c.numbers-nets.ensures c.if-nets-eq1.true) k)

pub loop-place-init : goal.loop-place-init
loop-place-init c = record {
  long = c.requires.sized;
  walked = walk_start c.args.touched.now (λ n e. sym (c.requires.touched.still n e));
}

pub bounds-values-net : goal.bounds-values-net
bounds-values-net c =
    let within = member_small c.args.touched.now c.numbers-nets.result.now c.loop-place.place c.numbers-nets.ensures c.loop-place-test.true in
    omega (arith, within, c.requires.touched.sized)

pub bounds-values_before-net : goal.bounds-values_before-net
bounds-values_before-net c =
    let within = member_small c.args.touched.now c.numbers-nets.result.now c.loop-place.place c.numbers-nets.ensures c.loop-place-test.true in
    omega (arith, within, c.requires.touched.sized, c.loop-place.invariant.long)

pub loop-place-preserved : goal.loop-place-preserved
loop-place-preserved c =
    let nets = c.numbers-nets.result.now in
    let place = c.loop-place.place in
    let n = get_or nets place 0 in
    let values = c.args.values.now in
    let within = member_small c.args.touched.now nets place c.numbers-nets.ensures c.loop-place-test.true in
    record {
      long = length-set c.loop-place.values_before n (value_at values n) ∙ c.loop-place.invariant.long;
      walked = walk_on nets place (walk-each c.loop-place.values_before (set c.loop-place.values_before n (value_at values n)) (value_at values n)
          (value_at values) c.loop-place.invariant.walked (listed_step c.args.touched.now nets place c.numbers-nets.ensures c.loop-place-test.true)
          (omega (arith, within, c.requires.touched.sized, c.loop-place.invariant.long)) refl refl);
    }

pub returns : goal.returns
returns c = same-everywhere c.loop-place.values_before c.args.values.now c.loop-place.invariant.long
    (λ n _. walk_listed c.numbers-nets.result.now c.loop-place.place c.numbers-nets.ensures c.loop-place-test.false c.loop-place.auto.place-end
    c.loop-place.invariant.walked n)
