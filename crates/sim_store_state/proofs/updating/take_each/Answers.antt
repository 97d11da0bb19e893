use Rattle.std.proofs.Common.{[], ◌≡◌, List, length, get_or, map, set, take, ap, refl, sym, subst, arith, ◌∙◌}
use Rattle.std.proofs.lemmas.List.{get_or_default, length-append, length-map}
use Rattle.std.proofs.lemmas.List.Edits.{map_over_more}
use Rattle.sim_standard.specs.Drivers.{DriverState}
use Rattle.sim_standard.specs.State.{Owned, all_drivers}
use Rattle.sim_containers.specs.RowArray.{joined}
use Rattle.sim_store_share.specs.Shares.{all_taken}
use Rattle.sim_store_share.specs.Taking.{AreListed, AreNoted, IsNoneBefore}
use Rattle.sim_store_state.specs.Updating.{AreNotedAll}
use Rattle.sim_store_state.proofs.Noted.{IsNotedTo, listed-next, noted-all, noted-more, noted-none}
use Rattle.sim_store_state.proofs.Shares.{all-passed, drivers-more, drivers-taken-more, drivers-within, none-in-share, over-all, over-here}
use Rattle.sim_store_state.proofs.Shares.{count-front, same-first}
use Rattle.sim_store_state.proofs.updating.take_each.Goals as goal

pub loop-place-init : goal.loop-place-init
loop-place-init c = record { shares = refl; first = refl; noted = noted-none c.args.lists.now }

pub take-requires : goal.take-requires
take-requires c =
    let shares = c.args.shares.now in
    let p = c.loop-place.place in
    let i = c.loop-place.invariant in
    let lt = c.loop-place-test.true in
    let d = c.index-shares-place-in-loop-place.result in
    let here : get_or c.loop-place.shares p d ≡ get_or shares p [] =
    over-here (all_taken c.args.time) shares c.loop-place.shares p d lt i.shares ∙ get_or_default shares p d [] lt in
    let front = all_drivers (joined (map (all_taken c.args.time) (take p shares))) in
    let at : c.loop-place.first ≡ length front = i.first ∙ sym (count-front c.args.time shares p) in
    record {
      none = subst (λ (own : List Owned). IsNoneBefore c.args.time (all_drivers own)) (sym here) (none-in-share shares p c.args.time lt c.requires.none);
      listed = subst (λ (own : List Owned). AreListed c.loop-place.first (all_drivers own) c.loop-place.lists) (sym here)
          (listed-next (all_drivers (joined shares)) (all_drivers (get_or shares p [])) c.args.lists.now c.loop-place.lists front c.loop-place.first at i.noted
          c.requires.valued (same-first shares p c.loop-place.first lt i.first).0 (same-first shares p c.loop-place.first lt i.first).1);
    }

pub overflow_add-first : goal.overflow_add-first
overflow_add-first c =
    let shares = c.args.shares.now in
    let p = c.loop-place.place in
    let lt = c.loop-place-test.true in
    let d = c.index-shares-place.result in
    let here = over-here (all_taken c.args.time) shares c.loop-place.shares p d lt c.loop-place.invariant.shares ∙ get_or_default shares p d [] lt in
    let within = drivers-within shares p lt in
    omega (
      arith,
      within,
      c.loop-place.invariant.first,
      c.drivers-count.ensures,
      ap (λ (own : List Owned). length (all_drivers own)) here,
      c.drivers-drivers.ensures,
      c.drivers-drivers.type_inv,
      ap length c.requires.valued,
      length-map (all_drivers (joined shares)) (λ (w : DriverState). w.value),
    )

pub loop-place-preserved : goal.loop-place-preserved
loop-place-preserved c =
    let shares = c.args.shares.now in
    let p = c.loop-place.place in
    let i = c.loop-place.invariant in
    let lt = c.loop-place-test.true in
    let f = all_taken c.args.time in
    let d = c.index-shares-place-in-loop-place.result in
    let there = over-here f shares c.loop-place.shares p d lt i.shares in
    let e = c.take.ensures in
    let new : c.take.new.self ≡ f (get_or shares p d) = e.taken ∙ ap f there in
    let front = all_drivers (joined (map f (take p shares))) in
    let at : c.loop-place.first ≡ length front = i.first ∙ sym (count-front c.args.time shares p) in
    let count-d = c.index-shares-place.result in
    record {
      shares = ap (λ w. set c.loop-place.shares p w) e.taken ∙ map_over_more f shares c.loop-place.shares p (get_or c.loop-place.shares p d) lt i.shares
          (get_or_default c.loop-place.shares p d (get_or c.loop-place.shares p d) (omega (arith, lt, c.loop-place.auto.shares)));
      first =
          let here = over-here f shares c.loop-place.shares p count-d lt i.shares ∙ get_or_default shares p count-d [] lt in
          let next = ap length (drivers-more shares p [] lt) ∙ length-append (all_drivers (joined (take p shares))) (all_drivers (get_or shares p [])) in
          omega (arith, next, i.first, c.drivers-count.ensures, ap (λ (own : List Owned). length (all_drivers own)) here);
      noted = subst (λ (ds : List DriverState). IsNotedTo ds c.args.lists.now c.take.new.lists)
          (sym (drivers-taken-more c.args.time shares p d lt))
          (noted-more front (all_drivers (f (get_or shares p d))) c.args.lists.now c.loop-place.lists c.take.new.lists c.loop-place.first at i.noted
          (subst (λ (own : List Owned). AreNoted c.loop-place.first (all_drivers own) c.loop-place.lists c.take.new.lists) new e.lists));
    }

pub returns : goal.returns
returns c =
    let shares = c.args.shares.now in
    let i = c.loop-place.invariant in
    let f = all_taken c.args.time in
    let done = i.shares ∙ over-all f shares c.loop-place.place c.loop-place-test.false in
    let passed = all-passed shares c.loop-place.place c.loop-place-test.false in
    record {
      shares = done;
      lists = subst (λ (xs : List (List Owned)). AreNotedAll (all_drivers (joined xs)) c.args.lists.now c.loop-place.lists) (sym done)
          (subst (λ (xs : List (List Owned)). AreNotedAll (all_drivers (joined (map f xs))) c.args.lists.now c.loop-place.lists) passed
          (noted-all (all_drivers (joined (map f (take c.loop-place.place shares)))) c.args.lists.now c.loop-place.lists
          (ap length c.requires.valued ∙ (length-map (all_drivers (joined shares)) (λ (w : DriverState). w.value)
          ∙ sym (count-front c.args.time shares c.loop-place.place ∙ ap (λ (xs : List (List Owned)). length (all_drivers (joined xs))) passed))) i.noted));
    }
