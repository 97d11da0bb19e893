use Rattle.std.proofs.Common.{◌≡◌, List, length, map, set, arith, sym, ap, subst, ◌∙◌}
use Rattle.std.proofs.lemmas.List.{append-nil, length-map, set-get_or}
use Rattle.sim_standard.specs.Drivers.{DriverState, next_time}
use Rattle.sim_standard.specs.State.{Owned, all_drivers, driver_values}
use Rattle.sim_containers.specs.RowArray.{joined}
use Rattle.sim_store_share.specs.Shares.{all_taken}
use Rattle.sim_store_share.specs.Taking.{IsNoneBefore}
use Rattle.sim_store_share.proofs.Taken.{none-before}
use Rattle.sim_store_state.specs.Updating.{IsUpdate}
use Rattle.sim_store_state.proofs.Noted.{update-alone}
use Rattle.sim_store_state.proofs.Shares.{alone, alone-mapped, set-alone}
use Rattle.sim_store_state.proofs.updating.take_alone.Goals as goal

pub take_only-requires : goal.take_only-requires
take_only-requires c = record {
  next = ap (λ (own : List Owned). next_time (all_drivers own)) (sym (alone c.args.shares.now c.index-shares-0.result c.requires.alone)) ∙ c.requires.next;
}

pub note_only-requires : goal.note_only-requires
note_only-requires c =
    omega (
      arith,
      c.in-Some.ensures.only.within,
      ap length c.requires.valued,
      length-map (all_drivers (joined c.args.shares.now)) (λ (w : DriverState). w.value),
      ap (λ (own : List Owned). length (all_drivers own)) (alone c.args.shares.now c.index-shares-0.result c.requires.alone),
    )

pub take_several-requires : goal.take_several-requires
take_several-requires c =
    let kept : set c.args.shares.now 0 c.take_only.new.self ≡ c.args.shares.now =
    ap (set c.args.shares.now 0) c.in-None.ensures.none ∙ set-get_or c.args.shares.now 0 c.index-shares-0.result in
    record {
      none = subst (λ (xs : List (List Owned)). IsNoneBefore c.args.time (all_drivers (joined xs))) (sym kept)
          (none-before (all_drivers (joined c.args.shares.now)) c.args.time c.requires.next);
      valued = c.requires.valued ∙ ap (λ (xs : List (List Owned)). driver_values (all_drivers (joined xs))) (sym kept);
      sized = c.requires.sized;
    }

pub returns-in-Some : goal.returns-in-Some
returns-in-Some c =
    let shares = c.args.shares.now in
    let new = c.take_only.new.self in
    let d = c.index-shares-0.result in
    let only = c.in-Some.ensures.only in
    let put = set-alone shares new c.requires.alone in
    record {
      shares = put ∙ alone-mapped (all_taken c.args.time) shares d d new c.requires.alone only.taken;
      lists = subst (λ (own : List Owned). IsUpdate (all_drivers own) c.args.lists.now c.note_only.new.self) (sym (ap joined put ∙ append-nil new))
          (update-alone c.args.time c.in-Some.number c.in-Some.value _ new c.args.lists.now c.note_only.new.self
          (c.requires.valued ∙ ap (λ (own : List Owned). driver_values (all_drivers own)) (alone shares d c.requires.alone)) only c.note_only.ensures);
    }

pub returns-in-None : goal.returns-in-None
returns-in-None c =
    let kept : set c.args.shares.now 0 c.take_only.new.self ≡ c.args.shares.now =
    ap (set c.args.shares.now 0) c.in-None.ensures.none ∙ set-get_or c.args.shares.now 0 c.index-shares-0.result in
    record {
      shares = c.take_several.ensures.shares ∙ ap (map (all_taken c.args.time)) kept;
      lists = c.take_several.ensures.lists;
    }
