use Rattle.std.proofs.Common.{◌≡◌, List, [], length, get_or, ap, sym, ◌∙◌, arith}
use Rattle.std.proofs.lemmas.List.{get_or_default}
use Rattle.sim_standard.specs.State.{Owned}
use Rattle.sim_standard.proofs.Names.{nothing_owned}
use Rattle.sim_containers.specs.RowArray.{joined}
use Rattle.sim_containers.proofs.Placed.{at-get}
use Rattle.sim_store_state.proofs.Contents.{put-counts, put-in}
use Rattle.sim_store_state.proofs.flat_state.put_owned.Goals as goal

pub put-requires : goal.put-requires
put-requires c =
    let shares = c.args.shares.now in
    let p = c.place_of-share.result.0 in
    let i = c.place_of-share.result.1 in
    let at = c.place_of-share.ensures in
    let share = get_or_default shares p c.index-shares-share.result [] at.among in
    let own : get_or (get_or shares p c.index-shares-share.result) i nothing_owned ≡ get_or (joined shares) c.args.number nothing_owned =
    ap (λ (w : List Owned). get_or w i nothing_owned) share ∙ sym (at-get at nothing_owned) in
    record {
      at = omega (arith, at.inside, ap length share);
      drivers = c.requires.drivers ∙ ap (λ (o : Owned). length o.drivers) (sym own);
      variables = c.requires.variables ∙ ap (λ (o : Owned). length o.variables) (sym own);
    }

pub returns : goal.returns
returns c =
    let own : Owned = record { drivers = c.args.drivers.now; variables = c.args.variables.now } in
    let share = get_or c.args.shares.now c.place_of-share.result.0 c.index-shares-share.result in
    record {
      owned = put-in c.args.shares.now own share c.put.new.self c.place_of-share.ensures
          (get_or_default c.args.shares.now c.place_of-share.result.0 c.index-shares-share.result share c.place_of-share.ensures.among) c.put.ensures;
      counts = put-counts c.args.shares.now own share c.put.new.self c.place_of-share.ensures
          (get_or_default c.args.shares.now c.place_of-share.result.0 c.index-shares-share.result share c.place_of-share.ensures.among) c.put.ensures;
    }
