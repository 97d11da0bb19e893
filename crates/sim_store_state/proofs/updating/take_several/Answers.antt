use Rattle.std.proofs.Common.{length, ap, sym, subst, ◌∙◌}
use Rattle.sim_store_nets.specs.Lists.{Lists}
use Rattle.sim_standard.specs.State.{all_drivers}
use Rattle.sim_containers.specs.RowArray.{joined}
use Rattle.std.proofs.lemmas.List.{length-replicate}
use Rattle.sim_store_state.specs.Updating.{IsUpdate}
use Rattle.sim_store_state.proofs.Noted.{update-of}
use Rattle.sim_store_state.proofs.updating.take_several.Goals as goal

pub take_each-requires : goal.take_each-requires
take_each-requires c = record {
  none = c.requires.none;
  valued = ap (λ (l : Lists). l.driving) c.begin.ensures.lists ∙ c.requires.valued;
}

pub returns : goal.returns
returns c =
    let ds = all_drivers (joined c.take_each.new.shares) in
    record {
      shares = c.take_each.ensures.shares;
      lists = subst (λ (l : Lists). IsUpdate ds c.args.lists.now l) (sym c.finish.ensures)
          (update-of ds c.args.lists.now c.begin.new.self c.take_each.new.lists c.begin.ensures.lists
          (ap length c.begin.ensures.none ∙ length-replicate _ _) c.requires.sized c.take_each.ensures.lists);
    }
