use Rattle.std.proofs.Common.{◌<◌, length, set, refl, subst, sym}
use Rattle.sim_store_nets.specs.Lists.{Lists, IsNoted}
use Rattle.sim_store_nets.proofs.Noted.{noted-lists, noted-one}
use Rattle.sim_store_nets.proofs.update_lists.UpdateLists.note.Goals as goal

pub invariant_of-self : goal.invariant_of-self
invariant_of-self c =
    noted-lists c.self.invariant c.args.number c.args.value c.self.inside.touched c.insert_each.new.set c.note.new.self
    (subst (λ (l : Lists). c.args.number < length l.driving) (sym c.self.view_is) c.requires) c.note.ensures refl c.insert_each.ensures.sized

pub returns-then-ne : goal.returns-then-ne
returns-then-ne c =
    let lt = subst (λ (l : Lists). c.args.number < length l.driving) (sym c.self.view_is) c.requires in
    subst (λ (l : Lists). IsNoted c.args.number c.args.value l (record {
      sources = c.self.inside.sources;
      driving = set c.self.inside.driving.items c.args.number c.args.value;
      touched = c.self.inside.touched;
      gathered = c.insert_each.new.set;
    })) c.self.view_is
    (noted-one c.self.invariant c.args.number c.args.value c.insert_each.new.set lt c.insert_each.ensures.sized
    (rw (sym c.row.ensures) c.insert_each.ensures.members))
