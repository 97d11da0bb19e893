use Rattle.std.proofs.Common.{◌<◌, ◌≡◌, ◌∙◌, ap, false, length, set, rules, subst, sym}
use Rattle.std.proofs.lemmas.List.{length-replicate}
use Rattle.sim_store_nets.specs.Lists.{Lists, IsNotedAlone}
use Rattle.sim_store_nets.proofs.Noted.{noted-lists, noted-alone, noted-same}
use Rattle.sim_store_nets.proofs.update_lists.UpdateLists.note_only.Goals as goal

pub returns-then-eq : goal.returns-then-eq
returns-then-eq c =
    let same : c.index.result.now ≡ c.args.value = search rules in
    subst (λ (l : Lists). IsNotedAlone c.args.number c.args.value l (record {
      sources = c.self.inside.sources;
      driving = c.self.inside.driving.items;
      touched = c.clear.new.self;
      gathered = c.self.inside.gathered;
    })) c.self.view_is
    (noted-same (record {
      sources = c.self.inside.sources;
      driving = c.self.inside.driving.items;
      touched = c.self.inside.touched;
      gathered = c.self.inside.gathered;
    }) c.args.number c.args.value c.index.result.now c.clear.new.self c.self.inside.gathered c.index.ensures same
    (ap length c.clear.ensures ∙ length-replicate (length c.self.inside.touched) false))

pub invariant_of-self-2 : goal.invariant_of-self-2
invariant_of-self-2 c =
    noted-lists c.self.invariant c.args.number c.args.value c.replace_by.new.list c.replace_by.new.set c.note.new.self
    (subst (λ (l : Lists). c.args.number < length l.driving) (sym c.self.view_is) c.requires) c.note.ensures c.replace_by.ensures.sized c.replace_by.ensures.set

pub returns : goal.returns
returns c =
    let lt = subst (λ (l : Lists). c.args.number < length l.driving) (sym c.self.view_is) c.requires in
    subst (λ (l : Lists). IsNotedAlone c.args.number c.args.value l (record {
      sources = c.self.inside.sources;
      driving = set c.self.inside.driving.items c.args.number c.args.value;
      touched = c.replace_by.new.list;
      gathered = c.replace_by.new.set;
    })) c.self.view_is
    (noted-alone c.self.invariant c.args.number c.args.value c.replace_by.new.list c.replace_by.new.set lt c.replace_by.ensures.sized
    (rw (sym c.row.ensures) c.replace_by.ensures.members))
