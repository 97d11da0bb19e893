use Rattle.std.proofs.Common.{◌≡◌, false, List, Bool, length, ap, refl, sym, ◌∙◌, subst, arith, rules}
use Rattle.std.proofs.lemmas.List.{length-map, length-replicate}
use Rattle.sim_containers.specs.Numbers.{is_in}
use Rattle.sim_containers.specs.Times.{clear, is_at, time_of}
use Rattle.sim_store_share.specs.PendingTimes.{Pending, AreTimes}
use Rattle.sim_containers.proofs.Sets.{in_none}
use Rattle.sim_store_nets.proofs.Walks.{member_within}
use Rattle.sim_store_share.proofs.Due.{due-cleared}
use Rattle.sim_store_share.proofs.Taken.{later-apart, none-in, none-left, removed}
use Rattle.sim_store_share.proofs.pending_times.PendingTimes.take.Goals as goal

pub returns-then-eq : goal.returns-then-eq
returns-then-eq c = record {
  sized = ap length c.take.ensures.queue ∙ (length-map c.self.inside.queue (clear c.args.time) ∙ ap (λ (p : Pending). length p.queue) c.self.view_is);
  marked = ap length c.take.ensures.taken ∙ (length-map c.self.inside.queue (is_at c.args.time) ∙ (ap (λ (p : Pending). length p.queue) c.self.view_is
      ∙ sym c.requires));
  others = λ times known d lt out.
      let now = subst (λ (p : Pending). AreTimes p times) (sym c.self.view_is) known in
      let fresh = none-in c.self.inside.stale (c.is_empty.ensures.0 (search rules)) d in
      let gone = removed c.self.inside.queue c.args.time (times d) d (now d fresh) (ap (λ (w : List Bool). is_in w d) (sym c.take.ensures.taken) ∙ out) in
      (gone.0, λ _. ap (λ w. time_of w d) c.take.ensures.queue ∙ gone.1);
  none = λ d here _. due-cleared c.self.inside.queue c.take.new.self c.take.new.taken c.args.time d c.take.ensures.taken c.take.ensures.queue here;
}

pub returns-then-is_later : goal.returns-then-is_later
returns-then-is_later c = record {
  sized = refl;
  marked = ap length c.clear.ensures ∙ length-replicate (length c.args.taken.now) false;
  others = λ times known d lt out.
      let now = subst (λ (p : Pending). AreTimes p times) (sym c.self.view_is) known in
      let fresh = none-in c.self.inside.stale (c.is_empty.ensures.0 (search rules)) d in (
        later-apart c.self.inside.queue c.args.time (times d) c.least-then-is_empty.result d (now d fresh) c.least-then-is_empty.ensures
            (c.is_later.ensures c.if-is_later.true),
        known d,
      );
  none = λ d here _. none-left c.clear.new.self d here (ap (λ (w : List Bool). is_in w d) c.clear.ensures ∙ in_none (length c.args.taken.now) d);
}

pub returns : goal.returns
returns c =
    let sized : length c.self.inside.stale ≡ length c.self.inside.queue = c.self.invariant in
    let same : length c.args.taken.now ≡ length c.self.inside.queue = c.requires ∙ ap (λ (p : Pending). length p.queue) (sym c.self.view_is) in
    record {
      sized = ap (λ (p : Pending). length p.queue) c.self.view_is;
      marked = c.fill.ensures.sized;
      others = λ times known d lt out. none-left c.fill.new.set d (c.fill.ensures.all d (omega (arith, lt, c.requires))) out;
      none = λ d here fresh.
          let lt = member_within c.fill.new.set d here in
          none-left c.fill-2.new.set d (c.fill-2.ensures.all d (omega (arith, lt, c.fill.ensures.sized, same, sized))) fresh;
    }
