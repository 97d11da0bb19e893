use Rattle.std.proofs.Common.{ap, ◌∙◌, length, false}
use Rattle.std.proofs.lemmas.List.{length-replicate}
use Rattle.sim_store_share.proofs.Held.{idle-times}
use Rattle.sim_containers.specs.RowArray.{joined}
use Rattle.sim_store_share.proofs.share.Share.first.Goals as goal

pub invariant_of-result : goal.invariant_of-result
invariant_of-result c = record {
  owned = c.requires.owned;
  sized = c.in_ok-times.ensures.0 ∙ ap length c.flat.ensures;
  timed = λ d fresh. c.in_ok-times.ensures.1 d fresh ∙ idle-times (joined c.args.drivers) c.requires.idle d;
  marked = ap length c.in_ok-taken.ensures ∙ (length-replicate (length c.flat-2.result.now) false ∙ ap length c.flat-2.ensures);
}
