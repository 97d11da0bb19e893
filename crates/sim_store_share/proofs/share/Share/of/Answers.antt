use Rattle.std.proofs.Common.{ap, subst, ◌∙◌, ◌≤◌, ℕ, length, false}
use Rattle.std.proofs.lemmas.List.{length-replicate}
use Rattle.sim_store_share.proofs.Held.{no-time}
use Rattle.sim_containers.specs.RowArray.{joined}
use Rattle.sim_store_share.specs.Shares.{time_at}
use Rattle.sim_store_share.proofs.share.Share.of.Goals as goal

pub invariant_of-result : goal.invariant_of-result
invariant_of-result c = record {
  owned = c.requires;
  sized = c.in_ok-times.ensures.0 ∙ ap length c.flat.ensures;
  timed = c.in_ok-times.ensures.1 (time_at (joined c.args.drivers)) (λ d le.
      no-time (joined c.args.drivers) d (subst (λ (n : ℕ). n ≤ d) (ap length c.flat.ensures) le));
  marked = ap length c.in_ok-taken.ensures ∙ (length-replicate (length c.flat-2.result.now) false ∙ ap length c.flat-2.ensures);
}
