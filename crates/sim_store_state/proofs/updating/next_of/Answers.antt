use Rattle.std.proofs.Common.{ap, set, ◌∙◌}
use Rattle.std.proofs.lemmas.List.{set-get_or}
use Rattle.sim_store_state.proofs.Shares.{alone}
use Rattle.sim_store_state.proofs.updating.next_of.Goals as goal

pub returns-then-shares-eq1 : goal.returns-then-shares-eq1
returns-then-shares-eq1 c =
    let shares = c.args.shares.now in
    let d = c.index-shares-0.result in
    record {
      same = ap (λ w. set shares 0 w) c.next.ensures.same ∙ set-get_or shares 0 d;
      value = rw (alone shares d c.if-shares-eq1.true) c.next.ensures.value;
    }
