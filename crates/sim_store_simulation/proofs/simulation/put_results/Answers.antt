use Rattle.std.proofs.Common.{List, ap, sym, ◌∙◌}
use Rattle.std.proofs.lemmas.List.{set-get_or}
use Rattle.std.proofs.Math.ListN.{set}
use Rattle.sim_standard.specs.State.{Owned, owned_at}
use Rattle.sim_store_simulation.specs.Simulation.{kept_or}
use Rattle.sim_store_simulation.proofs.simulation.put_results.Goals as goal

pub returns-in_default : goal.returns-in_default
returns-in_default c =
    let owned = c.args.state.now.owned in
    let same = ap (λ r. set owned c.args.number (kept_or (owned_at owned c.args.number) r)) c.in_default.is
    ∙ set-get_or owned c.args.number _ in
    sym (ap (λ (os : List Owned). record c.args.state.now { owned = os }) same)
