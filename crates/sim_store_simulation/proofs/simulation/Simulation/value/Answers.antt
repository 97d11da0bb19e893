use Rattle.std.proofs.Common.{ℕ, ◌≡◌, ◌<◌, ◌≤◌, List, length, MatchOption, IfSome, Some, subst}
use Rattle.sim_standard.specs.declared.net_view.NetView.{NetView}
use Rattle.sim_standard.specs.State.{net_at}
use Rattle.sim_store_simulation.specs.Simulation.{Simulation, reached}
use Rattle.sim_standard.specs.Agreement.{value_by}
use Rattle.sim_standard.specs.Records.{records_to}
use Rattle.sim_store_simulation.proofs.Counting.{known-value}
use Rattle.sim_store_simulation.proofs.Going.{net-count}
use Rattle.sim_store_simulation.proofs.Boxes.{held, shown}
use Rattle.sim_store_simulation.proofs.simulation.Simulation.value.Goals as goal

pub returns-clause-value : goal.returns-clause-value
returns-clause-value c =
    let m = c.deref.result.now in
    let kept = held c.self.inside.design c.deref.ensures c.self.invariant in
    let view = shown c.self.inside.design c.deref.ensures c.self.view_is in
    let i = kept.state in
    let counted = subst (λ (n : ℕ). MatchOption c.value.result (n ≤ c.args.net)
    (λ v. (c.args.net < n) × (v ≡ (net_at m.state.nets c.args.net).value)))
    (net-count i) c.value.ensures in
    let seen = subst (λ (ns : List NetView). MatchOption c.value.result (length c.self.inside.design.nets ≤ c.args.net)
    (λ v. (c.args.net < length c.self.inside.design.nets) × (v ≡ (net_at ns c.args.net).value))) i.nets_are counted in
    subst (λ (g : Simulation). MatchOption c.value.result (length g.design.nets ≤ c.args.net)
    (λ v. (c.args.net < length g.design.nets) × (v ≡ (net_at (reached g).nets c.args.net).value))) view seen

pub returns-clause-records : goal.returns-clause-records
returns-clause-records c =
    let kept = held c.self.inside.design c.deref.ensures c.self.invariant in
    let view = shown c.self.inside.design c.deref.ensures c.self.view_is in
    subst (λ (g : Simulation). IfSome c.value.result (λ v. value_by (records_to g.design g.cycles) c.args.net ≡ Some v)) view
    (known-value kept.state c.args.net c.value.result c.value.ensures)
