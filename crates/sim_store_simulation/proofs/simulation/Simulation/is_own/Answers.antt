use Rattle.std.proofs.Common.{rules, tests, IsTrue, ◌≡◌, ◌<◌, false, List, length, map, ap, sym, ◌∙◌, subst, arith}
use Rattle.std.proofs.lemmas.List.{get_or_default}
use Rattle.std.proofs.lemmas.Grind.{common_steps}
use Rattle.sim_flat_design.specs.Processes.{Process}
use Rattle.sim_standard.specs.Processes.{process_at}
use Rattle.sim_standard.proofs.Names.{no_process}
use Rattle.sim_standard.specs.State.{net_at, owned_at}
use Rattle.sim_store_simulation.specs.Simulation.{Simulation, IsOwn, those_in}
use Rattle.sim_store_simulation.proofs.Going.{fits-own, held-count, own-owned, own-views}
use Rattle.sim_store_simulation.specs.Contents.{simulation_of}
use Rattle.sim_store_simulation.proofs.Boxes.{held, shown}
use Rattle.sim_store_simulation.proofs.simulation.Simulation.is_own.Goals as goal

pub is_part-requires : goal.is_part-requires
is_part-requires c =
    let kept = held c.self.inside.design c.deref-contents.ensures c.self.invariant in
    let view = shown c.self.inside.design c.deref-contents.ensures c.self.view_is in
    let lt : c.args.job.now.number < length c.self.inside.design.processes =
    subst (λ (g : Simulation). c.args.job.now.number < length g.design.processes) (sym view) c.requires.at in
    omega (arith, lt, c.number-2.ensures, held-count kept.state)

pub returns : goal.returns
returns c =
    let m = c.deref-contents.result.now in
    let kept = held c.self.inside.design c.deref-contents.ensures c.self.invariant in
    let view = shown c.self.inside.design c.deref-contents.ensures c.self.view_is in
    let s = c.self.inside in
    let h = simulation_of s.design m in
    let i = kept.state in
    let job = c.args.job.now in
    let lt : job.number < length s.design.processes = subst (λ (g : Simulation). job.number < length g.design.processes) (sym view) c.requires.at in
    let out = subst (λ (g : Simulation). those_in g.deposited job.number ≡ false) (sym view) c.requires.fresh in
    let q = process_at s.design.processes job.number in
    let is : c.index-processes-number.result ≡ q =
    c.index-processes-number.is ∙ (get_or_default c.processes.result.now c.number.result _ no_process
    (omega (arith, lt, c.number.ensures, ap length c.processes.ensures.value))
    ∙ (ap (process_at c.processes.result.now) c.number.ensures ∙ ap (λ (ps : List Process). process_at ps job.number) c.processes.ensures.value)) in
    let time : job.time ≡ m.time = search (rules, tests) in
    let process : job.process ≡ q = sym c.process.ensures ∙ (sym (c.same.ensures.0 (search (rules, tests))) ∙ is) in
    let reads = c.reads.ensures.value ∙ ap (λ (r : Process). r.reads) is in
    let given : record { drivers = c.drivers.result.now; variables = c.variables.result.now } ≡ job.owned =
    ap (λ ds. record { drivers = ds; variables = c.variables.result.now }) c.drivers.ensures
    ∙ ap (λ vs. record { drivers = job.owned.drivers; variables = vs }) c.variables.ensures in
    let held = ap (owned_at m.state.owned) c.number-2.ensures in
    subst (λ (g : Simulation). (IsTrue c.is_part.result → IsOwn g job) × (IsOwn g job → IsTrue c.is_part.result)) view (
      (λ yes. let both = c.is_part.ensures.0 yes in
          fits-own i job out time process
          (sym c.views.ensures.value ∙ (both.0 ∙ ap (map (net_at m.state.nets)) reads))
          (sym given ∙ (both.1 ∙ held))),
      (λ own. c.is_part.ensures.1 (
        c.views.ensures.value ∙ (own-views i job own ∙ ap (map (net_at m.state.nets)) (sym reads)),
        given ∙ (own-owned i job own out ∙ sym held),
      )),
    )

pub returns-then-not-same : goal.returns-then-not-same
returns-then-not-same c = grind (arith, common_steps)
