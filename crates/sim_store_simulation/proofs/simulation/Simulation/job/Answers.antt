use Rattle.std.proofs.Common.{◌≡◌, ◌<◌, List, length, map, true, false, arith, sym, ap, ◌∙◌, subst}
use Rattle.std.proofs.lemmas.List.{get_or_default}
use Rattle.sim_flat_design.specs.Processes.{Process}
use Rattle.sim_standard.specs.Processes.{process_at}
use Rattle.sim_standard.proofs.Names.{no_process}
use Rattle.sim_exec.specs.Jobs.{Job, IsJob}
use Rattle.sim_standard.specs.State.{Owned, net_at}
use Rattle.sim_store_simulation.specs.Simulation.{Simulation, IsJobOf, IsOwn, is_due, those_in}
use Rattle.sim_store_simulation.proofs.Going.{held-count, job-fits, part-is}
use Rattle.sim_store_simulation.specs.Contents.{simulation_of}
use Rattle.sim_store_simulation.proofs.Boxes.{held, shown}
use Rattle.sim_store_simulation.proofs.simulation.Simulation.job.Goals as goal

pub part-requires : goal.part-requires
part-requires c =
    let kept = held c.self.inside.design c.deref-contents.ensures c.self.invariant in
    let view = shown c.self.inside.design c.deref-contents.ensures c.self.view_is in
    omega (arith, c.requires.due.number, ap (λ (h : Simulation). length h.design.processes) view, held-count kept.state)

pub new-requires : goal.new-requires
new-requires c =
    let m = c.deref-contents.result.now in
    let kept = held c.self.inside.design c.deref-contents.ensures c.self.invariant in
    let view = shown c.self.inside.design c.deref-contents.ensures c.self.view_is in
    let s = c.self.inside in
    let h = simulation_of s.design m in
    let lt : c.args.number < length s.design.processes = subst (λ (g : Simulation). c.args.number < length g.design.processes)
    (sym view) c.requires.due.number in
    let out = subst (λ (g : Simulation). those_in g.deposited c.args.number ≡ false) (sym view) c.requires.fresh in
    let is : c.index-processes-number.result ≡ process_at s.design.processes c.args.number =
    c.index-processes-number.is ∙ (get_or_default c.processes.result.now c.args.number _ no_process (omega (arith, lt, ap length c.processes.ensures.value))
    ∙ ap (λ (ps : List Process). process_at ps c.args.number) c.processes.ensures.value) in
    let views = c.in_ok-part.ensures.views ∙ (ap (map (net_at m.state.nets)) c.reads.ensures.value
    ∙ ap (λ (q : Process). map (net_at m.state.nets) q.reads) is) in
    let own : Owned = record { drivers = c.in_ok-part.part.drivers.items; variables = c.in_ok-part.part.variables.items } in
    let due = subst (λ (g : Simulation). is_due g c.args.number ≡ true) (sym view) c.requires.due.resumed in
    subst (λ (q : Process). IsJob m.time q c.in_ok-part.part.views.items own) (sym (c.in_ok-process.ensures ∙ is))
    (job-fits kept.state c.args.number lt due out c.in_ok-part.part.views.items own views c.in_ok-part.ensures.owned)

pub returns : goal.returns
returns c =
    let m = c.deref-contents.result.now in
    let kept = held c.self.inside.design c.deref-contents.ensures c.self.invariant in
    let view = shown c.self.inside.design c.deref-contents.ensures c.self.view_is in
    let s = c.self.inside in
    let h = simulation_of s.design m in
    let lt : c.args.number < length s.design.processes = subst (λ (g : Simulation). c.args.number < length g.design.processes)
    (sym view) c.requires.due.number in
    let out = subst (λ (g : Simulation). those_in g.deposited c.args.number ≡ false) (sym view) c.requires.fresh in
    let is : c.index-processes-number.result ≡ process_at s.design.processes c.args.number =
    c.index-processes-number.is ∙ (get_or_default c.processes.result.now c.args.number _ no_process (omega (arith, lt, ap length c.processes.ensures.value))
    ∙ ap (λ (ps : List Process). process_at ps c.args.number) c.processes.ensures.value) in
    let views = c.in_ok-part.ensures.views ∙ (ap (map (net_at m.state.nets)) c.reads.ensures.value
    ∙ ap (λ (q : Process). map (net_at m.state.nets) q.reads) is) in
    let own : Owned = record { drivers = c.in_ok-part.part.drivers.items; variables = c.in_ok-part.part.variables.items } in
    subst (λ (g : Simulation). IsJobOf g c.args.number c.new.result) view (record {
      cycle = ap (λ (j : Job). j.cycle) c.new.ensures;
      number = ap (λ (j : Job). j.number) c.new.ensures;
      own = subst (λ (j : Job). IsOwn h j) (sym c.new.ensures) (record {
        process = c.in_ok-process.ensures ∙ is;
        shows = sym (part-is kept.state c.args.number out c.in_ok-part.part.views.items own views c.in_ok-part.ensures.owned);
      });
    })
