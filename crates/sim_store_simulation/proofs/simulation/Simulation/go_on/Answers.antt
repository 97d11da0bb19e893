use Rattle.std.proofs.Common.{ℕ, suc, ◌+◌, ◌<◌, ◌≡◌, ◌&&◌, ◌||◌, not, Bool, false, ◌++◌, [], ◌∷◌, List, length, get_or, Some, ap, sym, ◌∙◌, subst, arith}
use Rattle.std.proofs.lemmas.List.{length-replicate}
use Rattle.sim_containers.proofs.Flat.{written_back}
use Rattle.sim_standard.specs.declared.record.Record.{Record}
use Rattle.sim_store_state.specs.Counting.{AreCounted}
use Rattle.sim_store_state.specs.Log.{last_record}
use Rattle.sim_store_state.proofs.Logged.{last-pushed}
use Rattle.sim_standard.specs.Records.{changes_from, records_to}
use Rattle.sim_standard.specs.Cycle.{CycleAt}
use Rattle.sim_store_state.specs.Sensitive.{has_event_in}
use Rattle.sim_standard.specs.Processes.{process_at}
use Rattle.sim_store_simulation.specs.Simulation.{ArePostponed, AreTotals, IsLogged, Simulation, IsExecuted, after, next_after, place_of, reached, those_in}
use Rattle.sim_store_simulation.proofs.Counting.{totals-few, totals-go-on}
use Rattle.sim_store_simulation.proofs.Going.{advanced-count, advanced-keeps, advanced-recorded, advanced-time, net-count, record-count}
use Rattle.sim_store_simulation.proofs.Going.{next-time-is, none-marked-for, slow, state_of}
use Rattle.sim_store_simulation.proofs.Recorded.{continued, next-placed}
use Rattle.sim_store_simulation.specs.declared.simulation.Contents.{Contents}
use Rattle.sim_store_simulation.specs.Contents.{IsOf, simulation_of}
use Rattle.sim_store_simulation.proofs.Boxes.{held, shown}
use Rattle.sim_store_simulation.proofs.simulation.Simulation.go_on.Goals as goal

pub next_delta-contents-requires : goal.next_delta-contents-requires
next_delta-contents-requires c =
    let m = c.deref_mut-contents.result.now in
    let kept = held c.self.inside.design c.deref_mut-contents.ensures.value c.self.invariant in
    let view = shown c.self.inside.design c.deref_mut-contents.ensures.value c.self.view_is in
    let few : (simulation_of c.self.inside.design m).cycles < 4294967296 = subst (λ (g : Simulation). g.cycles < 4294967296) (sym view) c.requires.bound in
    omega (arith, few, slow kept.state)

pub reserve-requires : goal.reserve-requires
reserve-requires c =
    let kept = held c.self.inside.design c.deref_mut-contents.ensures.value c.self.invariant in
    omega (arith, ap length c.nets-nets.ensures.value, kept.state.few)

pub update-requires-clause-time : goal.update-requires-clause-time
update-requires-clause-time c =
    let kept = held c.self.inside.design c.deref_mut-contents.ensures.value c.self.invariant in
    let view = shown c.self.inside.design c.deref_mut-contents.ensures.value c.self.view_is in
    let done = subst IsExecuted (sym view) c.requires.executed in
    next-time-is kept.state done c.args.time (subst (λ (g : Simulation). next_after g ≡ Some (CycleAt c.args.time)) (sym view) c.requires.next)

pub update-requires-clause-few : goal.update-requires-clause-few
update-requires-clause-few c =
    let kept = held c.self.inside.design c.deref_mut-contents.ensures.value c.self.invariant in
    omega (arith, net-count kept.state, kept.state.few)

pub update-requires-clause-next : goal.update-requires-clause-next
update-requires-clause-next c =
    let kept = held c.self.inside.design c.deref_mut-contents.ensures.value c.self.invariant in
    let view = shown c.self.inside.design c.deref_mut-contents.ensures.value c.self.view_is in
    next-placed kept.state _ (c.in_ok-reserve.ensures.same.last ∙ (c.requires.last ∙ ap place_of (sym view))) c.args.time c.next_delta-contents.result
    c.next_delta-contents.ensures

pub update-requires-clause-room : goal.update-requires-clause-room
update-requires-clause-room c =
    let kept = held c.self.inside.design c.deref_mut-contents.ensures.value c.self.invariant in
    let room = c.in_ok-reserve.ensures.room in
    record { time = room.time; entries = omega (arith, room.entries, net-count kept.state, ap length c.nets-nets.ensures.value) }

pub update-requires-clause-countable : goal.update-requires-clause-countable
update-requires-clause-countable c n =
    let m = c.deref_mut-contents.result.now in
    let kept = held c.self.inside.design c.deref_mut-contents.ensures.value c.self.invariant in
    let view = shown c.self.inside.design c.deref_mut-contents.ensures.value c.self.view_is in
    let few : (simulation_of c.self.inside.design m).cycles < 4294967296 = subst (λ (g : Simulation). g.cycles < 4294967296) (sym view) c.requires.bound in
    omega (
      arith,
      few,
      net-count kept.state,
      kept.state.few,
      ap (λ (w : List ℕ). get_or w n 0) c.as_mut_slice.ensures.value,
      totals-few kept.state m.totals.items kept.counts n,
    )

pub find-requires-clause-processes : goal.find-requires-clause-processes
find-requires-clause-processes c =
    let kept = held c.self.inside.design c.deref_mut-contents.ensures.value c.self.invariant in
    omega (arith, ap length c.leave.ensures.postponed, kept.marked.sized, kept.state.due_sized)

pub invariant_of-self-2 : goal.invariant_of-self-2
invariant_of-self-2 c =
    let m = c.deref_mut-contents.result.now in
    let kept = held c.self.inside.design c.deref_mut-contents.ensures.value c.self.invariant in
    let view = shown c.self.inside.design c.deref_mut-contents.ensures.value c.self.view_is in
    let s = c.self.inside in
    let h = simulation_of s.design m in
    let i = kept.state in
    let done = subst IsExecuted (sym view) c.requires.executed in
    let next = next-time-is i done c.args.time (subst (λ (g : Simulation). next_after g ≡ Some (CycleAt c.args.time)) (sym view) c.requires.next) in
    let one : Record = record { time = c.args.time; delta = c.next_delta-contents.result; changes = changes_from 0 c.update.new.self.nets } in
    let same : c.find.new.waiting.postponed ≡ m.waiting.postponed = c.find.ensures.postponed ∙ c.leave.ensures.postponed in
    let marks = none-marked-for kept.state m.deposited kept.marks_sized in
    let changes = ap (λ (r : Record). r.changes) (ap last_record c.update.ensures.recorded.records ∙ last-pushed c.reserve.new.self.records one) in
    let sensed = kept.compiled.sensitive_sized ∙ sym (advanced-count i done c.args.time c.update.new.self c.update.ensures.state) in
    let written = written_back c.update.new.totals m.totals.items m.totals.len (c.update.ensures.counted.sized ∙ c.as_mut_slice.ensures.len) in
    let cycles : m.cycles + 1 ≡ suc h.cycles = omega arith in
    let recorded : records_to s.design (m.cycles + 1) ≡ records_to s.design h.cycles ++ one ∷ [] =
    ap (records_to s.design) cycles ∙ advanced-recorded i done c.args.time next c.next_delta-contents.result c.update.new.self c.next_delta-contents.ensures
    c.update.ensures.state in
    subst (λ (w : Contents). IsOf s.design w) (sym c.begin_phase.ensures) (record {
      compiled = kept.compiled;
      marked = subst (ArePostponed s.design) (sym same) kept.marked;
      state = advanced-keeps i done c.args.time next c.requires.early c.next_delta-contents.result (m.cycles + 1)
          c.update.new.self m.waiting.postponed c.find.new.self c.find.new.waiting.waiting _ c.next_delta-contents.ensures
          c.update.ensures.state c.find.ensures.sized (c.find.ensures.waiting_sized ∙ c.leave.ensures.sized)
          kept.marked.are
          (λ p lt. c.find.ensures.found c.update.new.self.nets h.design.processes p changes sensed kept.compiled.sensitive_are lt
          ∙ ap (λ (ps : List Bool). has_event_in c.update.new.self.nets (process_at h.design.processes p).sensitivity && not (those_in ps p))
          c.leave.ensures.postponed)
          (λ p lt. c.find.ensures.moved c.update.new.self.nets h.design.processes p changes sensed kept.compiled.sensitive_are lt
          ∙ (ap (λ (ps : List Bool). those_in c.leave.new.waiting.waiting p
          || (has_event_in c.update.new.self.nets (process_at h.design.processes p).sensitivity && those_in ps p)) c.leave.ensures.postponed
          ∙ ap (λ (b : Bool). b
          || (has_event_in c.update.new.self.nets (process_at h.design.processes p).sensitivity && those_in m.waiting.postponed p))
          (c.leave.ensures.left p))) marks cycles;
      marks_sized = length-replicate (length m.deposited) false ∙ kept.marks_sized;
      counts = subst (AreTotals (length s.design.nets) (records_to s.design (m.cycles + 1))) (sym written)
          (totals-go-on (length s.design.nets) (records_to s.design h.cycles) (records_to s.design (m.cycles + 1)) one m.totals.items c.update.new.totals
          (omega (arith, record-count i)) recorded kept.counts
          (subst (λ (w : List ℕ). AreCounted one.changes w c.update.new.totals) c.as_mut_slice.ensures.value c.update.ensures.counted));
    })

pub returns-clause-ok : goal.returns-clause-ok
returns-clause-ok c =
    let m = c.deref_mut-contents.result.now in
    let kept = held c.self.inside.design c.deref_mut-contents.ensures.value c.self.invariant in
    let view = shown c.self.inside.design c.deref_mut-contents.ensures.value c.self.view_is in
    let s = c.self.inside in
    let h = simulation_of s.design m in
    let done = subst IsExecuted (sym view) c.requires.executed in
    let next = next-time-is kept.state done c.args.time
    (subst (λ (g : Simulation). next_after g ≡ Some (CycleAt c.args.time)) (sym view) c.requires.next) in
    let marks = none-marked-for kept.state m.deposited kept.marks_sized in
    let cycles : m.cycles + 1 ≡ suc h.cycles = omega arith in (
      ap (simulation_of s.design) c.begin_phase.ensures ∙ rw (cycles, marks) (ap after view),
      subst (λ (w : Contents). (reached (simulation_of s.design w)).time ≡ c.args.time) (sym c.begin_phase.ensures)
          (subst (λ (k : ℕ). (state_of s.design k).time ≡ c.args.time) (sym cycles) (advanced-time kept.state done c.args.time next)),
    )

pub returns-clause-log : goal.returns-clause-log
returns-clause-log c logged =
    let m = c.deref_mut-contents.result.now in
    let kept = held c.self.inside.design c.deref_mut-contents.ensures.value c.self.invariant in
    let view = shown c.self.inside.design c.deref_mut-contents.ensures.value c.self.view_is in
    let s = c.self.inside in
    let h = simulation_of s.design m in
    let done = subst IsExecuted (sym view) c.requires.executed in
    let next = next-time-is kept.state done c.args.time
    (subst (λ (g : Simulation). next_after g ≡ Some (CycleAt c.args.time)) (sym view) c.requires.next) in
    let cycles : m.cycles + 1 ≡ suc h.cycles = omega arith in
    subst (λ (w : Contents). IsLogged (simulation_of s.design w) c.update.new.log) (sym c.begin_phase.ensures)
    (continued kept.state done c.args.time next c.next_delta-contents.result (m.cycles + 1) c.update.new.self _ c.next_delta-contents.ensures
    c.update.ensures.state cycles c.args.log.now _ c.update.new.log (subst (λ (g : Simulation). IsLogged g c.args.log.now) (sym view) logged)
    c.in_ok-reserve.ensures.same c.update.ensures.recorded)
