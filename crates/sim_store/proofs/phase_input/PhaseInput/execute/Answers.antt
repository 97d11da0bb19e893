use Rattle.std.proofs.Common.{◌≡◌, List, length, ap, sym, ◌∙◌, subst, arith}
use Rattle.std.proofs.lemmas.Result.{on_ok_weaker}
use Rattle.sim_logic.specs.declared.logic.Logic.{Logic}
use Rattle.sim_flat_design.specs.Designs.{Design}
use Rattle.sim_flat_design.specs.Processes.{Process}
use Rattle.sim_exec_code.specs.Codes.{AreCodesOf, FitsAll}
use Rattle.sim_store_nets.specs.Nets.{views_of}
use Rattle.sim_store_share.specs.declared.reading.Reading.{Reading}
use Rattle.sim_store_simulation.specs.Simulation.{reached}
use Rattle.sim_store.specs.Handing.{PhaseInput, IsPhaseInput, at_input, due_from}
use Rattle.sim_store.proofs.Handed.{range-executable, range-executed}
use Rattle.sim_store.proofs.phase_input.PhaseInput.execute.Goals as goal

pub execute-requires : goal.execute-requires
execute-requires g c =
    let design = g.D.DesignType.design in
    let s = c.self.inside.fields in
    let f = c.args.self.now in
    let share = c.args.share.now in
    let i : IsPhaseInput design s.design f = subst (λ (w : PhaseInput). IsPhaseInput design s.design w) c.self.view_is c.self.invariant in
    let ep : c.processes.result.now ≡ design.processes = c.processes.ensures.value ∙ ap (λ (d : Design). d.processes) i.design_is in
    let et : s.time ≡ f.time = ap (λ (w : PhaseInput). w.time) c.self.view_is in
    let ec = ap (λ (w : PhaseInput). w.codes) c.self.view_is in
    let en : views_of c.seen.result.values.now c.seen.result.values_before.now ≡ (reached (at_input design f)).nets =
    ap (λ (vs : List Logic). views_of vs c.seen.result.values_before.now) (c.seen.ensures.values ∙ ap (λ (w : PhaseInput). w.values.present) c.self.view_is)
    ∙ (ap (views_of f.values.present) (c.seen.ensures.before ∙ ap (λ (w : PhaseInput). w.values.before) c.self.view_is) ∙ i.nets_are) in
    let numbers : c.due-numbers.result.now ≡ due_from (at_input design f) c.args.from (length share) =
    c.due-numbers.ensures ∙ ap (due_from (at_input design f) c.args.from) c.len.ensures in
    record {
      reading = record {
        time = omega (arith, i.early, et);
        codes = subst (λ (ps : List Process). AreCodesOf ps s.codes) (sym ep) (subst (AreCodesOf design.processes) (sym ec) i.codes_are);
      };
      frame = subst (λ (w : PhaseInput). FitsAll w.codes.codes c.args.frame.now) (sym c.self.view_is) c.requires.frame;
      each = range-executable i _ ep en et c.due-numbers.result.now share numbers c.requires.range;
    }

pub returns-clause-range : goal.returns-clause-range
returns-clause-range g c =
    let design = g.D.DesignType.design in
    let s = c.self.inside.fields in
    let f = c.args.self.now in
    let share = c.args.share.now in
    let i : IsPhaseInput design s.design f = subst (λ (w : PhaseInput). IsPhaseInput design s.design w) c.self.view_is c.self.invariant in
    let ep : c.processes.result.now ≡ design.processes = c.processes.ensures.value ∙ ap (λ (d : Design). d.processes) i.design_is in
    let et : s.time ≡ f.time = ap (λ (w : PhaseInput). w.time) c.self.view_is in
    let en : views_of c.seen.result.values.now c.seen.result.values_before.now ≡ (reached (at_input design f)).nets =
    ap (λ (vs : List Logic). views_of vs c.seen.result.values_before.now) (c.seen.ensures.values ∙ ap (λ (w : PhaseInput). w.values.present) c.self.view_is)
    ∙ (ap (views_of f.values.present) (c.seen.ensures.before ∙ ap (λ (w : PhaseInput). w.values.before) c.self.view_is) ∙ i.nets_are) in
    let numbers : c.due-numbers.result.now ≡ due_from (at_input design f) c.args.from (length share) =
    c.due-numbers.ensures ∙ ap (due_from (at_input design f) c.args.from) c.len.ensures in
    let r : Reading = record {
      nets = c.seen.result;
      processes = c.processes.result;
      codes = record { ref_ptr = c.args.self.ref_ptr; now = s.codes };
      time = s.time;
      first = c.args.from;
    } in
    on_ok_weaker c.execute.result (range-executed i r ep en et c.due-numbers.result.now share c.execute.new.self numbers c.requires.range
    c.execute.ensures.kept.sized c.execute.ensures.kept.ready) c.execute.ensures.executed

pub returns-clause-count : goal.returns-clause-count
returns-clause-count g c = c.execute.ensures.kept.sized
