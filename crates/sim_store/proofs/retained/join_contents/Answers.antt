use Rattle.std.proofs.Common.{refl, ap, sym, ◌∙◌, subst}
use Rattle.sim_containers.specs.RowArray.{joined}
use Rattle.sim_store.specs.Handing.{PhaseInput, IsRange, completed, at_input}
use Rattle.sim_store.specs.Retained.{IsRetained, retained_of}
use Rattle.sim_store_simulation.specs.Simulation.{with_marks}
use Rattle.sim_store.proofs.Retaining.{whole-complete, whole-holds, whole-same, whole-consistent}
use Rattle.sim_store.proofs.retained.join_contents.Goals as goal

pub of_parts-state-requires : goal.of_parts-state-requires
of_parts-state-requires g c =
    let d = g.D.DesignType.design in
    let s = c.input.inside.fields in
    let k = c.args.retained in
    let f : PhaseInput = record {
      cycles = s.cycles;
      phase = s.phase;
      time = s.time;
      codes = s.codes;
      values = s.values;
      due = s.due;
    } in
    let is : IsRetained d f k = subst (λ (w : PhaseInput). IsRetained d w k) (sym c.input.view_is) c.requires.retained in
    let range : IsRange (at_input d f) (completed (at_input d f)).owned 0 (joined c.args.shares.items) =
    subst (λ (w : PhaseInput). IsRange (at_input d w) (completed (at_input d w)).owned 0 (joined c.args.shares.items)) (sym c.input.view_is) c.requires.range in
    whole-consistent d f k is (joined c.args.shares.items) range c.requires.all c.args.shares.items refl c.requires.shares

pub returns-clause-of : goal.returns-clause-of
returns-clause-of g c =
    let d = g.D.DesignType.design in
    let s = c.input.inside.fields in
    let k = c.args.retained in
    let f : PhaseInput = record {
      cycles = s.cycles;
      phase = s.phase;
      time = s.time;
      codes = s.codes;
      values = s.values;
      due = s.due;
    } in
    let is : IsRetained d f k = subst (λ (w : PhaseInput). IsRetained d w k) (sym c.input.view_is) c.requires.retained in
    let range : IsRange (at_input d f) (completed (at_input d f)).owned 0 (joined c.args.shares.items) =
    subst (λ (w : PhaseInput). IsRange (at_input d w) (completed (at_input d w)).owned 0 (joined c.args.shares.items)) (sym c.input.view_is) c.requires.range in
    whole-holds d f k is (joined c.args.shares.items) range c.requires.all s.design c.input.invariant.design_is c.of_parts-state.result
    c.of_parts-state.ensures

pub returns-clause-same : goal.returns-clause-same
returns-clause-same g c =
    let d = g.D.DesignType.design in
    let s = c.input.inside.fields in
    let k = c.args.retained in
    let f : PhaseInput = record {
      cycles = s.cycles;
      phase = s.phase;
      time = s.time;
      codes = s.codes;
      values = s.values;
      due = s.due;
    } in
    let is : IsRetained d f k = subst (λ (w : PhaseInput). IsRetained d w k) (sym c.input.view_is) c.requires.retained in
    let range : IsRange (at_input d f) (completed (at_input d f)).owned 0 (joined c.args.shares.items) =
    subst (λ (w : PhaseInput). IsRange (at_input d w) (completed (at_input d w)).owned 0 (joined c.args.shares.items)) (sym c.input.view_is) c.requires.range in
    whole-same d f k is (joined c.args.shares.items) range c.requires.all s.design c.input.invariant.design_is
    ∙ ap (λ (w : PhaseInput). with_marks (retained_of d w k) s.due) c.input.view_is

pub returns-clause-complete : goal.returns-clause-complete
returns-clause-complete g c =
    let d = g.D.DesignType.design in
    let s = c.input.inside.fields in
    let k = c.args.retained in
    let f : PhaseInput = record {
      cycles = s.cycles;
      phase = s.phase;
      time = s.time;
      codes = s.codes;
      values = s.values;
      due = s.due;
    } in
    let is : IsRetained d f k = subst (λ (w : PhaseInput). IsRetained d w k) (sym c.input.view_is) c.requires.retained in
    let range : IsRange (at_input d f) (completed (at_input d f)).owned 0 (joined c.args.shares.items) =
    subst (λ (w : PhaseInput). IsRange (at_input d w) (completed (at_input d w)).owned 0 (joined c.args.shares.items)) (sym c.input.view_is) c.requires.range in
    whole-complete d f k is (joined c.args.shares.items) range c.requires.all s.design c.input.invariant.design_is
