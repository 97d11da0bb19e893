use Rattle.std.proofs.Common.{List, length, refl, ap, sym, ◌∙◌, subst}
use Rattle.sim_flat_design.specs.Designs.{Design}
use Rattle.sim_standard.specs.State.{Owned, all_drivers, driver_values}
use Rattle.sim_store_state.specs.FlatState.{FlatState}
use Rattle.sim_containers.specs.RowArray.{joined}
use Rattle.sim_store.specs.declared.retained.RetainedContents.{RetainedContents}
use Rattle.sim_store.specs.Handing.{PhaseInput}
use Rattle.sim_store.specs.Retained.{IsRetained}
use Rattle.sim_store_simulation.proofs.Going.{held-count}
use Rattle.sim_store.proofs.Retaining.{first-input, first-range, first-state}
use Rattle.sim_store.proofs.Returning.{fresh-owned}
use Rattle.sim_store.proofs.retained.split_contents.Goals as goal

pub invariant_of-input : goal.invariant_of-input
invariant_of-input g c =
    let e = c.into_parts-values.ensures in
    first-input c.requires.of.state c.requires.fresh g.D.DesignType.design c.args.contents.cycles c.requires.design refl c.args.contents.compiled.codes
    c.into_parts-values.result.0 c.requires.of.compiled.codes_are (ap (λ (w : FlatState). w.nets) (sym e.state))

pub returns-clause-range : goal.returns-clause-range
returns-clause-range g c =
    let e = c.into_parts-values.ensures in
    first-range c.requires.of.state c.requires.fresh g.D.DesignType.design c.args.contents.cycles c.requires.design refl
    (joined c.into_parts-values.result.1.items) (ap (λ (w : FlatState). w.owned) (sym e.state))

pub returns-clause-all : goal.returns-clause-all
returns-clause-all g c =
    ap (λ (w : FlatState). length w.owned) (sym c.into_parts-values.ensures.state)
    ∙ (held-count c.requires.of.state ∙ ap (λ (d : Design). length d.processes) c.requires.design)

pub returns-clause-retained : goal.returns-clause-retained
returns-clause-retained g c =
    let e = c.into_parts-values.ensures in
    let m = c.args.contents in
    let i = c.requires.of.state in
    let f : PhaseInput = record {
      cycles = m.cycles;
      phase = m.phase;
      time = m.time;
      codes = m.compiled.codes;
      values = c.into_parts-values.result.0;
      due = m.due;
    } in
    let k : RetainedContents = record {
      delta = m.delta;
      sensitive = m.compiled.sensitive;
      frame = m.compiled.frame;
      lists = c.into_parts-values.result.2;
      waiting = m.waiting;
      deposited = m.deposited;
      all_executed = m.all_executed;
      totals = m.totals;
    } in
    let is : IsRetained c.args.design f k = record {
      fresh = c.requires.fresh;
      split = record {
        nets = e.consistent.nets;
        valued = e.consistent.valued
            ∙ ap (λ (os : List Owned). driver_values (all_drivers os)) (ap (λ (w : FlatState). w.owned) (sym e.state) ∙ fresh-owned i c.requires.fresh);
        resolving = e.consistent.resolving;
        touching = e.consistent.touching;
      };
      holds = record {
        compiled = c.requires.of.compiled;
        marked = c.requires.of.marked;
        state = first-state i c.requires.fresh c.into_parts-values.result.2.sources _ (ap (λ (w : FlatState). w.sources) (sym e.state))
            (ap (λ (w : FlatState). w.nets) (sym e.state));
        marks_sized = c.requires.of.marks_sized;
        counts = c.requires.of.counts;
      };
    } in
    subst (λ (d : Design). IsRetained d f k) c.requires.design is
