use Rattle.std.proofs.Common.{ℕ, ◌≡◌, ◌<◌, ◌+◌, Bool, List, length, ap, ◌∙◌, subst, arith}
use Rattle.sim_store_simulation.specs.Simulation.{is_due, those_in}
use Rattle.sim_store.specs.Handing.{PhaseInput, IsPhaseInput, at_input}
use Rattle.sim_store.proofs.Places.{IsPlace, due-between, due-rise}
use Rattle.sim_store.proofs.phase_input.PhaseInput.due.Goals as goal

pub place_from-start-requires : goal.place_from-start-requires
place_from-start-requires g c = due-rise c.self.inside.fields.due c.numbers-numbers.result.now c.numbers-numbers.ensures

pub place_from-end-requires : goal.place_from-end-requires
place_from-end-requires g c = due-rise c.self.inside.fields.due c.numbers-numbers.result.now c.numbers-numbers.ensures

pub returns : goal.returns
returns g c =
    let design = g.D.DesignType.design in
    let s = c.self.inside.fields in
    let f = c.args.self.now in
    let i : IsPhaseInput design s.design f = subst (λ (w : PhaseInput). IsPhaseInput design s.design w) c.self.view_is c.self.invariant in
    let ed : s.due ≡ f.due = ap (λ (w : PhaseInput). w.due) c.self.view_is in
    let long : length s.due ≡ length design.processes = ap length ed ∙ i.due_sized in
    let same : (p : ℕ) → p < length s.due → those_in s.due p ≡ is_due (at_input design f) p =
    λ p lt. ap (λ (w : List Bool). those_in w p) ed ∙ i.due_are p (omega (arith, lt, long)) in
    let start : IsPlace c.numbers-numbers.result.now c.args.from c.place_from-start.result = record {
      within = c.place_from-start.ensures.within;
      below = c.place_from-start.ensures.below;
      above = c.place_from-start.ensures.above;
    } in
    let end : IsPlace c.numbers-numbers.result.now (c.args.from + c.args.count) c.place_from-end.result = record {
      within = c.place_from-end.ensures.within;
      below = c.place_from-end.ensures.below;
      above = c.place_from-end.ensures.above;
    } in
    (due-between s.due c.numbers-numbers.result.now c.numbers-numbers.ensures (is_due (at_input design f)) c.args.from c.args.count
    c.place_from-start.result c.place_from-end.result (omega (arith, c.requires, long)) same start end).part_is
