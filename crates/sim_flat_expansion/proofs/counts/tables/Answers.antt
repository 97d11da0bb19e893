use Rattle.std.proofs.Common.{◌≡◌, ◌+◌, sym, ◌∙◌, arith}
use Rattle.std.proofs.lemmas.Bool.Decides.{Decides-eqb}
use Rattle.std.proofs.lemmas.Slice.Eq.{slice_eq-Decides}
use Rattle.sim_flat_expansion.specs.Counts.{table_at}
use Rattle.sim_flat_expansion.proofs.Steady.{level_up, last_level}
use Rattle.sim_flat_expansion.proofs.counts.tables.Goals as goal

pub loop-turn-init : goal.loop-turn-init
unfolding table_at
loop-turn-init c = c.in_ok-table.ensures

pub returns-then-eq : goal.returns-then-eq
returns-then-eq c =
    let rows : c.in_ok-rows.rows ≡ table_at c.args.kind c.args.blocks.now (c.loop-turn._turn + 1) =
    c.in_ok-rows.ensures ∙ level_up c.args.kind c.args.blocks.now _ _ c.loop-turn._turn
    (c.as_slice.ensures ∙ c.loop-turn.invariant) (c.as_slice-in-loop-turn.ensures ∙ c.in_ok-alone.ensures) in
    last_level c.args.kind c.args.blocks.now c.loop-turn.table c.in_ok-rows.rows c.loop-turn._turn c.args.levels (omega arith) c.loop-turn.invariant rows
    (sym c.as_slice-in-loop-turn-2.ensures ∙ ((slice_eq-Decides Decides-eqb _ _ _ c.eq.ensures).0 c.if-eq.true ∙ c.as_slice-in-loop-turn-3.ensures))

pub loop-turn-preserved : goal.loop-turn-preserved
loop-turn-preserved c =
    c.in_ok-rows.ensures ∙ level_up c.args.kind c.args.blocks.now _ _ c.loop-turn._turn
    (c.as_slice.ensures ∙ c.loop-turn.invariant) (c.as_slice-in-loop-turn.ensures ∙ c.in_ok-alone.ensures)
