use Rattle.std.proofs.Common.{◌≡◌, ◌+◌, rules, tests, sym, ◌∙◌, arith}
use Rattle.std.proofs.lemmas.Slice.Eq.{slice_eq-Decides}
use Rattle.sim_flat_expansion.specs.Depth.{table_at}
use Rattle.sim_flat_expansion.proofs.Steady.{chains_up, last_chains}
use Rattle.sim_flat_expansion.proofs.depth.tables.Goals as goal

pub loop-turn-init : goal.loop-turn-init
unfolding table_at
loop-turn-init c = c.in_ok-table.ensures

pub returns-then-eq : goal.returns-then-eq
returns-then-eq c =
    let rows : c.in_ok-rows.rows ≡ table_at c.args.blocks.now (c.loop-turn._turn + 1) =
    c.in_ok-rows.ensures ∙ chains_up c.args.blocks.now _ c.loop-turn._turn (c.as_slice.ensures ∙ c.loop-turn.invariant) in
    last_chains c.args.blocks.now c.loop-turn.table c.in_ok-rows.rows c.loop-turn._turn c.args.levels (omega arith) c.loop-turn.invariant rows
    (sym c.as_slice-in-loop-turn.ensures
    ∙ ((slice_eq-Decides (λ a b. search (rules, tests)) _ _ _ c.eq.ensures).0 c.if-eq.true ∙ c.as_slice-in-loop-turn-2.ensures))

pub loop-turn-preserved : goal.loop-turn-preserved
loop-turn-preserved c = c.in_ok-rows.ensures ∙ chains_up c.args.blocks.now _ c.loop-turn._turn (c.as_slice.ensures ∙ c.loop-turn.invariant)
