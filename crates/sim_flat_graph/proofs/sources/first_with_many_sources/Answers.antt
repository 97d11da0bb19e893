use Rattle.std.proofs.Common.{◌≡◌, ◌↔◌, ℕ, Bool, List, length, get_or, true, false, ap, sym, ◌∙◌, subst, arith}
use Rattle.std.proofs.lemmas.List.{get_or_read}
use Rattle.sim_flat_blocks.specs.Blocks.{no_block}
use Rattle.sim_flat_graph.specs.Graph.{Graph, Reaches, IsWhole}
use Rattle.sim_flat_graph.proofs.Endless.{graph_length, graph_whole}
use Rattle.sim_flat_graph.proofs.SourcePlaces.{one_more, all_below}
use Rattle.sim_flat_graph.proofs.sources.first_with_many_sources.Goals as goal

pub reached-requires-clause-whole : goal.reached-requires-clause-whole
reached-requires-clause-whole c = subst IsWhole (sym (c.as_slice.ensures ∙ c.in_ok-graph.ensures)) (graph_whole c.args.blocks.now c.requires.known)

pub reached-requires-clause-from : goal.reached-requires-clause-from
reached-requires-clause-from c =
    let e : length c.as_slice.result.now ≡ length c.args.blocks.now =
    ap (λ (g : Graph). length g) (c.as_slice.ensures ∙ c.in_ok-graph.ensures) ∙ graph_length c.args.blocks.now in
    let t = c.requires.top in
    omega arith

pub loop-number-preserved : goal.loop-number-preserved
loop-number-preserved c =
    let blocks = c.args.blocks.now in
    let marks = c.in_ok-marks.marks.items in
    let k = c.loop-number.number in
    let reached = subst (λ (g : Graph). (n : ℕ) → (get_or marks n false ≡ true) ↔ Reaches g n c.args.top)
    (c.as_slice.ensures ∙ c.in_ok-graph.ensures) c.in_ok-marks.ensures.marks in
    let marked = c.is_marked.ensures ∙ ap (λ (m : List Bool). get_or m k false) c.as_slice-in-loop-number.ensures.value in
    one_more blocks c.args.top k marks c.loop-number.least c.in_ok-least.least c.is_marked.result c.index-blocks-number.result reached marked
    (get_or_read blocks k c.index-blocks-number.result c.loop-number-test.true c.index-blocks-number.is no_block) c.in_ok-least.ensures c.loop-number.invariant

pub returns : goal.returns
returns c = all_below c.args.blocks.now c.args.top c.loop-number.number c.loop-number.least c.loop-number-test.false c.loop-number.invariant
