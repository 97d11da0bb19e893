use Rattle.std.proofs.Common.{◌≡◌, ◌↔◌, ℕ, List, length, get_or, true, false, ap, ◌∙◌, subst, arith}
use Rattle.std.proofs.lemmas.List.{get_or_read}
use Rattle.sim_flat_blocks.specs.declared.parts.Instance.{Instance}
use Rattle.sim_flat_blocks.specs.Blocks.{no_block}
use Rattle.sim_flat_graph.specs.Graph.{Graph, Reaches, graph_of}
use Rattle.sim_flat_graph.specs.Recursion.{IsLeastOn}
use Rattle.sim_flat_graph.proofs.Recursions.{one_more, all_below}
use Rattle.sim_flat_graph.proofs.Endless.{graph_length}
use Rattle.sim_flat_graph.proofs.Reversed.{reached_back}
use Rattle.sim_flat_graph.proofs.recursion.least_recursive.Goals as goal

pub loop-number-preserved : goal.loop-number-preserved
loop-number-preserved c =
    let blocks = c.args.blocks.now in
    let marks = c.in_ok-marks.marks.items in
    let back = c.in_ok-back.back.items in
    let k = c.loop-number.number in
    let reached = subst (λ (g : Graph). (n : ℕ) → (get_or marks n false ≡ true) ↔ Reaches g n c.args.top) c.requires.graph c.in_ok-marks.ensures.marks in
    let turned = subst (λ (g : Graph). (a b : ℕ) → Reaches back a b ↔ Reaches g b a) c.requires.graph
    (reached_back c.args.graph.now back c.in_ok-back.ensures.length c.in_ok-back.ensures.rows) in
    let marked = c.is_marked-marked.ensures ∙ ap (λ (m : List _). get_or m k false) c.as_slice.ensures.value in
    let same = subst (λ (g : Graph). IsLeastOn c.is_marked-marked.result g k c.as_slice-instances.result.now c.loop-number.least c.in_ok-least.least)
    c.as_slice-in-loop-number.ensures.value c.in_ok-least.ensures in
    let is = subst (λ (is : List Instance). IsLeastOn c.is_marked-marked.result back k is c.loop-number.least c.in_ok-least.least)
    c.as_slice-instances.ensures same in
    one_more blocks c.args.top k marks back c.loop-number.least c.in_ok-least.least c.is_marked-marked.result c.index-blocks-number.result
    reached turned marked (get_or_read blocks k c.index-blocks-number.result c.loop-number-test.true c.index-blocks-number.is no_block) is
    c.loop-number.invariant

pub returns : goal.returns
returns c = all_below c.args.blocks.now c.args.top c.loop-number.number c.loop-number.least c.loop-number-test.false c.loop-number.invariant

pub least_on-requires-clause-number : goal.least_on-requires-clause-number
least_on-requires-clause-number c =
    let a = graph_length c.args.blocks.now in
    let b : length c.args.graph.now ≡ length (graph_of c.args.blocks.now) = ap (λ (g : Graph). length g) c.requires.graph in
    let d : length c.as_slice-in-loop-number.result.now ≡ length c.in_ok-back.back.items =
    ap (λ (g : Graph). length g) c.as_slice-in-loop-number.ensures.value in
    let e = c.in_ok-back.ensures.length in
    let t = c.loop-number-test.true in
    omega arith
