use Rattle.std.proofs.Common.{◌≡◌, length, ap, sym, ◌∙◌, subst, arith}
use Rattle.sim_flat_graph.specs.Graph.{Graph, IsWhole}
use Rattle.sim_flat_graph.proofs.Endless.{graph_length, graph_whole, none_recursive}
use Rattle.sim_flat_graph.proofs.recursion.first_recursive.Goals as goal

pub returns-then-not-branch : goal.returns-then-not-branch
returns-then-not-branch c = none_recursive c.args.blocks.now c.args.top 33 (sym c.in_ok-is_too_deep.ensures ∙ c.if-not-branch.true)

pub least_recursive-requires-clause-whole : goal.least_recursive-requires-clause-whole
least_recursive-requires-clause-whole c =
    subst IsWhole (sym (c.as_slice.ensures ∙ c.in_ok-graph.ensures)) (graph_whole c.args.blocks.now c.requires.known)

pub least_recursive-requires-clause-top : goal.least_recursive-requires-clause-top
least_recursive-requires-clause-top c =
    let e : length c.as_slice.result.now ≡ length c.args.blocks.now =
    ap (λ (g : Graph). length g) (c.as_slice.ensures ∙ c.in_ok-graph.ensures) ∙ graph_length c.args.blocks.now in
    let t = c.requires.top in
    omega arith
