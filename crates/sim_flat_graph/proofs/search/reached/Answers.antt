use Rattle.std.proofs.Common.{◌≡◌, ◌↔◌, length, get_or, true, false, ap, sym, ◌∙◌, subst, arith}
use Rattle.sim_flat_graph.specs.Graph.{Reaches}
use Rattle.sim_flat_graph.specs.Search.{Found, searched}
use Rattle.sim_flat_graph.proofs.Searches.{marks_reached}
use Rattle.sim_flat_graph.proofs.search.reached.Goals as goal

pub returns-clause-marks : goal.returns-clause-marks
returns-clause-marks c = λ n.
    let g = c.args.graph.now in
    let e : c.loop-at.at ≡ length g = omega arith in
    let f : c.loop-at.search ≡ searched g c.args.from (length g) = c.loop-at.invariant.1 ∙ ap (searched g c.args.from) e in
    subst (λ (f : Found). (get_or f.marks n false ≡ true) ↔ Reaches g n c.args.from) (sym (c.search-2.view_is ∙ f))
    (marks_reached g c.args.from n c.requires.whole c.requires.from)
