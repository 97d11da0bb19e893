use Rattle.std.proofs.Common.{rules, tests, ◌≡◌, List, map, sym, ap, ◌∙◌}
use Rattle.sim_standard.specs.declared.net_view.NetView.{NetView}
use Rattle.sim_standard.specs.State.{net_at, owned_at}
use Rattle.sim_store_nets.specs.Nets.{views_of}
use Rattle.sim_store_state.specs.FlatState.{FlatState}
use Rattle.sim_store_state.proofs.Parts.{part_differs, part_is}
use Rattle.sim_store_state.proofs.flat_state.FlatState.is_part.Goals as goal

pub returns-then-not-are_same : goal.returns-then-not-are_same
returns-then-not-are_same c =
    let own = rw c.as_slice.ensures.value at c.owned.ensures ∙ ap (λ (h : FlatState). owned_at h.owned c.args.number) c.self.view_is in
    part_differs _ c.args.drivers.now _ c.args.variables.now _ _ (sym own)
    (λ e. let yes = c.are_same.ensures.1 e in absurd (cc (yes, c.if-not-are_same.true)))

pub returns : goal.returns
returns c =
    let own = rw c.as_slice.ensures.value at c.owned.ensures ∙ ap (λ (h : FlatState). owned_at h.owned c.args.number) c.self.view_is in
    let seen = c.are_views.ensures.0 (search (rules, tests)) in
    let nets : views_of c.seen-seen.result.values.now c.seen-seen.result.values_before.now ≡ c.args.self.now.nets = search rules in
    part_is _ c.args.drivers.now _ c.args.variables.now _ _ (sym own) c.are_equal.result
    (seen ∙ ap (λ (ns : List NetView). map (net_at ns) c.args.reads.now) nets)
    (c.are_same.ensures.0 (search (rules, tests))) c.are_equal.ensures
