use Rattle.std.proofs.Common.{◌≡◌, List, false, subst, sym, ap, length, map, ◌∙◌}
use Rattle.std.proofs.lemmas.List.{length-map, length-replicate}
use Rattle.sim_logic.specs.declared.logic.Logic.{Logic}
use Rattle.sim_standard.specs.State.{Owned}
use Rattle.sim_store_nets.specs.Nets.{row_from, sources_of}
use Rattle.sim_store_state.specs.FlatState.{IsConsistent, held}
use Rattle.sim_store_state.proofs.Starting.{first-held, first-kept}
use Rattle.sim_store_state.proofs.flat_state.FlatState.first.Goals as goal

pub invariant_of-result : goal.invariant_of-result
invariant_of-result c =
    let e = c.in_ok-values.ensures in
    let values = c.in_ok-values.values in
    let lists = c.in_ok-values.lists in
    let nets = sources_of c.args.design.now.nets in
    let present : values.present ≡ map (row_from lists.driving) nets =
    e.values ∙ ap (λ (w : List Logic). map (row_from w) nets) (sym e.driving) in
    subst (λ (shares : List (List Owned)). IsConsistent values shares lists) (sym c.in_ok-shares.ensures.items)
    (first-kept c.args.design.now values c.in_ok-share.field-0.share lists e.sources (e.driving ∙ c.in_ok-share.ensures.driving) present e.before
    (ap length e.touched ∙ (length-replicate (length lists.sources) false ∙ (ap length e.sources
    ∙ (sym (length-map nets (row_from lists.driving)) ∙ sym (ap length present))))))

pub returns : goal.returns
returns c =
    let e = c.in_ok-values.ensures in
    let values = c.in_ok-values.values in
    let lists = c.in_ok-values.lists in
    let nets = sources_of c.args.design.now.nets in
    let present : values.present ≡ map (row_from lists.driving) nets =
    e.values ∙ ap (λ (w : List Logic). map (row_from w) nets) (sym e.driving) in
    ap (λ (shares : List (List Owned)). held values shares lists) c.in_ok-shares.ensures.items
    ∙ first-held c.args.design.now values c.in_ok-share.field-0.share lists e.sources c.in_ok-share.ensures.owned
    (e.driving ∙ c.in_ok-share.ensures.driving) present e.before
