use Rattle.std.proofs.Common.{◌∙◌, ap}
use Rattle.sim_flat_design.specs.Designs.{Design}
use Rattle.sim_run_session.proofs.LinesMeanwhile.{listed_first, listed_in_part, listed_whole, names_of, names_stay}
use Rattle.sim_run_session.proofs.streaming.list_run.Goals as goal

pub end_listing-requires-clause-names : goal.end_listing-requires-clause-names
end_listing-requires-clause-names g c =
    let nets = c.nets.ensures.value ∙ ap (λ (d : Design). d.nets) c.design.ensures in
    names_stay c.args.run c.in-Ok.run' c.of-known.result c.in-Ok.ensures.same.0
    (names_of c.args.run c.nets.result.now c.of-known.result nets c.of-known.ensures)

pub returns-in-Ok : goal.returns-in-Ok
returns-in-Ok g c =
    let begin = g.W.Write.contents c.args.out.now in
    listed_whole c.args.run c.in-Ok.run' c.args.options.now begin (g.W.Write.contents c.end_listing.new.out) c.end_listing.result c.in-Ok.ensures.same.0
    (c.end_listing.ensures begin (c.in-Ok.ensures.listed begin (listed_first c.args.run c.requires.whole begin)))

pub returns : goal.returns
returns g c =
    listed_in_part c.args.run c.args.options.now c.requires.of c.requires.whole (g.W.Write.contents c.args.out.now)
    (g.W.Write.contents c.carry_and_list_by.new.out) c.in-Err.failed c.in-Err.ensures.err c.in-Err.ensures.stopped
