use Rattle.std.proofs.Common.{◌≡◌, ℕ, List, ◌++◌, ◌∙◌, ap, take, take-append-drop, rules}
use Rattle.sim_run_listing.proofs.Gathering.{put_stops, put_goes_on, on_err}
use Rattle.sim_run_listing.proofs.block.put.Goals as goal

pub returns-in_err-make_room-clause-part : goal.returns-in_err-make_room-clause-part
returns-in_err-make_room-clause-part g c =
    on_err _ _ (put_stops (g.W.Write.contents c.args.out.now) (g.W.Write.contents c.loop-rest.out) (g.W.Write.contents c.make_room.new.out)
    c.args.block.now c.loop-rest.block c.args.bytes.now c.loop-rest.rest.now c.loop-rest.invariant c.in_err-make_room.ensures.part)

pub loop-rest-preserved : goal.loop-rest-preserved
loop-rest-preserved g c =
    let cut : c.split_at.result.0.now ++ c.split_at.result.1.now ≡ c.loop-rest.rest.now =
    ap (λ (l : List ℕ). l ++ c.split_at.result.1.now) c.split_at.ensures.front ∙
    (ap (λ (l : List ℕ). take c.min.result c.loop-rest.rest.now ++ l) c.split_at.ensures.back ∙ take-append-drop c.min.result
    c.loop-rest.rest.now) in
    let grown : c.extend.new.self ≡ c.make_room.new.block ++ c.split_at.result.0.now = search rules in
    put_goes_on (g.W.Write.contents c.args.out.now) (g.W.Write.contents c.loop-rest.out) (g.W.Write.contents c.make_room.new.out)
    c.args.block.now c.loop-rest.block c.make_room.new.block c.args.bytes.now c.loop-rest.rest.now c.split_at.result.0.now
    c.split_at.result.1.now _ c.loop-rest.invariant c.in_ok-make_room.ensures.ok grown cut
