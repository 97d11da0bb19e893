use Rattle.std.proofs.Common.{ℕ, ◌≡◌, ◌<◌, length, arith}
use Rattle.std.proofs.lemmas.List.Elements.{All-more}
use Rattle.sim_exec_code.specs.Codes.{edge_at}
use Rattle.sim_exec_code.proofs.edges.count_alike.Goals as goal

pub loop-place-preserved : goal.loop-place-preserved
loop-place-preserved c = λ edges are.
    let place = c.loop-place.place in
    let lt : place < length c.args.numbers.now = omega (arith, c.loop-place-test.true) in
    All-more (λ (n : ℕ). edge_at edges n ≡ edge_at edges c.args.number) c.args.numbers.now place 0 lt (c.loop-place.invariant edges are)
    (c.is_alike.ensures c.if-not-is_alike.false edges are)
