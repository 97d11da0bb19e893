use Rattle.std.proofs.Common.{arith}
use Rattle.std.proofs.lemmas.Grind.{common_steps}
use Rattle.std.proofs.Common.{rules, tests, ◌≢◌}
use Rattle.sim_flat_design.proofs.Joined.{head_is}
use Rattle.sim_flat_design.proofs.pieces.after.Goals as goal

pub returns-then-ne : goal.returns-then-ne
returns-then-ne c =
    let differ : c.args.front.now ≢ c.split_at.result.0.now = search (rules, tests) in
    λ rest e. differ (head_is c.args.front.now c.args.text.now c.split_at.result.0.now c.split_at.result.1.now
    c.split_at.ensures.front c.split_at.ensures.back rest e)

pub returns-then-text-front : goal.returns-then-text-front
returns-then-text-front c = grind (arith, common_steps)
