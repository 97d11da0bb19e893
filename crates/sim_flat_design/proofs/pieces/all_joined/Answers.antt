use Rattle.std.proofs.Common.{arith}
use Rattle.std.proofs.lemmas.Grind.{common_steps}
use Rattle.std.proofs.Common.{rules, ◌≡◌, ◌++◌}
use Rattle.std.specs.Prelude.{string_bytes}
use Rattle.sim_flat_design.proofs.Joined.{next_piece}
use Rattle.sim_flat_design.proofs.pieces.all_joined.Goals as goal

pub loop-piece-preserved : goal.loop-piece-preserved
loop-piece-preserved c =
    let same : string_bytes c.push_str.new.self ≡ string_bytes c.loop-piece.whole ++ c.piece-item.result = search rules in
    next_piece c.args.pieces.now c.loop-piece.piece-index c.piece-item.result (string_bytes c.loop-piece.whole) (string_bytes c.push_str.new.self)
    c.loop-piece-test.true c.piece-item.is c.loop-piece.invariant same

pub returns : goal.returns
returns c = grind (arith, common_steps)
