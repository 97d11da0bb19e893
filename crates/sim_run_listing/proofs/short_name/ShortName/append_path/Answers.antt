use Rattle.std.proofs.Common.{◌≡◌, ◌+◌, List, ℕ, take, sym, subst, rules}
use Rattle.std.specs.List.{concat}
use Rattle.std.specs.Prelude.{Option}
use Rattle.sim_run_listing.specs.ShortNames.{IsAtMost, extended}
use Rattle.sim_run_listing.proofs.ShortNames.{one_of_path}
use Rattle.sim_run_listing.proofs.short_name.ShortName.append_path.Goals as goal

pub loop-piece-preserved : goal.loop-piece-preserved
loop-piece-preserved c =
    let grown : c.append.new.self ≡ extended c.loop-piece.self c.piece-item.result = search rules in
    subst (λ (o : Option (List ℕ)). IsAtMost o (concat (take (c.loop-piece.piece-index + 1) c.args.path.now))) (sym grown)
    (one_of_path c.loop-piece.self c.args.path.now c.loop-piece.piece-index c.piece-item.result c.piece-item.is c.loop-piece-test.true
    c.loop-piece.invariant)
