use Rattle.std.proofs.Common.{take}
use Rattle.std.specs.List.{concat}
use Rattle.sim_run_listing.specs.ShortNames.{IsAtMost}
use Rattle.sim_run_listing.proofs.short_name.ShortName.append_path.Given as goal

abbrev pub invariant-loop-piece : goal.invariant-loop-piece
invariant-loop-piece l = IsAtMost l.self (concat (take l.piece-index l.path))
