use Rattle.std.proofs.Common.{arith}
use Rattle.sim_run_listing.proofs.Copies.{in_window}
use Rattle.sim_run_listing.proofs.copying.copy_to.Goals as goal

pub returns-then-not-is_empty : goal.returns-then-not-is_empty
returns-then-not-is_empty c = in_window c.args.start _ c.args.to.now _ _ (omega arith) c.copy_few.ensures

pub returns-then-from-le8 : goal.returns-then-from-le8
returns-then-from-le8 c = in_window c.args.start _ c.args.to.now _ _ (omega arith) c.copy_ends.ensures

pub returns-then-from-le-WINDOW : goal.returns-then-from-le-WINDOW
returns-then-from-le-WINDOW c = in_window c.args.start _ c.args.to.now _ _ (omega arith) c.copy_ends-then-from-le-WINDOW.ensures
