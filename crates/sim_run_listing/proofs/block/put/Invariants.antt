use Rattle.std.proofs.Common.{◌≡◌, ℕ, List, ◌++◌, length}
use Rattle.sim_run_listing.specs.Writing.{Gathers}
use Rattle.sim_run_listing.proofs.block.put.Given as goal

abbrev pub invariant-loop-rest : goal.invariant-loop-rest
invariant-loop-rest g l = (done : List ℕ) × (done ++ l.rest ≡ l.bytes) × Gathers (g.W.Write.contents l.initial.out) l.initial.block
    (g.W.Write.contents l.out) l.block done

abbrev pub decreases-loop-rest : goal.decreases-loop-rest
decreases-loop-rest g l = length l.rest
