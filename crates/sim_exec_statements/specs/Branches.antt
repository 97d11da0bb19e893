-- Which branch of an if statement is taken, as the loops over branches know it (IEEE 1076-2008, 10.8).
-- Implementation only: what `simulate` promises does not rest on this file.
use Rattle.std.specs.Prelude.{ℕ, List, [], ◌∷◌, Bool, true, false, ◌||◌}
use Rattle.sim_flat_design.specs.declared.statement.Branch.{Branch}
use Rattle.sim_standard.specs.declared.net_view.NetView.{NetView}
use Rattle.sim_standard.specs.State.{Owned}
use Rattle.sim_standard.specs.Statements.{branch_done, own_steps}

-- what the last statements leave, unless a branch is taken
abbrev pub unless : {S : Type 0} → Bool → (S → S) → S → S
unless true otherwise x = x
unless false otherwise x = otherwise x

module _ (look : ℕ → NetView) (now : ℕ) where
  -- whether the condition of one of these branches holds
  unfoldable pub one_holds : List Branch → Owned → Bool
  one_holds [] own = false
  one_holds (b ∷ bs) own = (branch_done (own_steps look now) b).holds own || one_holds bs own
