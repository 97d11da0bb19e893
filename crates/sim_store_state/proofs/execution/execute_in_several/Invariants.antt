use Rattle.std.proofs.Common.{List, length, ◌-◌, ℕ, ◌≡◌}
use Rattle.sim_standard.specs.State.{Owned}
use Rattle.sim_containers.specs.RowArray.{joined}
use Rattle.sim_store_share.specs.InTurn.{IsTurn}
use Rattle.sim_store_share.specs.declared.reading.Reading.{Reading}
use Rattle.sim_store_state.specs.InTurn.{AreKeptIn}
use Rattle.sim_store_state.proofs.execution.execute_in_several.Given as goal

pub record AreDone (r : Reading) (numbers : List ℕ) (old new : List (List Owned)) (place frame was : ℕ) : Type 0 where
  pub turn : IsTurn r numbers (joined old) (joined new) place
  pub kept : AreKeptIn r numbers old new
  pub frame_is : frame ≡ was

abbrev pub invariant-loop-place : goal.invariant-loop-place
invariant-loop-place l = AreDone l.reading l.numbers l.initial.shares l.shares l.place l.frame l.initial.frame

abbrev pub decreases-loop-place : goal.decreases-loop-place
decreases-loop-place l = length l.numbers - l.place
