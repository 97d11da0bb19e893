use Rattle.std.proofs.Common.{◌-◌, ◌≡◌, length}
use Rattle.sim_store_share.specs.InTurn.{AreKept, IsTurn}
use Rattle.sim_store_share.proofs.share.Share.execute.Given as goal

abbrev pub decreases-loop-place : goal.decreases-loop-place
decreases-loop-place l = length l.numbers - l.place

-- those so far have been executed
abbrev pub invariant-loop-place : goal.invariant-loop-place
invariant-loop-place l = record {
  frame : l.frame ≡ l.initial.frame;
  turn : IsTurn l.reading l.numbers l.initial.self l.self l.place;
  kept : AreKept l.reading l.numbers l.initial.self l.self;
}
