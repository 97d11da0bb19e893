use Rattle.std.proofs.Common.{arith, true, ◌∙◌, ap, length}
use Rattle.std.proofs.lemmas.List.{length-set}
use Rattle.sim_store_share.proofs.Taken.{filled-more}
use Rattle.sim_store_share.proofs.pending_times.fill.Goals as goal

pub insert-requires : goal.insert-requires
insert-requires c = omega (arith, c.loop-number-test.true, c.len-number-end.ensures, c.loop-number.invariant.sized)

pub loop-number-preserved : goal.loop-number-preserved
loop-number-preserved c = record {
  sized = ap length c.insert.ensures ∙ (length-set c.loop-number.set c.loop-number.number true ∙ c.loop-number.invariant.sized);
  below = filled-more c.loop-number.set c.insert.new.self c.loop-number.number
      (omega (arith, c.loop-number-test.true, c.len-number-end.ensures, c.loop-number.invariant.sized)) c.insert.ensures c.loop-number.invariant.below;
}

pub returns : goal.returns
returns c = record {
  sized = c.loop-number.invariant.sized;
  all = λ d lt. c.loop-number.invariant.below d (omega (arith, lt, c.len-number-end.ensures, c.loop-number-test.false));
}
