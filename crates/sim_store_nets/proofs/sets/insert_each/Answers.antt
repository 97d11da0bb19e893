use Rattle.std.proofs.Common.{refl, arith, ◌∙◌}
use Rattle.std.proofs.lemmas.Grind.{common_steps}
use Rattle.sim_containers.specs.Numbers.{is_in}
use Rattle.sim_store_nets.proofs.Booleans.{resumed-more}
use Rattle.sim_store_nets.proofs.sets.insert_each.Goals as goal

pub loop-number-preserved : goal.loop-number-preserved
loop-number-preserved c = record {
  sized = c.insert_below.ensures.sized ∙ c.loop-number.invariant.sized;
  members = λ n lt. resumed-more c.args.numbers.now c.loop-number.number-index n _ (is_in c.args.set.now n) _ _ c.loop-number-test.true refl
      (c.loop-number.invariant.members n lt) (c.insert_below.ensures.members n (omega (arith, lt, c.loop-number.invariant.sized)));
}

pub returns-clause-members : goal.returns-clause-members
returns-clause-members c = grind (arith, common_steps)
