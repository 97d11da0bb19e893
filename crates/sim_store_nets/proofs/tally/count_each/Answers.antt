use Rattle.std.proofs.Common.{◌+◌, get_or, length, ap, sym, ◌∙◌, arith}
use Rattle.std.proofs.lemmas.List.{length-set}
use Rattle.std.proofs.lemmas.Grind.{common_steps}
use Rattle.sim_logic.specs.declared.logic.Logic.TheVariants.{U}
use Rattle.sim_logic.specs.Tables.{column_of}
use Rattle.sim_store_nets.specs.Tallies.{count_at}
use Rattle.sim_store_nets.proofs.Counts.{count-raised, one, times-more, times-taken}
use Rattle.sim_store_nets.proofs.tally.count_each.Goals as goal

pub raise-requires-clause-few : goal.raise-requires-clause-few
raise-requires-clause-few c =
    let i = c.loop-value.value-index in
    let x = get_or c.args.values.now i U in
    omega (arith, c.loop-value.invariant.counted x, times-taken x c.args.values.now i, c.loop-value-test.true, c.requires.few)

pub loop-value-preserved : goal.loop-value-preserved
loop-value-preserved c =
    let i = c.loop-value.value-index in
    let x = get_or c.args.values.now i U in
    let counts = c.loop-value.counts in
    let before = c.loop-value.invariant in
    record {
      sized = ap length c.raise.ensures ∙ (length-set counts (column_of x) (count_at counts x + 1) ∙ before.sized);
      counted = λ v.
          ap (λ w. count_at w v) c.raise.ensures
          ∙ (count-raised counts x v before.sized
          ∙ (ap (λ k. k + one x v) (before.counted v) ∙ sym (times-more v c.args.values.now i c.loop-value-test.true)));
    }

pub returns-clause-counted : goal.returns-clause-counted
returns-clause-counted c = grind (arith, common_steps)
