use Rattle.sim_text_grammar.specs.Units.{selected_names}
use Rattle.sim_text_grammar.proofs.Parts.{halves}
use Rattle.std.proofs.Common.{arith}
use Rattle.std.proofs.lemmas.Grind.{common_steps}
use Rattle.sim_text_grammar.proofs.OneItemATurn.{one_after, none_after}
use Rattle.sim_text_reader.proofs.units.selected_names.Goals as goal

pub returns-then-not-sees : goal.returns-then-not-sees
returns-then-not-sees c = let e = one_after c.loop-turn.invariant c.loop-turn-test.true in grind (arith, common_steps)

pub returns-in_err-add : goal.returns-in_err-add
returns-in_err-add c = let e = one_after c.loop-turn.invariant c.loop-turn-test.true in grind (arith, common_steps)

pub loop-turn-preserved : goal.loop-turn-preserved
loop-turn-preserved c = let e = one_after c.loop-turn.invariant c.loop-turn-test.true in grind (arith, common_steps)

pub returns : goal.returns
returns c = let e = none_after c.loop-turn.invariant c.loop-turn-test.false in grind (arith, common_steps)

pub selected-first-requires : goal.selected-first-requires
unfolding selected_names
selected-first-requires c = grind (arith, common_steps, halves)

pub left-turn-end-requires : goal.left-turn-end-requires
unfolding selected_names
left-turn-end-requires c = grind (arith, common_steps, halves)

pub sees-requires : goal.sees-requires
unfolding selected_names
sees-requires c = grind (arith, common_steps, halves)

pub take-requires : goal.take-requires
unfolding selected_names
take-requires c = grind (arith, common_steps, halves)

pub selected-next-requires : goal.selected-next-requires
unfolding selected_names
selected-next-requires c = grind (arith, common_steps, halves)
