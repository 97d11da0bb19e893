use Rattle.std.proofs.Common.{arith}
use Rattle.std.proofs.lemmas.Grind.{common_steps}
use Rattle.std.proofs.Common.{rules}
use Rattle.sim_text_grammar.proofs.OneItemATurn.{one_after, none_after}
use Rattle.sim_text_reader.proofs.declarations.port_list.Goals as goal
use Rattle.sim_text_grammar.proofs.Parts.{halves}
use Rattle.sim_text_grammar.specs.Declarations.{port_list}

pub returns-then-not-sees : goal.returns-then-not-sees
returns-then-not-sees c = let e = one_after c.loop-turn.invariant c.loop-turn-test.true in search rules

pub returns-in_err-push-2 : goal.returns-in_err-push-2
returns-in_err-push-2 c = let e = one_after c.loop-turn.invariant c.loop-turn-test.true in search rules

pub loop-turn-preserved : goal.loop-turn-preserved
loop-turn-preserved c = let e = one_after c.loop-turn.invariant c.loop-turn-test.true in search rules

pub returns : goal.returns
returns c = let e = none_after c.loop-turn.invariant c.loop-turn-test.false in search rules

pub returns-in_err-push : goal.returns-in_err-push
unfolding port_list
returns-in_err-push c = grind (arith, common_steps, halves)

pub loop-turn-init : goal.loop-turn-init
unfolding port_list
loop-turn-init c = grind (arith, common_steps, halves)
