use Rattle.std.proofs.Common.{arith}
use Rattle.std.proofs.lemmas.Grind.{common_steps}
use Rattle.std.proofs.Common.{rules}
use Rattle.sim_text_grammar.proofs.OneItemATurn.{one_after, none_after}
use Rattle.sim_text_reader.proofs.declarations.names.Goals as goal
use Rattle.sim_text_grammar.proofs.Parts.{halves}
use Rattle.sim_text_grammar.specs.Declarations.{names}

pub returns-then-not-sees : goal.returns-then-not-sees
returns-then-not-sees c = let e = one_after c.loop-turn.invariant c.loop-turn-test.true in search rules

pub returns-in_err-add : goal.returns-in_err-add
returns-in_err-add c = let e = one_after c.loop-turn.invariant c.loop-turn-test.true in search rules

pub loop-turn-preserved : goal.loop-turn-preserved
loop-turn-preserved c = let e = one_after c.loop-turn.invariant c.loop-turn-test.true in search rules

pub returns : goal.returns
returns c = let e = none_after c.loop-turn.invariant c.loop-turn-test.false in search rules

pub returns-in_err-found : goal.returns-in_err-found
unfolding names
returns-in_err-found c = grind (arith, common_steps, halves)

pub loop-turn-init : goal.loop-turn-init
unfolding names
loop-turn-init c = grind (arith, common_steps, halves)
