use Rattle.std.proofs.Common.{rules}
use Rattle.sim_text_grammar.proofs.OneItemATurn.{one_more, no_more}
use Rattle.sim_text_reader.proofs.declarations.declarations.Goals as goal

pub returns-then-not-begins_declaration : goal.returns-then-not-begins_declaration
returns-then-not-begins_declaration c = let e = one_more c.loop-turn.invariant c.loop-turn-test.true in search rules

pub returns-in_err-push : goal.returns-in_err-push
returns-in_err-push c = let e = one_more c.loop-turn.invariant c.loop-turn-test.true in search rules

pub loop-turn-preserved : goal.loop-turn-preserved
loop-turn-preserved c = let e = one_more c.loop-turn.invariant c.loop-turn-test.true in search rules

pub returns : goal.returns
returns c = let e = no_more c.loop-turn.invariant c.loop-turn-test.false in search rules
