use Rattle.std.proofs.Common.{rules}
use Rattle.sim_text_grammar.specs.Readers.{left}
use Rattle.sim_text_grammar.specs.Units.{suffixes_from}
use Rattle.sim_text_tree.proofs.Turns.{one_more, no_more}
use Rattle.sim_text_reader.proofs.units.suffixes.Goals as goal

pub returns-in_err-expect : goal.returns-in_err-expect
unfolding suffixes_from left
returns-in_err-expect c = let e = one_more c.loop-turn.invariant c.loop-turn-test.true in search rules

pub returns-then-eat : goal.returns-then-eat
unfolding suffixes_from left
returns-then-eat c = let e = one_more c.loop-turn.invariant c.loop-turn-test.true in search rules

pub returns-in_err-push : goal.returns-in_err-push
unfolding suffixes_from left
returns-in_err-push c = let e = one_more c.loop-turn.invariant c.loop-turn-test.true in search rules

pub returns-then-not-sees : goal.returns-then-not-sees
unfolding suffixes_from left
returns-then-not-sees c = let e = one_more c.loop-turn.invariant c.loop-turn-test.true in search rules

pub loop-turn-preserved : goal.loop-turn-preserved
unfolding suffixes_from left
loop-turn-preserved c = let e = one_more c.loop-turn.invariant c.loop-turn-test.true in search rules

pub returns : goal.returns
unfolding suffixes_from left
returns c = let e = no_more c.loop-turn.invariant c.loop-turn-test.false in search rules
