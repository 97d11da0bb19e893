use Rattle.std.proofs.Common.{rules}
use Rattle.sim_text_grammar.specs.Readers.{left}
use Rattle.sim_text_grammar.specs.Concurrents.{associations_from}
use Rattle.sim_text_tree.proofs.Turns.{one_more, no_more}
use Rattle.sim_text_reader.proofs.concurrents.associations.Goals as goal

pub returns-in_err-association : goal.returns-in_err-association
unfolding associations_from left
returns-in_err-association c = let e = one_more c.loop-turn.invariant c.loop-turn-test.true in search rules

pub returns-then-not-eat : goal.returns-then-not-eat
unfolding associations_from left
returns-then-not-eat c = let e = one_more c.loop-turn.invariant c.loop-turn-test.true in search rules

pub loop-turn-preserved : goal.loop-turn-preserved
unfolding associations_from left
loop-turn-preserved c = let e = one_more c.loop-turn.invariant c.loop-turn-test.true in search rules

pub returns : goal.returns
unfolding associations_from left
returns c = let e = no_more c.loop-turn.invariant c.loop-turn-test.false in search rules
