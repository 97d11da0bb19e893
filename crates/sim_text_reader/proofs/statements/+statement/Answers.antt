use Rattle.std.proofs.Common.{arith}
use Rattle.std.proofs.lemmas.Grind.{common_steps}
use Rattle.sim_text_tree.proofs.Turns.{deeper}
use Rattle.sim_text_grammar.proofs.OneItemATurn.{one_more, no_more, one_after, none_after}
use Rattle.sim_text_grammar.specs.Statements.{if_statement}
use Rattle.sim_text_reader.proofs.statements.+statement.Goals as goal
use Rattle.sim_text_grammar.proofs.Parts.{halves}
use Rattle.sim_text_grammar.specs.Statements.{branches}

pub sequence-returns-then-not-begins_statement : goal.sequence-returns-then-not-begins_statement
sequence-returns-then-not-begins_statement t c = let e = one_more c.loop-turn.invariant c.loop-turn-test.true in grind (arith, common_steps)

pub sequence-returns-in_err-push : goal.sequence-returns-in_err-push
sequence-returns-in_err-push t c = let e = one_more c.loop-turn.invariant c.loop-turn-test.true in grind (arith, common_steps)

pub sequence-loop-turn-preserved : goal.sequence-loop-turn-preserved
sequence-loop-turn-preserved t c = let e = one_more c.loop-turn.invariant c.loop-turn-test.true in grind (arith, common_steps)

pub sequence-returns : goal.sequence-returns
sequence-returns t c = let e = no_more c.loop-turn.invariant c.loop-turn-test.false in grind (arith, common_steps)

pub branches-returns-then-not-sees : goal.branches-returns-then-not-sees
branches-returns-then-not-sees t c = let e = one_after c.loop-turn.invariant c.loop-turn-test.true in grind (arith, common_steps)

pub branches-returns-in_err-push-2 : goal.branches-returns-in_err-push-2
branches-returns-in_err-push-2 t c = let e = one_after c.loop-turn.invariant c.loop-turn-test.true in grind (arith, common_steps)

pub branches-loop-turn-preserved : goal.branches-loop-turn-preserved
branches-loop-turn-preserved t c = let e = one_after c.loop-turn.invariant c.loop-turn-test.true in grind (arith, common_steps)

pub branches-returns : goal.branches-returns
branches-returns t c = let e = none_after c.loop-turn.invariant c.loop-turn-test.false in grind (arith, common_steps)

pub if_statement-returns-in_err-branches : goal.if_statement-returns-in_err-branches
unfolding if_statement
if_statement-returns-in_err-branches t c =
    let e = deeper (λ n. if_statement n c.args.label.now c.args.tokens.now) c.args.depth (omega arith) in
    grind (arith, common_steps)

pub if_statement-returns-in_err-otherwise : goal.if_statement-returns-in_err-otherwise
unfolding if_statement
if_statement-returns-in_err-otherwise t c =
    let e = deeper (λ n. if_statement n c.args.label.now c.args.tokens.now) c.args.depth (omega arith) in
    grind (arith, common_steps)

pub if_statement-returns : goal.if_statement-returns
unfolding if_statement
if_statement-returns t c =
    let e = deeper (λ n. if_statement n c.args.label.now c.args.tokens.now) c.args.depth (omega arith) in
    grind (arith, common_steps)

pub branches-returns-in_err-push : goal.branches-returns-in_err-push
unfolding branches
branches-returns-in_err-push t c = grind (arith, halves)

pub branches-loop-turn-init : goal.branches-loop-turn-init
unfolding branches
branches-loop-turn-init t c = grind (arith, halves)
