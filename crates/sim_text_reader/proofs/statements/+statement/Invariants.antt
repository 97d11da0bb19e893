use Rattle.std.proofs.Common.{◌+◌, ◌*◌}
use Rattle.sim_text_tokens.specs.declared.kind.Kind.TheVariants as k
use Rattle.sim_text_grammar.proofs.OneItemATurn.{AsManyAsCome, AfterEach}
use Rattle.sim_text_grammar.specs.Statements.{if_statement, sequence, statement, begins_statement, branches, branch}
use Rattle.sim_text_reader.proofs.statements.+statement.Given as goal

abbrev pub decreases-if_statement : goal.decreases-if_statement
decreases-if_statement l = 9 * l.depth

abbrev pub decreases-labelled : goal.decreases-labelled
decreases-labelled l = 9 * l.depth + 1

abbrev pub decreases-named : goal.decreases-named
decreases-named l = 9 * l.depth + 2

abbrev pub decreases-statement : goal.decreases-statement
decreases-statement l = 9 * l.depth + 3

abbrev pub decreases-sequence : goal.decreases-sequence
decreases-sequence l = 9 * l.depth + 4

abbrev pub decreases-branch : goal.decreases-branch
decreases-branch l = 9 * l.depth + 5

abbrev pub decreases-otherwise : goal.decreases-otherwise
decreases-otherwise l = 9 * l.depth + 5

abbrev pub decreases-branches : goal.decreases-branches
decreases-branches l = 9 * l.depth + 7

abbrev pub invariant-sequence-loop-turn : goal.invariant-sequence-loop-turn
invariant-sequence-loop-turn l = AsManyAsCome (sequence (if_statement l.depth) l.fn.tokens) begins_statement (statement (if_statement l.depth))
    l._turn-end l._turn l.found.items l.tokens

abbrev pub invariant-branches-loop-turn : goal.invariant-branches-loop-turn
invariant-branches-loop-turn l = AfterEach (branches (if_statement l.depth) l.fn.tokens) k.Elsif (branch (if_statement l.depth)) l._turn-end l._turn
    l.found.items l.tokens
