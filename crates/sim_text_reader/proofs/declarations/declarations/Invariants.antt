use Rattle.sim_text_grammar.proofs.OneItemATurn.{AsManyAsCome}
use Rattle.sim_text_grammar.specs.Declarations.{declarations, declaration, begins_declaration}
use Rattle.sim_text_reader.proofs.declarations.declarations.Given as goal

abbrev pub invariant-loop-turn : goal.invariant-loop-turn
invariant-loop-turn l = AsManyAsCome (declarations l.fn.tokens) begins_declaration declaration l._turn-end l._turn l.found.items l.tokens
