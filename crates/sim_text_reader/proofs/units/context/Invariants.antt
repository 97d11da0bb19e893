use Rattle.sim_text_grammar.proofs.OneItemATurn.{AsManyAsCome}
use Rattle.sim_text_grammar.specs.Units.{context, begins_context, context_item}
use Rattle.sim_text_reader.proofs.units.context.Given as goal

abbrev pub invariant-loop-turn : goal.invariant-loop-turn
invariant-loop-turn l = AsManyAsCome (context l.fn.tokens) begins_context context_item l._turn-end l._turn l.found.items l.tokens
