use Rattle.sim_text_grammar.proofs.OneItemATurn.{AsManyAsCome}
use Rattle.sim_text_grammar.specs.Concurrents.{concurrents, begins_concurrent, concurrent}
use Rattle.sim_text_reader.proofs.concurrents.concurrents.Given as goal

abbrev pub invariant-loop-turn : goal.invariant-loop-turn
invariant-loop-turn l = AsManyAsCome (concurrents l.fn.tokens) begins_concurrent concurrent l._turn-end l._turn l.found.items l.tokens
