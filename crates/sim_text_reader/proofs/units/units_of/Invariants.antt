use Rattle.sim_text_grammar.proofs.OneItemATurn.{AsManyAsCome}
use Rattle.sim_text_grammar.specs.Units.{units_of, unit, goes_on}
use Rattle.sim_text_reader.proofs.units.units_of.Given as goal

abbrev pub invariant-loop-turn : goal.invariant-loop-turn
invariant-loop-turn l = AsManyAsCome (units_of l.fn.tokens) goes_on unit l._turn-end l._turn l.found l.tokens
