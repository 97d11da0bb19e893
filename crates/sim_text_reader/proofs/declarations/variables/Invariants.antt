use Rattle.sim_text_tokens.specs.declared.kind.Kind.TheVariants as k
use Rattle.sim_text_grammar.proofs.OneItemATurn.{AfterEach}
use Rattle.sim_text_grammar.specs.Declarations.{variables, object}
use Rattle.sim_text_reader.proofs.declarations.variables.Given as goal

abbrev pub invariant-loop-turn : goal.invariant-loop-turn
invariant-loop-turn l = AfterEach (variables l.fn.tokens) k.Variable object l._turn-end l._turn l.found.items l.tokens
