use Rattle.sim_text_tokens.specs.declared.kind.Kind.TheVariants as k
use Rattle.sim_text_grammar.specs.Readers.{word}
use Rattle.sim_text_grammar.proofs.OneItemATurn.{AfterEach}
use Rattle.sim_text_grammar.specs.Declarations.{names}
use Rattle.sim_text_reader.proofs.declarations.names.Given as goal

abbrev pub invariant-loop-turn : goal.invariant-loop-turn
invariant-loop-turn l = AfterEach (names l.fn.tokens) k.Comma word l._turn-end l._turn l.found l.tokens
