use Rattle.sim_text_tokens.specs.declared.kind.Kind.TheVariants as k
use Rattle.sim_text_grammar.proofs.OneItemATurn.{AfterEach}
use Rattle.sim_text_grammar.specs.Declarations.{port_list, port}
use Rattle.sim_text_reader.proofs.declarations.port_list.Given as goal

abbrev pub invariant-loop-turn : goal.invariant-loop-turn
invariant-loop-turn l = AfterEach (port_list l.fn.tokens) k.Semicolon port l._turn-end l._turn l.found.items l.tokens
