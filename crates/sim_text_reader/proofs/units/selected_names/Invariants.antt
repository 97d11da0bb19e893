use Rattle.sim_text_tokens.specs.declared.kind.Kind.TheVariants as k
use Rattle.sim_text_grammar.proofs.OneItemATurn.{AfterEach}
use Rattle.sim_text_grammar.specs.Units.{selected_names, selected}
use Rattle.sim_text_reader.proofs.units.selected_names.Given as goal

abbrev pub invariant-loop-turn : goal.invariant-loop-turn
invariant-loop-turn l = AfterEach (selected_names l.fn.tokens) k.Comma selected l._turn-end l._turn l.found l.tokens
