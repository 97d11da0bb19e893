use Rattle.sim_text_tree.proofs.Turns.{IsLeft}
use Rattle.sim_text_grammar.specs.Units.{suffixes, suffixes_from}
use Rattle.sim_text_reader.proofs.units.suffixes.Given as goal

abbrev pub invariant-loop-turn : goal.invariant-loop-turn
invariant-loop-turn l = IsLeft (suffixes l.fn.tokens) (λ n. suffixes_from n l.found.items l.tokens) l._turn-end l._turn
