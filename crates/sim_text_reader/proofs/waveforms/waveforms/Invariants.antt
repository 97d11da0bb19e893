use Rattle.sim_text_tree.proofs.Turns.{IsLeft}
use Rattle.sim_text_grammar.specs.Waveforms.{waveforms, alternatives_from}
use Rattle.sim_text_reader.proofs.waveforms.waveforms.Given as goal

abbrev pub invariant-loop-turn : goal.invariant-loop-turn
invariant-loop-turn l = IsLeft (waveforms l.fn.tokens) (λ n. alternatives_from n l.conditional.items l.tokens) l._turn-end l._turn
