use Rattle.sim_text_tokens.specs.declared.kind.Kind.TheVariants as k
use Rattle.sim_text_grammar.proofs.OneItemATurn.{AfterEach}
use Rattle.sim_text_grammar.specs.Waveforms.{waveform, element}
use Rattle.sim_text_reader.proofs.waveforms.waveform.Given as goal

abbrev pub invariant-loop-turn : goal.invariant-loop-turn
invariant-loop-turn l = AfterEach (waveform l.fn.tokens) k.Comma element l._turn-end l._turn l.found l.tokens
