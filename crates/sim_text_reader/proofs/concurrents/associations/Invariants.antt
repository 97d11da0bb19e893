use Rattle.sim_text_tree.proofs.Turns.{IsLeft}
use Rattle.sim_text_grammar.specs.Concurrents.{associations, associations_from}
use Rattle.sim_text_reader.proofs.concurrents.associations.Given as goal

abbrev pub invariant-loop-turn : goal.invariant-loop-turn
invariant-loop-turn l = IsLeft (associations l.fn.tokens) (λ n. associations_from n l.named l.found.items l.tokens) l._turn-end l._turn
