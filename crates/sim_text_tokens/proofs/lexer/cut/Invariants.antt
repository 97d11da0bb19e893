use Rattle.std.proofs.Common.{length}
use Rattle.sim_text_tokens.specs.Lexemes.{tokens_at}
use Rattle.sim_text_tokens.proofs.Cuts.{SoFar}
use Rattle.sim_text_tokens.proofs.lexer.cut.Given as goal

abbrev pub invariant-loop-text : goal.invariant-loop-text
invariant-loop-text l = SoFar l.fn.source (tokens_at l.fn.source l.lexemes.items) l.after_name l.at l.text

abbrev pub decreases-loop-text : goal.decreases-loop-text
decreases-loop-text l = length l.text
