use Rattle.std.proofs.Common.{◌≡◌, ◌++◌, drop}
use Rattle.sim_text_tokens.specs.Lexemes.{tokens_at}
use Rattle.sim_text_tokens.proofs.lexer.with_texts.Given as goal

abbrev pub invariant-loop-lexeme : goal.invariant-loop-lexeme
invariant-loop-lexeme l = l.tokens.items ++ tokens_at l.fn.source (drop l.lexeme-index l.lexemes) ≡ tokens_at l.fn.source l.fn.lexemes
