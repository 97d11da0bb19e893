use Rattle.std.proofs.Common.{sym, subst}
use Rattle.sim_text_tokens.specs.Token.{HasWord}
use Rattle.sim_text_tokens.specs.Lexemes.{Lexeme, token_at}
use Rattle.sim_text_tokens.proofs.Places.{word_at}
use Rattle.sim_text_tokens.proofs.lexer.with_texts.Goals as goal

pub to_token-requires : goal.to_token-requires
to_token-requires c =
    subst (λ (l : Lexeme). HasWord l.kind (token_at c.args.source.now l).text) (sym c.lexeme-item.is)
    (word_at c.args.source.now c.args.lexemes.now c.loop-lexeme.lexeme-index c.lexeme-item.result c.requires c.loop-lexeme-test.true)
