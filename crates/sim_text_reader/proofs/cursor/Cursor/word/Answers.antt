use Rattle.sim_text_tokens.specs.declared.kind.Kind.TheVariants.{Word}
use Rattle.sim_text_grammar.proofs.Tokens.{same_is}
use Rattle.sim_text_reader.proofs.cursor.Cursor.word.Goals as goal

pub of-requires : goal.of-requires
of-requires c =
    let some = rw c.in-Some.is at c.in_ok-token.ensures.some in
    same_is c.in-Some.token.kind Word some.2
