use Rattle.sim_text_reader.proofs.Spelled.{first_spelled}
use Rattle.sim_text_reader.proofs.cursor.Cursor.next_of.Goals as goal

pub to_token-requires : goal.to_token-requires
to_token-requires c =
    first_spelled c.self.inside.source.now c.self.inside.rest.now c.lexeme-item.result c.in-len1-up.len_at_least c.lexeme-item.is c.self.invariant
