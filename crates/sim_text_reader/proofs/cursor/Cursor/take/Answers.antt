use Rattle.sim_text_reader.proofs.Spelled.{rest_spelled}
use Rattle.sim_text_reader.proofs.cursor.Cursor.take.Goals as goal

pub invariant_of-self : goal.invariant_of-self
invariant_of-self c = rest_spelled c.self.inside.source.now c.self.inside.rest.now c.in-len1-up.len_at_least c.self.invariant
