use Rattle.sim_text_tokens.proofs.Places.{words_of}
use Rattle.sim_text_reader.proofs.cursor.Cursor.new.Goals as goal

pub invariant_of-result : goal.invariant_of-result
invariant_of-result c = words_of c.args.source.now _ c.requires
