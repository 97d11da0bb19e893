use Rattle.sim_text_grammar.proofs.WholeFiles.{units_read}
use Rattle.sim_text_reader.proofs.units.file.Goals as goal

pub new-requires : goal.new-requires
new-requires c = (
  c.args.tokens.now,
  units_read c.args.tokens.now c.units_of.new.tokens c.finish.new.tokens c.in_ok-units.units
      c.in_ok-units.ensures c.in_ok-finish.ensures,
)
