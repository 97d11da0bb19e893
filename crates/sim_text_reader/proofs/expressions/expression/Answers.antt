use Rattle.std.proofs.Common.{rules}
use Rattle.sim_text_grammar.specs.Expressions.{expression}
use Rattle.sim_text_reader.proofs.expressions.expression.Goals as goal

pub returns : goal.returns
unfolding expression
returns c = search rules
