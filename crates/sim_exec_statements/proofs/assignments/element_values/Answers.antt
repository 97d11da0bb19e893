use Rattle.std.proofs.Common.{arith}
use Rattle.std.proofs.lemmas.Grind.{common_steps}
use Rattle.sim_exec_statements.proofs.Elements.{all_values_rise}
use Rattle.sim_exec_statements.proofs.assignments.element_values.Goals as goal

pub returns-clause-rises : goal.returns-clause-rises
returns-clause-rises g c =
    all_values_rise (g.N.Nets.look c.args.nets.now) c.args.variables.now c.args.elements.now c.loop-element.element-index c.loop-element.found.items
    (omega (arith, c.loop-element-test.false)) c.requires.waveform c.loop-element.invariant.value

pub loop-element-preserved : goal.loop-element-preserved
loop-element-preserved g c = grind (arith, common_steps)

pub returns-clause-value : goal.returns-clause-value
returns-clause-value g c = grind (arith, common_steps)
