use Rattle.std.proofs.Common.{arith}
use Rattle.std.proofs.lemmas.Grind.{common_steps}
use Rattle.sim_flat_scope.specs.DeclaredNames.{statement_labels}
use Rattle.sim_flat_scope.proofs.LabelRules.{label_rules}
use Rattle.sim_flat_scope.proofs.names.Names.+labels.Goals as goal

pub push_statements-loop-statement-preserved : goal.push_statements-loop-statement-preserved
unfolding statement_labels
push_statements-loop-statement-preserved c = grind (arith, common_steps, label_rules)

pub push_statements-returns : goal.push_statements-returns
unfolding statement_labels
push_statements-returns c = grind (arith, common_steps, label_rules)
