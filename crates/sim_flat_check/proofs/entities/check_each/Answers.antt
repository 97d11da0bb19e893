use Rattle.std.proofs.Common.{List, Bor, refl, arith}
use Rattle.std.proofs.lemmas.Grind.{common_steps}
use Rattle.sim_flat_scope.specs.Faults.{earliest}
use Rattle.sim_text_tree.specs.declared.unit.Entity.{Entity}
use Rattle.sim_flat_instances.specs.Libraries.{entities_at}
use Rattle.sim_flat_check.specs.Entities.{entity_faults, each_entity}
use Rattle.sim_flat_check.proofs.UnitTurns.{one_more}
use Rattle.sim_flat_check.proofs.entities.check_each.Goals as goal

pub loop-entity-preserved : goal.loop-entity-preserved
unfolding each_entity entities_at
loop-entity-preserved c =
    one_more (λ (es : List (Bor Entity)). each_entity (entities_at es)) (λ (e : Bor Entity). entity_faults e.now) (λ e es. refl)
    c.args.entities.now c.loop-entity.entity-index c.entity-item.result c.loop-entity-test.true c.entity-item.is
    c.loop-entity.first c.check_entity.new.first _ c.in_ok-check_entity.ensures c.loop-entity.invariant

pub returns : goal.returns
unfolding each_entity entities_at earliest
returns c = grind (arith, common_steps)
