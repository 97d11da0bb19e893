use Rattle.std.proofs.Common.{List, Bor, refl, arith}
use Rattle.std.proofs.lemmas.Grind.{common_steps}
use Rattle.sim_flat_scope.specs.Faults.{earliest}
use Rattle.sim_text_tree.specs.declared.unit.Architecture.{Architecture}
use Rattle.sim_flat_instances.specs.Libraries.{bodies_at}
use Rattle.sim_flat_check.specs.Architectures.{known_faults, bodies_faults}
use Rattle.sim_flat_check.proofs.UnitTurns.{one_more}
use Rattle.sim_flat_check.proofs.architectures.check_bodies.Goals as goal

pub loop-architecture-preserved : goal.loop-architecture-preserved
unfolding bodies_faults bodies_at
loop-architecture-preserved c =
    one_more (λ (xs : List (Bor Architecture)). bodies_faults c.args.library.now (bodies_at xs))
    (λ (a : Bor Architecture). known_faults c.args.library.now a.now) (λ a xs. refl)
    c.args.architectures.now c.loop-architecture.architecture-index c.architecture-item.result c.loop-architecture-test.true
    c.architecture-item.is c.loop-architecture.first c.check_known.new.first _ c.in_ok-check_known.ensures c.loop-architecture.invariant

pub returns : goal.returns
unfolding bodies_faults bodies_at earliest
returns c = grind (arith, common_steps)
