use Rattle.std.proofs.Common.{◌≡◌, ℕ, refl, subst, sym}
use Rattle.sim_flat_scope.specs.Regions.{architecture_region}
use Rattle.sim_flat_blocks.specs.Below.{AreBelow, object_count}
use Rattle.sim_flat_blocks.proofs.RegionLaws.{architecture_below}
use Rattle.sim_flat_blocks.proofs.count.object_count.Goals as goal

pub returns-clause-below : goal.returns-clause-below
unfolding object_count
returns-clause-below c = λ cs.
    let counted : c.in_ok-count.count ≡ object_count c.args.ports.now c.args.declarations.now =
    rw (c.in_ok-count.ensures, c.count.ensures, c.in_ok-signals.ensures) refl in
    subst (λ (n : ℕ). AreBelow n (architecture_region c.args.ports.now c.args.declarations.now cs)) (sym counted)
    (architecture_below c.args.ports.now c.args.declarations.now cs)
