use Rattle.std.proofs.Common.{◌≡◌, ◌<◌, List, length, ap, sym, subst, arith, All}
use Rattle.sim_flat_blocks.specs.declared.parts.Block.{Block}
use Rattle.sim_flat_blocks.specs.Blocks.{IsBlock}
use Rattle.sim_flat.specs.Tops.{folded}
use Rattle.sim_flat.proofs.TopBlocks.{architecture_within}
use Rattle.sim_flat.proofs.elaboration.elaborate.Goals as goal

pub expand_top-requires-clause-known : goal.expand_top-requires-clause-known
expand_top-requires-clause-known c = subst (λ (bs : List Block). All (IsBlock bs) bs) (sym c.as_slice.ensures) c.in_ok-plan.ensures.known

pub expand_top-requires-clause-top : goal.expand_top-requires-clause-top
expand_top-requires-clause-top c =
    let there : c.in_ok-found.found.block < length c.args.library.now.architectures =
    architecture_within c.args.library.now.architectures (folded c.args.top.now) c.in_ok-found.found.block c.in_ok-found.ensures.architecture in
    let e : length c.as_slice.result.now ≡ length c.in_ok-plan.plan = ap (λ (bs : List Block). length bs) c.as_slice.ensures in
    let l = c.in_ok-plan.ensures.length in
    omega arith
