use Rattle.std.proofs.Common.{◌∙◌, ◌≡◌, ap, arith, length}
use Rattle.std.proofs.lemmas.Grind.{common_steps}
use Rattle.sim_flat_scope.specs.Scopes.{Region, found}
use Rattle.sim_flat_scope.proofs.Regions.{found-lookup, in_none}
use Rattle.sim_flat_scope.proofs.scope.DeclarativeRegion.find.Goals as goal

pub returns : goal.returns
returns c = c.copied.ensures ∙ (c.get.ensures.value ∙ (found-lookup c.args.name.now c.self.inside.meanings.entries
    ∙ ap (λ (ds : Region). found ds c.args.name.now) c.self.view_is))

pub returns-then-is_empty : goal.returns-then-is_empty
returns-then-is_empty c =
    let nothing : length c.self.inside.meanings.entries ≡ 0 = grind (arith, common_steps) in
    in_none c.args.name.now c.self.inside.meanings.entries nothing ∙ ap (λ (ds : Region). found ds c.args.name.now) c.self.view_is
