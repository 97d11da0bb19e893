use Rattle.std.proofs.Common.{◌∙◌, sym, ap}
use Rattle.sim_flat_scope.specs.Scopes.{Region, found, part_at}
use Rattle.sim_flat_scope.proofs.Regions.{found_first, found_next}
use Rattle.sim_flat_scope.proofs.scope.Scope.find.Goals as goal

pub returns-in-Some : goal.returns-in-Some
returns-in-Some c =
    found_first (part_at c.self.inside.first) c.self.inside.own c.args.name.now c.in-Some.meaning (sym c.found_in.ensures ∙ c.in-Some.is)
    ∙ ap (λ (ds : Region). found ds c.args.name.now) c.self.view_is

pub returns-in-None : goal.returns-in-None
returns-in-None c =
    c.find.ensures ∙ (found_next (part_at c.self.inside.first) c.self.inside.own c.args.name.now (sym c.found_in.ensures ∙ c.in-None.is)
    ∙ ap (λ (ds : Region). found ds c.args.name.now) c.self.view_is)
