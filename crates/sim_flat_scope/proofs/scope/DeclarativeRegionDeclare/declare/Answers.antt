use Rattle.std.proofs.Common.{◌∙◌, sym, ap, is_some}
use Rattle.sim_flat_scope.specs.Scopes.{Region, found, with_first}
use Rattle.sim_flat_scope.proofs.Regions.{found-lookup, added, there, none, some}
use Rattle.sim_flat_scope.proofs.scope.DeclarativeRegionDeclare.declare.Goals as goal

pub returns-then-contains_key-clause-declared : goal.returns-then-contains_key-clause-declared
returns-then-contains_key-clause-declared c =
    there c.args.name.now c.args.meaning c.args.self.now
    (ap (λ (ds : Region). is_some (found ds c.args.name.now)) (sym c.self.view_is)
    ∙ (ap is_some (sym (found-lookup c.args.name.now c.self.inside.meanings.entries)) ∙ (sym c.contains_key.ensures ∙ c.if-contains_key.true)))

pub returns-then-contains_key-clause-is_new : goal.returns-then-contains_key-clause-is_new
returns-then-contains_key-clause-is_new c =
    some (found c.args.self.now c.args.name.now)
    (ap (λ (ds : Region). is_some (found ds c.args.name.now)) (sym c.self.view_is)
    ∙ (ap is_some (sym (found-lookup c.args.name.now c.self.inside.meanings.entries)) ∙ (sym c.contains_key.ensures ∙ c.if-contains_key.true)))

pub returns-clause-declared : goal.returns-clause-declared
returns-clause-declared c =
    added c.args.name c.args.meaning c.self.inside.meanings.entries c.insert.new.self.entries c.in_ok-insert.ensures.entries
    (sym c.contains_key.ensures ∙ c.if-contains_key.false)
    ∙ ap (λ (ds : Region). with_first ds c.args.name.now c.args.meaning) c.self.view_is

pub returns-clause-is_new : goal.returns-clause-is_new
returns-clause-is_new c =
    none (found c.args.self.now c.args.name.now)
    (ap (λ (ds : Region). is_some (found ds c.args.name.now)) (sym c.self.view_is)
    ∙ (ap is_some (sym (found-lookup c.args.name.now c.self.inside.meanings.entries)) ∙ (sym c.contains_key.ensures ∙ c.if-contains_key.false)))
