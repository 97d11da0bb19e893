use Rattle.std.proofs.Common.{◌∙◌, ◌++◌, sym, ap, is_some, is_none}
use Rattle.sim_flat_scope.specs.Scopes.{Region, found, part_at, with_first}
use Rattle.sim_flat_scope.proofs.Regions.{found_later, some, there_both, there_first, with_first_later}
use Rattle.sim_flat_scope.proofs.scope.ScopeDeclare.declare.Goals as goal

pub returns-then-is_some-clause-declared : goal.returns-then-is_some-clause-declared
returns-then-is_some-clause-declared c =
    let known = ap is_some (sym c.found_in.ensures) ∙ (sym c.is_some.ensures ∙ c.if-is_some.true) in
    sym c.self.view_is ∙ (there_both c.args.name.now c.args.meaning (part_at c.self.inside.first) c.self.inside.own known
    ∙ ap (λ (ds : Region). with_first ds c.args.name.now c.args.meaning) c.self.view_is)

pub returns-then-is_some-clause-is_new : goal.returns-then-is_some-clause-is_new
returns-then-is_some-clause-is_new c =
    let known = ap is_some (sym c.found_in.ensures) ∙ (sym c.is_some.ensures ∙ c.if-is_some.true) in
    some (found c.args.self.now c.args.name.now)
    (ap (λ (ds : Region). is_some (found ds c.args.name.now)) (sym c.self.view_is)
    ∙ there_first (part_at c.self.inside.first) c.self.inside.own c.args.name.now known)

pub returns-clause-declared : goal.returns-clause-declared
returns-clause-declared c =
    let unknown = ap is_some (sym c.found_in.ensures) ∙ (sym c.is_some.ensures ∙ c.if-is_some.false) in
    ap (λ (ds : Region). part_at c.self.inside.first ++ ds) c.in_ok-is_new.ensures.declared
    ∙ (with_first_later c.args.name.now c.args.meaning (part_at c.self.inside.first) c.self.inside.own unknown
    ∙ ap (λ (ds : Region). with_first ds c.args.name.now c.args.meaning) c.self.view_is)

pub returns-clause-is_new : goal.returns-clause-is_new
returns-clause-is_new c =
    let unknown = ap is_some (sym c.found_in.ensures) ∙ (sym c.is_some.ensures ∙ c.if-is_some.false) in
    c.in_ok-is_new.ensures.is_new ∙ ap is_none
    (sym (found_later (part_at c.self.inside.first) c.self.inside.own c.args.name.now unknown)
    ∙ ap (λ (ds : Region). found ds c.args.name.now) c.self.view_is)
