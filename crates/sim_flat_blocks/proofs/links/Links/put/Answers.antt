use Rattle.std.proofs.Common.{◌≡◌, ◌≤◌, length, get_or, set, ap, sym, ◌∙◌, arith}
use Rattle.sim_flat_blocks.specs.declared.links.Link.TheVariants.{Open}
use Rattle.sim_flat_blocks.specs.Links.{by_place, own, unlinked}
use Rattle.sim_flat_blocks.proofs.Added.{set_past}
use Rattle.sim_flat_blocks.proofs.KeptLinks.{as_many, own_counted, put_counts, Put}
use Rattle.sim_flat_blocks.proofs.links.Links.put.Goals as goal
use Rattle.sim_flat_blocks.proofs.links.Links.put.Goals.{After-own-2}

pub returns-then-place-self : goal.returns-then-place-self
returns-then-place-self c =
    let many = as_many c.self.inside.first.items c.self.inside.others.entries c.self.inside.ports in
    let same = ap length c.self.view_is in
    let past : length c.args.self.now ≤ c.args.place = omega arith in
    sym (set_past c.args.self.now c.args.place c.args.link past)

pub overflow_sub-self : goal.overflow_sub-self
overflow_sub-self c =
    let ls = by_place c.self.inside.first.items c.self.inside.others.entries c.self.inside.ports in
    let many = as_many c.self.inside.first.items c.self.inside.others.entries c.self.inside.ports in
    let known : c.own.result ≡ own (get_or ls c.args.place Open) =
    c.own.ensures ∙ (ap own c.get-before.ensures ∙ ap (λ xs. own (get_or xs c.args.place Open)) (sym c.self.view_is)) in
    let some = own_counted ls c.args.place (omega arith) in
    let counts = c.self.invariant in
    omega arith

counted : (c : After-own-2) → Put c.self.inside.ports c.self.inside.unlinked c.own.result c.own-2.result
    (set (by_place c.self.inside.first.items c.self.inside.others.entries c.self.inside.ports) c.args.place c.args.link)
counted c =
    put_counts (by_place c.self.inside.first.items c.self.inside.others.entries c.self.inside.ports) c.self.inside.ports c.args.place
    c.self.inside.unlinked c.own.result c.own-2.result c.get-before.result c.args.link
    (as_many c.self.inside.first.items c.self.inside.others.entries c.self.inside.ports) c.self.invariant (omega arith)
    (c.get-before.ensures ∙ ap (λ xs. get_or xs c.args.place Open) (sym c.self.view_is)) c.own.ensures c.own-2.ensures

pub overflow_add-self : goal.overflow_add-self
overflow_add-self c = let e = (counted (goal.at.overflow_add-self c).After-own-2).fits in omega arith

pub invariant_of-self-2 : goal.invariant_of-self-2
invariant_of-self-2 c = (counted (goal.at.invariant_of-self-2 c).After-own-2).same ∙ ap unlinked (sym (c.in_ok-keep.ensures.kept c.self.inside.ports))

pub returns : goal.returns
returns c = c.in_ok-keep.ensures.kept c.self.inside.ports ∙ ap (λ ls. set ls c.args.place c.args.link) c.self.view_is
