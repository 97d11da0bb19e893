use Rattle.std.proofs.Common.{◌<◌, [], List, length, ap, arith, ◌∙◌}
use Rattle.std.proofs.lemmas.List.{get_or_default, length-map}
use Rattle.sim_standard.specs.State.{Owned}
use Rattle.sim_store_state.proofs.Contents.{placed-alone-in, placed-in, wide-in}
use Rattle.sim_store_state.proofs.flat_state.place_of.Goals as goal

pub returns-then-shares-eq1 : goal.returns-then-shares-eq1
returns-then-shares-eq1 c = placed-alone-in c.args.shares.now c.args.number c.if-shares-eq1.true c.requires.number

pub returns : goal.returns
returns c =
    let wide = wide-in c.args.shares.now c.requires.shares c.if-shares-eq1.false in
    let sizes = c.requires.shares.some in
    let some : 0 < length c.args.shares.now = omega (arith, sizes, length-map c.args.shares.now (λ (xs : List Owned). length xs)) in
    let is = c.len-each.ensures ∙ ap length (c.index-shares-0.is ∙ get_or_default c.args.shares.now 0 c.index-shares-0.result [] some) in
    let wider : 0 < c.len-each.result = omega (arith, wide, is) in
    placed-in c.requires.shares c.len-each.result c.args.number is wider c.requires.number
