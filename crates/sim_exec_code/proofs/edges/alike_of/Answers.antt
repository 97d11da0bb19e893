use Rattle.std.proofs.Common.{◌∷◌, [], ap, length, length-append, arith}
use Rattle.sim_exec_code.proofs.AlikeEdges.{alike_more, none_alike}
use Rattle.sim_exec_code.proofs.edges.alike_of.Goals as goal

pub loop-number-init : goal.loop-number-init
loop-number-init c =
    let none = c.in_ok-alike.ensures.items in
    (ap length none, none_alike c.args.edges.now c.in_ok-alike.alike.items none)

pub loop-number-preserved : goal.loop-number-preserved
loop-number-preserved c =
    let was = c.loop-number.alike.items in
    let x = c.in_ok-first.first in
    let more = c.in_ok-push.ensures.items in (
      omega (arith, ap length more, length-append was (x ∷ []), c.loop-number.invariant.0),
      alike_more c.args.edges.now was _ x c.loop-number.number c.loop-number.invariant.1 c.loop-number.invariant.0 c.in_ok-first.ensures more,
    )
