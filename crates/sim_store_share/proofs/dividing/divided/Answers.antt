use Rattle.std.proofs.Common.{◌≡◌, ◌++◌, ◌∷◌, [], refl, arith}
use Rattle.std.proofs.lemmas.Result.{IfOk-weaker}
use Rattle.sim_store_share.specs.Dividing.{AreDivided}
use Rattle.sim_store_share.specs.Shares.{owned_lists}
use Rattle.sim_store_share.proofs.Divided.{all-divided, one-more}
use Rattle.sim_store_share.proofs.dividing.divided.Goals as goal

pub loop-drivers-preserved : goal.loop-drivers-preserved
loop-drivers-preserved c =
    let e = c.in_ok-share.ensures in
    let l = c.loop-drivers in
    one-more c.args.each (owned_lists c.args.drivers c.args.variables) l.shares.items c.push.new.self.items l.drivers c.split.new.drivers
    l.variables c.split.new.variables c.in_ok-share.share (omega (arith, c.len.ensures, c.loop-drivers-test.true)) l.invariant e.share e.drivers e.variables
    c.in_ok-push.ensures.items

pub returns : goal.returns
returns c =
    let l = c.loop-drivers in
    let own = owned_lists c.args.drivers c.args.variables in
    let last = owned_lists l.drivers l.variables in
    IfOk-weaker c.with_last.result (λ v. v.items ≡ l.shares.items ++ last ∷ []) (λ v. AreDivided c.args.each own v.items) (λ v e.
    all-divided c.args.each own l.shares.items v.items l.drivers l.variables last (omega (arith, c.len.ensures, c.loop-drivers-test.false)) l.invariant refl e)
    c.with_last.ensures
