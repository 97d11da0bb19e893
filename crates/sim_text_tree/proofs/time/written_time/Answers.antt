use Rattle.std.proofs.Common.{◌≤◌, ◌<◌, ℕ, subst, arith}
use Rattle.std.specs.Option.{SomeIff}
use Rattle.sim_logic.specs.Time.{largest_time}
use Rattle.sim_text_tree.specs.Times.{time_of}
use Rattle.sim_text_tree.proofs.Digits.{too_large, in_time}
use Rattle.sim_text_tree.proofs.time.written_time.Goals as goal

pub returns-then-count : goal.returns-then-count
returns-then-count c =
    let large : largest_time < time_of c.args.digits.now c.args.unit = too_large c.args.digits.now c.loop-digit.digit-index c.loop-digit.count
    c.args.unit c.loop-digit-test.true c.loop-digit.invariant.1 c.if-count.true in
    λ h. omega arith

pub returns : goal.returns
returns c =
    let e = in_time c.args.digits.now c.loop-digit.digit-index c.loop-digit.count c.args.unit c.loop-digit-test.false c.loop-digit.invariant.1 in
    subst (λ (n : ℕ). SomeIff c.of.result (n ≤ largest_time) n) e c.of.ensures
