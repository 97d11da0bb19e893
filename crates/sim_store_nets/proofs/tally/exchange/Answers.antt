use Rattle.std.proofs.Common.{arith, refl, ◌<◌, length}
use Rattle.std.proofs.lemmas.Grind.{common_steps}
use Rattle.sim_store_nets.proofs.Counts.{some-before, room-after, tally-set}
use Rattle.sim_store_nets.proofs.tally.exchange.Goals as goal

pub lower-requires-clause-some : goal.lower-requires-clause-some
lower-requires-clause-some c =
    let there : c.args.place < length c.args.values.now = omega (arith, c.if-place-values.false) in
    some-before c.args.values.now c.args.counts.now c.args.place _ c.requires.tally there refl

pub raise-requires-clause-few : goal.raise-requires-clause-few
raise-requires-clause-few c =
    let there : c.args.place < length c.args.values.now = omega (arith, c.if-place-values.false) in
    let room = room-after c.args.values.now c.args.counts.now c.args.place _ c.args.value c.lower.new.counts c.requires.tally there refl c.lower.ensures in
    omega (arith, room, c.requires.few)

pub returns-clause-tally : goal.returns-clause-tally
returns-clause-tally c =
    let there : c.args.place < length c.args.values.now = omega (arith, c.if-place-values.false) in
    tally-set c.args.values.now c.args.counts.now c.args.place _ c.args.value c.lower.new.counts c.raise.new.counts c.requires.tally there refl c.lower.ensures
    c.raise.ensures

pub returns-then-place-values-clause-values : goal.returns-then-place-values-clause-values
returns-then-place-values-clause-values c = grind (arith, common_steps)
