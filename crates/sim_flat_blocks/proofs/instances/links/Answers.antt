use Rattle.std.proofs.Common.{◌≡◌, ◌+◌, ◌-◌, ap, sym, ◌∙◌, arith, replicate, length}
use Rattle.sim_flat_blocks.specs.declared.links.Link.TheVariants.{Open}
use Rattle.sim_flat_blocks.specs.Plans.{seen}
use Rattle.sim_flat_blocks.proofs.PutLinks.{links_from, past_all, from_first, one_more}
use Rattle.sim_flat_blocks.proofs.instances.links.Goals as goal

pub loop-at-init : goal.loop-at-init
loop-at-init c =
    c.in_ok-links.ensures
    ∙ (ap (λ ps. replicate (length ps) Open) c.ports.ensures ∙ past_all (seen c.args.region.now) c.args.ports.now c.args.associations.now)

pub loop-at-preserved : goal.loop-at-preserved
loop-at-preserved c =
    let made = links_from (seen c.args.region.now) c.args.ports.now c.args.associations.now in
    let one_on : c.loop-at.at ≡ c.loop-at.at - 1 + 1 = omega (arith, c.loop-at-test.true) in
    one_more (seen c.args.region.now) c.args.ports.now c.args.associations.now (c.loop-at.at - 1) c.index-associations-at.result
    (omega (arith, c.loop-at-test.true, c.loop-at.auto.at)) (sym c.index-associations-at.is) c.loop-at.links c.put_link.new.links
    (c.loop-at.invariant ∙ ap made one_on) c.in_ok-put_link.ensures

pub returns : goal.returns
returns c =
    let made = links_from (seen c.args.region.now) c.args.ports.now c.args.associations.now in
    c.loop-at.invariant
    ∙ (ap made (omega (arith, c.loop-at-test.false)) ∙ from_first (seen c.args.region.now) c.args.ports.now c.args.associations.now)
