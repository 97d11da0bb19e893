use Rattle.std.proofs.Common.{heap_items}
use Rattle.sim_containers.proofs.Taking.{all_taken, others_stand}
use Rattle.sim_containers.proofs.entries.take_least.Goals as goal

pub returns-clause-taken : goal.returns-clause-taken
returns-clause-taken c =
    all_taken c.args.now c.args.later c.args.time c.args.times.now c.loop-first.taken (heap_items c.loop-first.heap) c.requires.other c.requires.beyond
    (c.in_default.ensures.none c.loop-first.invariant.order) c.loop-first.invariant.taking

pub returns-clause-stands : goal.returns-clause-stands
returns-clause-stands c =
    others_stand c.args.now c.args.later c.args.time c.args.times.now c.loop-first.taken (heap_items c.loop-first.heap) c.loop-first.invariant.taking
