use Rattle.std.proofs.Common.{arith, heap_items}
use Rattle.std.proofs.lemmas.Grind.{common_steps}
use Rattle.sim_containers.proofs.Heaps.{stands_upto}
use Rattle.sim_containers.proofs.entries.rebuild.Goals as goal

pub loop-driver-preserved : goal.loop-driver-preserved
loop-driver-preserved c =
    record {
      order = c.add_in_room.ensures.order;
      room = omega arith;
      len = omega arith;
      stands = stands_upto c.args.now c.args.later c.args.times.now c.loop-driver.driver (heap_items c.loop-driver.heap) (heap_items c.add_in_room.new.heap)
          c.loop-driver.invariant.stands c.add_in_room.ensures.kept c.add_in_room.ensures.added;
    }

pub returns-clause-stands : goal.returns-clause-stands
returns-clause-stands c = grind (arith, common_steps)
