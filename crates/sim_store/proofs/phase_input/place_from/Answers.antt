use Rattle.sim_store.proofs.Places.{place-found, place-missing}
use Rattle.sim_store.proofs.phase_input.place_from.Goals as goal

pub returns-in-Ok : goal.returns-in-Ok
returns-in-Ok c =
    let w = place-found c.args.numbers.now c.args.from c.in-Ok.place c.requires c.in-Ok.ensures.position in
    record { within = w.within; below = w.below; above = w.above }

pub returns-in-Err : goal.returns-in-Err
returns-in-Err c =
    let w = place-missing c.args.numbers.now c.args.from c.in-Err.place c.requires c.in-Err.ensures.position in
    record { within = w.within; below = w.below; above = w.above }
