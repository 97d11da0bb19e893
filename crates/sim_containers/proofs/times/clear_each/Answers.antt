use Rattle.std.proofs.Common.{arith}
use Rattle.sim_containers.proofs.Ranges.{member_small}
use Rattle.sim_containers.proofs.times.clear_each.Goals as goal

pub clear_listed-requires : goal.clear_listed-requires
clear_listed-requires c k lt =
    let within = member_small c.args.taken.now c.in-Some.drivers.now k c.in-Some.ensures lt in
    omega (arith, within, c.requires)
