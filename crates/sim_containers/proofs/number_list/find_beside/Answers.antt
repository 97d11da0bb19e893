use Rattle.std.proofs.Common.{arith}
use Rattle.sim_containers.proofs.Sets.{member_within}
use Rattle.sim_containers.proofs.number_list.find_beside.Goals as goal

pub overflow_add-least : goal.overflow_add-least
overflow_add-least c =
    let within = member_within c.args.list.now c.in-Some.number c.in-Some.ensures.passes in
    omega (arith, within, c.len-count.ensures, c.len-count.type_inv)
