use Rattle.std.proofs.lemmas.Grind.{common_steps}
use Rattle.std.proofs.Common.{◌+◌, ◌*◌, arith}
use Rattle.sim_containers.proofs.Places.{at_place}
use Rattle.std.proofs.Common.{◌∙◌}
use Rattle.sim_containers.proofs.words.next_top.Goals as goal

pub overflow_mul-result-in-Some-next_used : goal.overflow_mul-result-in-Some-next_used
overflow_mul-result-in-Some-next_used c =
    let within = c.requires (c.in-Some-next_used.further * 64 + c.lowest-bit.result)
    (at_place c.args.tops.now c.in-Some-next_used.further c.lowest-bit.result c.lowest-bit.ensures.within ∙ c.lowest-bit.ensures.here) in
    omega arith

pub overflow_add-result-in-Some-next_used : goal.overflow_add-result-in-Some-next_used
overflow_add-result-in-Some-next_used c =
    let within = c.requires (c.in-Some-next_used.further * 64 + c.lowest-bit.result)
    (at_place c.args.tops.now c.in-Some-next_used.further c.lowest-bit.result c.lowest-bit.ensures.within ∙ c.lowest-bit.ensures.here) in
    omega arith

pub offset_bounds-tops-further : goal.offset_bounds-tops-further
offset_bounds-tops-further c = grind (arith, common_steps)

pub returns-then-place-tops : goal.returns-then-place-tops
returns-then-place-tops c = grind (arith, common_steps)

pub bounds-tops-further : goal.bounds-tops-further
bounds-tops-further c = grind (arith, common_steps)
