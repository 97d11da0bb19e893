use Rattle.std.proofs.lemmas.Grind.{common_steps}
use Rattle.std.proofs.Common.{◌+◌, ◌*◌, ◌/◌, ◌∙◌, arith}
use Rattle.sim_containers.proofs.Places.{at_place, first_there, next_by_tops, none_by_tops, none_there}
use Rattle.sim_containers.proofs.words.next_further.Goals as goal

pub overflow_mul-result : goal.overflow_mul-result
overflow_mul-result c =
    let within = c.requires.fits (c.in-Some.further * 64 + c.lowest-bit.result)
    (at_place c.args.words.now c.in-Some.further c.lowest-bit.result c.lowest-bit.ensures.within ∙ c.lowest-bit.ensures.here) in
    omega arith

pub overflow_add-result : goal.overflow_add-result
overflow_add-result c =
    let within = c.requires.fits (c.in-Some.further * 64 + c.lowest-bit.result)
    (at_place c.args.words.now c.in-Some.further c.lowest-bit.result c.lowest-bit.ensures.within ∙ c.lowest-bit.ensures.here) in
    omega arith

pub returns-in-Some : goal.returns-in-Some
returns-in-Some c =
    first_there c.args.words.now c.args.from c.in-Some.further c.lowest-bit.result c.requires.rest
    (next_by_tops c.args.words.now c.args.tops.now (c.args.from / 64 + 1) c.in-Some.further c.requires.tops c.in-Some.ensures)
    c.lowest-bit.ensures.within c.lowest-bit.ensures.here c.lowest-bit.ensures.before

pub returns-in-None : goal.returns-in-None
returns-in-None c =
    none_there c.args.words.now c.args.from c.requires.rest
    (none_by_tops c.args.words.now c.args.tops.now (c.args.from / 64 + 1) c.requires.tops c.in-None.ensures)

pub bounds-words-further : goal.bounds-words-further
bounds-words-further c = grind (arith, common_steps)

pub next_top-requires : goal.next_top-requires
next_top-requires c = grind (arith, common_steps)

pub offset_bounds-words-further : goal.offset_bounds-words-further
offset_bounds-words-further c = grind (arith, common_steps)
