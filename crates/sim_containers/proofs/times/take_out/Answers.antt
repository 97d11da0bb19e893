use Rattle.std.proofs.Common.{◌≢◌, ◌∙◌, ap, length, sym, ℕ, heap_items}
use Rattle.sim_containers.specs.Times.{cleared, those_at}
use Rattle.sim_containers.specs.Entries.{those_later}
use Rattle.sim_containers.proofs.Queues.{none_left, others_left, front_taken, later_taken, others_taken, all_later, stands_cleared}
use Rattle.sim_containers.proofs.times.take_out.Goals as goal

pub returns-then-time-now-clause-stands : goal.returns-then-time-now-clause-stands
returns-then-time-now-clause-stands c =
    stands_cleared c.args.now c.args.later c.args.time c.args.times.now (heap_items c.args.heap.now) c.requires.stands

pub returns-then-time-now-clause-front : goal.returns-then-time-now-clause-front
returns-then-time-now-clause-front c =
    c.swap.ensures.first ∙ (c.clear.ensures ∙ (none_left c.args.time (length c.args.taken.now) c.args.times.now c.requires.sized
    ∙ ap (λ (now : ℕ). those_at now (cleared c.args.time c.args.times.now)) c.if-time-now.true))

pub returns-then-time-now-clause-later : goal.returns-then-time-now-clause-later
returns-then-time-now-clause-later c =
    c.requires.later ∙ (front_taken c.args.now c.args.later c.args.times.now
    ∙ ap (λ (time : ℕ). those_later c.args.now c.args.later (cleared time c.args.times.now)) (sym c.if-time-now.true))

pub returns-then-time-later-clause-stands : goal.returns-then-time-later-clause-stands
returns-then-time-later-clause-stands c =
    stands_cleared c.args.now c.args.later c.args.time c.args.times.now (heap_items c.args.heap.now) c.requires.stands

pub returns-then-time-later-clause-front : goal.returns-then-time-later-clause-front
returns-then-time-later-clause-front c = c.requires.front ∙ others_left c.args.time c.args.now c.args.times.now c.if-time-now.false

pub returns-then-time-later-clause-later : goal.returns-then-time-later-clause-later
returns-then-time-later-clause-later c =
    c.swap-then-time-later.ensures.first ∙ (c.clear.ensures ∙ (later_taken c.args.now c.args.later (length c.args.taken.now) c.args.times.now c.requires.sized
    ∙ ap (λ (time : ℕ). those_later c.args.now c.args.later (cleared time c.args.times.now)) (sym c.if-time-later.true)))

pub returns-then-time-later-clause-taken : goal.returns-then-time-later-clause-taken
returns-then-time-later-clause-taken c =
    let other : c.args.later ≢ c.args.now = λ e. c.if-time-now.false (c.if-time-later.true ∙ e) in
    c.swap-then-time-later.ensures.second ∙ (c.requires.later ∙ (all_later c.args.now c.args.later c.args.times.now other
    ∙ ap (λ (time : ℕ). those_at time c.args.times.now) (sym c.if-time-later.true)))

pub returns-clause-front : goal.returns-clause-front
returns-clause-front c = c.requires.front ∙ others_left c.args.time c.args.now c.args.times.now c.if-time-now.false

pub returns-clause-later : goal.returns-clause-later
returns-clause-later c = c.requires.later ∙ others_taken c.args.now c.args.later c.args.time c.args.times.now c.if-time-later.false
