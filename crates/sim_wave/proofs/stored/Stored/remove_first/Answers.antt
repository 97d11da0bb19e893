use Rattle.std.proofs.Common.{◌<◌, ◌+◌, ◌∙◌, ap, List, length, drop, refl, arith, length-drop}
use Rattle.sim_standard.specs.Drivers.{Transaction}
use Rattle.sim_wave.proofs.Storing.{drop_one-drop}
use Rattle.sim_wave.proofs.stored.Stored.remove_first.Goals as goal

pub overflow_add-head : goal.overflow_add-head
overflow_add-head c =
    let more : 0 < length (drop c.self.inside.head c.self.inside.list.items) = rw c.self.view_is c.requires in
    omega (arith, length-drop c.self.inside.head c.self.inside.list.items)

pub returns-then-head-len : goal.returns-then-head-len
returns-then-head-len c =
    drop_one-drop c.self.inside.head (c.self.inside.head + 1) c.self.inside.list.items refl
    ∙ ap (λ (w : List Transaction). drop 1 w) c.self.view_is

pub returns : goal.returns
returns c =
    c.close_gap.ensures.items
    ∙ (drop_one-drop c.self.inside.head (c.self.inside.head + 1) c.self.inside.list.items refl
    ∙ ap (λ (w : List Transaction). drop 1 w) c.self.view_is)
