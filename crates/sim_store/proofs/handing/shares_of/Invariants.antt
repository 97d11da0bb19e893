use Rattle.std.proofs.Common.{◌≡◌, ◌≤◌, length, take}
use Rattle.std.specs.Vec.Iter.{into_iter_items, into_iter_len}
use Rattle.sim_containers.specs.RowArray.{joined}
use Rattle.sim_store_state.specs.FlatState.{counts}
use Rattle.sim_store.specs.Handing.{AreParts, IsRange, completed, at_input}
use Rattle.sim_store.proofs.Orders.{AreLeft}
use Rattle.sim_store.proofs.handing.shares_of.Given as goal

-- the parts before one have been taken; if the answers are to all orders, those left are to the orders left
abbrev pub invariant-loop-answer : goal.invariant-loop-answer
invariant-loop-answer g l =
    (goal.iterator-loop-answer g).can_next l.answer-iterator
    × (goal.iterator-loop-answer g).is_finite l.answer-iterator
    × IsRange (at_input g.D.DesignType.design l.fn.input) (completed (at_input g.D.DesignType.design l.fn.input)).owned 0 (joined l.shares.items)
    × (l.from ≡ length (joined l.shares.items))
    × (length l.shares.items ≤ length l.fn.parts)
    × (counts l.shares.items ≡ take (length l.shares.items) l.fn.parts)
    × (length (into_iter_items l.answer-iterator) ≡ into_iter_len l.answer-iterator)
    × (AreParts l.fn.input.cycles l.fn.input.phase l.fn.parts l.fn.answers.items
    → AreLeft l.fn.input.cycles l.fn.input.phase l.fn.parts (length l.shares.items) l.from (into_iter_items l.answer-iterator))
