use Rattle.std.proofs.Common.{◌≡◌, ◌+◌, ◌++◌, length, reverse}
use Rattle.std.specs.Arc.{arc_value}
use Rattle.sim_containers.specs.RowArray.{joined}
use Rattle.sim_store_state.specs.FlatState.{counts}
use Rattle.sim_store.specs.Handing.{AreInOrder, IsRange, at_input, lengths}
use Rattle.sim_store_simulation.specs.Simulation.{reached}
use Rattle.sim_store.proofs.handing.orders_of.Given as goal

-- the processes that are left are those below a number, and the others have orders
abbrev pub invariant-loop-turn : goal.invariant-loop-turn
invariant-loop-turn g l = record {
  range : IsRange (at_input g.D.DesignType.design (arc_value l.fn.input)) (reached (at_input g.D.DesignType.design (arc_value l.fn.input))).owned 0
      (joined l.shares.items);
  to : l.to ≡ length (joined l.shares.items);
  left : length l.shares.items + l._turn ≡ length l.fn.shares.items;
  counted : counts l.shares.items ++ lengths (reverse l.orders.items) ≡ counts l.fn.shares.items;
  order : AreInOrder (arc_value l.fn.input).cycles (arc_value l.fn.input).phase l.to (reverse l.orders.items);
}
