use Rattle.std.proofs.Common.{◌≡◌, take}
use Rattle.sim_store_nets.proofs.lists.in_rows.Given as goal

abbrev pub invariant-loop-list : goal.invariant-loop-list
invariant-loop-list l = l.rows ≡ take l.list-index l.lists
