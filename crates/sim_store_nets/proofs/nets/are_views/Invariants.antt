use Rattle.std.proofs.Common.{◌≡◌, map, take}
use Rattle.sim_standard.specs.State.{net_at}
use Rattle.sim_store_nets.specs.Nets.{views_of}
use Rattle.sim_store_nets.proofs.nets.are_views.Given as goal

-- the views up to here are right
abbrev pub invariant-loop-i : goal.invariant-loop-i
invariant-loop-i l = take l.i l.views ≡ map (net_at (views_of l.values l.values_before)) (take l.i l.numbers)
