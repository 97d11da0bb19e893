use Rattle.std.proofs.Common.{◌≡◌, ℕ, take, map, slice_index_or}
use Rattle.sim_flat_expansion.proofs.object_nets.nets_of.Given as goal

abbrev pub invariant-loop-object : goal.invariant-loop-object
invariant-loop-object l = l.nets.items ≡ map (λ (n : ℕ). slice_index_or l.object_nets n 0) (take l.object-index l.objects)
