use Rattle.std.proofs.Common.{◌≡◌, drop}
use Rattle.sim_flat_scope.specs.Scopes.{means}
use Rattle.sim_flat_check.specs.Carried.{carried_through}
use Rattle.sim_flat_check.proofs.types.+types.Given as goal

abbrev pub invariant-operands-loop-next : goal.invariant-operands-loop-next
invariant-operands-loop-next l =
    carried_through (means l.inner l.outer) (record { type = l.so_far.type_; named = l.so_far.named; first = l.first }) (drop l.next-index l.rest)
    ≡ carried_through (means l.inner l.outer) (record { type = l.fn.before.type_; named = l.fn.before.named; first = l.fn.first }) l.rest
