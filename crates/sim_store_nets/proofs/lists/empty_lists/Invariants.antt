use Rattle.std.proofs.Common.{ℕ, List, ◌≡◌, [], length}
use Rattle.std.specs.List.{All}
use Rattle.sim_store_nets.proofs.lists.empty_lists.Given as goal

abbrev pub invariant-loop-number : goal.invariant-loop-number
invariant-loop-number l = record {
  count : length l.lists.items ≡ l._number;
  empty : All (λ (list : List ℕ). list ≡ []) l.lists.items;
}
