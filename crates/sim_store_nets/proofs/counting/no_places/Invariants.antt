use Rattle.std.proofs.Common.{ℕ, List, ◌≡◌, [], length}
use Rattle.std.specs.List.{All}
use Rattle.sim_store_nets.proofs.counting.no_places.Given as goal

abbrev pub invariant-loop-driver : goal.invariant-loop-driver
invariant-loop-driver l = record {
  count : length l.lists.items ≡ l._driver;
  empty : All (λ (list : List (ℕ × ℕ)). list ≡ []) l.lists.items;
}
