-- A row array once a `&mut` to one of its items has been given back.
-- Implementation only: what `simulate` promises does not rest on this file.
use Rattle.std.specs.Prelude.{ℕ, List, [], ◌∷◌, ◌-◌, length, slice_set, nat_lt, if◌then◌else◌}
use Rattle.std.specs.Borrow.{Lends, Fml, RattleType, MutBor}
use Rattle.sim_containers.specs.contracts.row_array.RowArray.{the_row}

-- the lists with the item with a number, counted through all lists, set to a value
abbrev pub with_item : {A : Type 0} → List (List A) → ℕ → A → List (List A)
with_item [] n x = []
with_item (xs ∷ xss) n x = if nat_lt n (length xs) then slice_set xs n x ∷ xss else xs ∷ with_item xss (n - length xs) x

module _ (T : RattleType) (v : MutBor (List (List T.Denot))) where
  -- once the borrow r ends, the item has the last value written through r
  abbrev pub lends_item : ℕ → MutBor T.Denot → Fml
  lends_item n r = Lends (the_row T) T v r (with_item v.now n)
