-- The links of the ports of an instance: the first ones in a list, and of the others those that are associated.
-- Implementation only: what `simulate` promises does not rest on this file.
use Rattle.std.specs.Prelude.{ℕ, ◌+◌, ◌==◌, List, [], ◌∷◌, map, slice_get, Option, Some, None}
use Rattle.std.specs.List.{range_with_len}
use Rattle.std.specs.Map.{lookup}
use Rattle.sim_flat_blocks.specs.declared.links.Link.{Link}
use Rattle.sim_flat_blocks.specs.declared.links.Link.TheVariants.{To, Constant, Open}

-- a port without an association is open
abbrev pub or_open : Option Link → Link
or_open None = Open
or_open (Some l) = l

-- the stored link of the port at a position
abbrev pub kept : List (ℕ × Link) → ℕ → Link
kept es n = or_open (lookup (λ (k : ℕ). n == k) es)

-- the link of the port at a position; the first ports are in a list
abbrev pub link_in : Option Link → Link → Link
link_in (Some l) other = l
link_in None other = other

abbrev pub at : List Link → List (ℕ × Link) → ℕ → Link
at first others n = link_in (slice_get first n) (kept others n)

-- the links of this many ports
unfoldable pub by_place : List Link → List (ℕ × Link) → ℕ → List Link
by_place first others ports = map (at first others) (range_with_len 0 ports)

-- the number of nets that a port has of its own
abbrev pub own : Link → ℕ
own (To m) = 0
own (Constant value) = 1
own Open = 1

-- the number of ports that are open or associated with a literal
unfoldable pub unlinked : List Link → ℕ
unlinked [] = 0
unlinked (l ∷ ls) = own l + unlinked ls
