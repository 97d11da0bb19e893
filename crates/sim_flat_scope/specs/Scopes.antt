-- The meanings of names (IEEE 1076-2008, 12).
use Rattle.std.specs.Prelude.{ℕ, List, [], ◌∷◌, ◌++◌, Bool, true, false, if◌then◌else◌, Option, Some, None, is_some, codes}
use Rattle.std.specs.Borrow.{Bor}
use Rattle.std.specs.Str.{bytes_eq}
use Rattle.sim_flat_scope.specs.declared.scope.Meaning.{Meaning}
use Rattle.sim_flat_scope.specs.declared.scope.Meaning.TheVariants as m

-- a name and its declared meaning
abbrev pub Declared : Type 0
Declared = List ℕ × Meaning

-- a declarative region: its declarations, of which the first of a name counts
abbrev pub Region : Type 0
Region = List Declared

-- the meanings of names at some place
abbrev pub Lookup : Type 0
Lookup = List ℕ → Option Meaning

-- the meaning of a name, from its first declaration
unfoldable pub found : Region → List ℕ → Option Meaning
found [] n = None
found (d ∷ ds) n = if bytes_eq n d.0 then Some d.1 else found ds n

-- a region extended by one declaration, unless the name is already declared
unfoldable pub with_first : Region → List ℕ → Meaning → Region
with_first ds n m = if is_some (found ds n) then ds else ds ++ (n, m) ∷ []

-- a region extended by several declarations
unfoldable pub declaring : Region → List Declared → Region
declaring ds [] = ds
declaring ds (x ∷ xs) = declaring (with_first ds x.0 x.1) xs

-- the first of two optional meanings
abbrev pub or_else : Option Meaning → Option Meaning → Option Meaning
or_else None b = b
or_else (Some a) b = Some a

-- the names of the part that a region extends, if there is one
abbrev pub part_at : Option (Bor Region) → Region
part_at None = []
part_at (Some part) = part.now

-- the predefined names (IEEE 1076-2008, 16.3; IEEE 1164)
unfoldable pub predefined : Lookup
predefined n =
    if bytes_eq n (codes "std_logic") then Some (m.LogicMark true) else
    (if bytes_eq n (codes "std_ulogic") then Some (m.LogicMark false) else
    (if bytes_eq n (codes "boolean") then Some m.BooleanMark else
    (if bytes_eq n (codes "true") then Some (m.Truth true) else
    (if bytes_eq n (codes "false") then Some (m.Truth false) else
    (if bytes_eq n (codes "rising_edge") then Some (m.Edge true) else
    (if bytes_eq n (codes "falling_edge") then Some (m.Edge false) else None))))))

-- whether a name is predefined
abbrev pub is_predefined : List ℕ → Bool
is_predefined n = is_some (predefined n)

-- The meaning of a name in an inner region within an outer one: a process in its architecture, a component's ports in an
-- architecture, an entity's ports or an architecture alone. A name that neither declares may be predefined.
unfoldable pub means : Region → Region → Lookup
means inner outer n = or_else (found inner n) (or_else (found outer n) (predefined n))
