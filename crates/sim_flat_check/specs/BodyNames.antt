-- The known names of architectures, each with the name of its entity (IEEE 1076-2008, 3.3.1).
use Rattle.std.specs.Prelude.{ℕ, ◌&&◌, List, [], ◌∷◌, ◌++◌, Bool, if◌then◌else◌}
use Rattle.std.specs.List.{list_any}
use Rattle.std.specs.Str.{bytes_eq}

-- names of architectures, each after the name of its entity
abbrev pub BodyNames : Type 0
BodyNames = List (List ℕ × List ℕ)

-- whether a name is known for an entity
unfoldable pub is_known : BodyNames → List ℕ → List ℕ → Bool
is_known known entity name = list_any (λ (k : List ℕ × List ℕ). bytes_eq entity k.0 && bytes_eq name k.1) known

-- the names with one more, unless it is known
unfoldable pub with_name : BodyNames → List ℕ → List ℕ → BodyNames
with_name known entity name = if is_known known entity name then known else known ++ (entity, name) ∷ []
