-- The top: the entity that is elaborated, and its architecture (IEEE 1076-2008, 7.3.3, 14.1).
use Rattle.std.specs.Prelude.{ℕ, ◌≡◌, List, Some, None, map, IsAscii}
use Rattle.std.specs.Char.{to_ascii_lowercase}
use Rattle.sim_text_tree.specs.declared.unit.Entity.{Entity}
use Rattle.sim_flat_instances.specs.Libraries.{Library, entity_of, last_architecture}
use Rattle.sim_flat.specs.declared.error.FlatError.{FlatError}
use Rattle.sim_flat.specs.declared.error.FlatError.TheVariants as refusal
use Rattle.sim_flat.specs.declared.top.Top.{Top}

-- the name of the top in lower case, like the names of a text
abbrev pub folded : List ℕ → List ℕ
folded top = map to_ascii_lowercase top

-- The top's entity is named at this place, and its last architecture has this number. No entity's name has a byte above 127.
pub record IsTop (l : Library) (name : List ℕ) (top : Top) : Type 0 where
  pub ascii : IsAscii name
  pub entity : Entity
  pub is : entity_of l (folded name) ≡ Some entity
  pub named : top.at ≡ entity.name.at
  pub architecture : last_architecture l.architectures (folded name) ≡ Some top.block

-- The entity of the top has no architecture. Its name is at this place.
pub record IsBare (l : Library) (name : List ℕ) (at : ℕ) : Type 0 where
  pub ascii : IsAscii name
  pub entity : Entity
  pub is : entity_of l (folded name) ≡ Some entity
  pub named : at ≡ entity.name.at
  pub none : last_architecture l.architectures (folded name) ≡ None

-- Why there is no top.
abbrev pub IsMissing : Library → List ℕ → FlatError → Type 0
IsMissing l name refusal.Memory = Unit {0}
IsMissing l name refusal.NoTop = IsAscii name → entity_of l (folded name) ≡ None
IsMissing l name (refusal.NoArchitecture at) = IsBare l name at
IsMissing l name _ = ⊥
