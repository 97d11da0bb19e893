-- Elaboration: the flat design of a library and a top, or the first fault of the first group that has one (IEEE 1076-2008, 13 and 14).
use Rattle.std.specs.Prelude.{ℕ, ◌≡◌, ◌⊎◌, List, Option, Some, None}
use Rattle.sim_flat_design.specs.Designs.{Design}
use Rattle.sim_flat_design.specs.Limits.{Limits, standard}
use Rattle.sim_flat_scope.specs.declared.fault.Fault.{Fault}
use Rattle.sim_flat_scope.specs.Faults.{earliest}
use Rattle.sim_flat_instances.specs.Libraries.{Library}
use Rattle.sim_flat_check.specs.Files.{file_faults}
use Rattle.sim_flat_blocks.specs.Plans.{blocks_of}
use Rattle.sim_flat.specs.declared.error.FlatError.{FlatError}
use Rattle.sim_flat.specs.declared.error.FlatError.TheVariants as refusal
use Rattle.sim_flat.specs.declared.top.Top.{Top}
use Rattle.sim_flat.specs.Hierarchies as hierarchy
use Rattle.sim_flat.specs.Refusals.{refusal_of}
use Rattle.sim_flat.specs.Tops.{IsTop, IsMissing}

-- the first fault of the units of a file, reached from the top or not
abbrev pub first_fault : Library → Option Fault
first_fault l = earliest None (file_faults l)

-- The units have no fault, the top exists, and there is no fault under it: this is its flat design.
pub record IsDesignWithin (limits : Limits) (l : Library) (name : List ℕ) (design : Design) : Type 0 where
  pub checked : first_fault l ≡ None
  pub top : Top
  pub is_top : IsTop l name top
  pub flat : hierarchy.IsFlat limits (blocks_of l) top design

-- The first fault of the units.
pub record IsUnitFault (l : Library) (e : FlatError) : Type 0 where
  pub fault : Fault
  pub first : first_fault l ≡ Some fault
  pub reported : e ≡ refusal_of fault

-- The units have no fault, but the top does not exist.
pub record IsWithoutTop (l : Library) (name : List ℕ) (e : FlatError) : Type 0 where
  pub checked : first_fault l ≡ None
  pub missing : IsMissing l name e

-- The units have no fault and the top exists, but there is a fault under it: this is the first.
pub record IsHierarchyFault (limits : Limits) (l : Library) (name : List ℕ) (e : FlatError) : Type 0 where
  pub checked : first_fault l ≡ None
  pub top : Top
  pub is_top : IsTop l name top
  pub fault : hierarchy.IsFault limits (blocks_of l) top e

-- Why there is no flat design: an allocation failed, or this is the first fault of the first group that has one.
abbrev pub IsRefusalWithin : Limits → Library → List ℕ → FlatError → Type 0
IsRefusalWithin limits l name e = (e ≡ refusal.Memory) ⊎ IsUnitFault l e ⊎ IsWithoutTop l name e ⊎ IsHierarchyFault limits l name e

-- The same within the limits where none are chosen.
abbrev pub IsDesign : Library → List ℕ → Design → Type 0
IsDesign = IsDesignWithin standard

abbrev pub IsRefusal : Library → List ℕ → FlatError → Type 0
IsRefusal = IsRefusalWithin standard
