-- The hierarchy of blocks under a top: its flat design, or its first fault (IEEE 1076-2008, 14).
use Rattle.std.specs.Prelude.{ℕ, ◌≡◌, List, Some, None}
use Rattle.sim_flat_design.specs.Designs.{Design}
use Rattle.sim_flat_design.specs.Limits.{Limits}
use Rattle.sim_flat_blocks.specs.declared.parts.Block.{Block}
use Rattle.sim_flat_expansion.specs.Flat.{flat}
use Rattle.sim_flat_expansion.specs.Limits.{Fits}
use Rattle.sim_flat_graph.specs.Least.{IsLeast}
use Rattle.sim_flat_graph.specs.Recursion.{IsRecursive}
use Rattle.sim_flat_graph.specs.Sources.{HasManySources}
use Rattle.sim_flat.specs.declared.error.FlatError.{FlatError}
use Rattle.sim_flat.specs.declared.error.FlatError.TheVariants as refusal
use Rattle.sim_flat.specs.declared.top.Top.{Top}

-- No instance reached from the top contains itself.
abbrev pub IsFinite : List Block → ℕ → Type 0
IsFinite blocks top = IsLeast (IsRecursive blocks top) None

-- No unresolved port or signal reached from the top has more than one source.
abbrev pub IsResolved : List Block → ℕ → Type 0
IsResolved blocks top = IsLeast (HasManySources blocks top) None

-- There is no fault, and this is the flat design.
pub record IsFlat (limits : Limits) (blocks : List Block) (top : Top) (design : Design) : Type 0 where
  pub finite : IsFinite blocks top.block
  pub fits : Fits limits blocks top.block
  pub resolved : IsResolved blocks top.block
  pub is : design ≡ flat blocks top.block

-- The first fault: an instance that contains itself, else an exceeded limit, else a port or signal with many sources.
abbrev pub IsFault : Limits → List Block → Top → FlatError → Type 0
IsFault limits blocks top refusal.Memory = Unit {0}
IsFault limits blocks top (refusal.Recursive at) = IsLeast (IsRecursive blocks top.block) (Some at)
IsFault limits blocks top (refusal.TooMany at) = IsFinite blocks top.block × (Fits limits blocks top.block → ⊥) × (at ≡ top.at)
IsFault limits blocks top (refusal.ManySources at) =
    IsFinite blocks top.block × Fits limits blocks top.block × IsLeast (HasManySources blocks top.block) (Some at)
IsFault limits blocks top _ = ⊥
