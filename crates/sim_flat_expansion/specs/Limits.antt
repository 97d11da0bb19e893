-- The limits of a hierarchy.
use Rattle.std.specs.Prelude.{ℕ, ◌≡◌, ◌≤◌, ◌&&◌, List, Bool, false, length, slice_index_or}
use Rattle.sim_flat_blocks.specs.declared.parts.Block.{Block}
use Rattle.sim_flat_expansion.specs.declared.counts.Kind.TheVariants.{Instances}
use Rattle.sim_flat_design.specs.Designs.{Design}
use Rattle.sim_flat_design.specs.Limits.{Limits}
use Rattle.sim_flat_blocks.specs.Blocks.{no_block}
use Rattle.sim_flat_expansion.specs.Counts.{number}
use Rattle.sim_flat_expansion.specs.Depth.{has_chain}
use Rattle.sim_flat_expansion.specs.Flat.{flat}

-- A design has at most `objects` nets, as many processes and as many drivers.
pub record HasAtMost (objects : ℕ) (d : Design) : Type 0 where
  pub nets : length d.nets ≤ objects
  pub processes : length d.processes ≤ objects
  pub drivers : length d.drivers ≤ objects

-- The numbers of nets, processes and drivers of the flat design and that of instances are within the limits, and no instance is
-- deeper than 32 levels.
pub record Fits (limits : Limits) (blocks : List Block) (top : ℕ) : Type 0 where
  pub design : HasAtMost limits.objects (flat blocks top)
  pub instances : number Instances blocks top ≤ limits.instances
  pub depth : has_chain blocks 33 (slice_index_or blocks top no_block) ≡ false

abbrev pub all : Bool → Bool → Bool → Bool
all first second third = first && (second && third)
