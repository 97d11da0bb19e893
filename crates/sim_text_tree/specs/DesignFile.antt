-- The value of a design file in contracts (IEEE 1076-2008, 13.1).
use Rattle.std.specs.Prelude.{List}
use Rattle.sim_text_tree.specs.declared.unit.DesignUnit.{DesignUnit}

-- its design units, in order
pub record DesignFile : Type 0 where
  pub units : List DesignUnit
