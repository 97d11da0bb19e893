-- The values of nets (IEEE 1076-2008, 14.7.3).
use Rattle.std.specs.Prelude.{List, map}
use Rattle.sim_logic.specs.declared.logic.Logic.{Logic}
use Rattle.sim_logic.specs.Resolution.{resolved}
use Rattle.sim_flat_design.specs.declared.design.Source.{Source}
use Rattle.sim_flat_design.specs.declared.design.Source.TheVariants as source
use Rattle.sim_flat_design.specs.Designs.{Net}
use Rattle.sim_standard.specs.Drivers.{DriverState}
use Rattle.sim_standard.specs.State.{driver_at}

-- the value of a source: a driver's current value, or a constant
abbrev pub source_value : List DriverState → Source → Logic
source_value drivers (source.Driver n) = (driver_at drivers n).value
source_value drivers (source.Constant value) = value

-- the value of a net: the values of its sources, resolved from left to right (14.7.3.2, 14.7.3.3)
abbrev pub net_value : List DriverState → Net → Logic
net_value drivers net = resolved (map (source_value drivers) net.sources)
