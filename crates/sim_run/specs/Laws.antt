-- Elaboration and the cycle together: the cycle gives each net the value of its ports and signals (IEEE 1076-2008, 14.7.3).
use Rattle.std.specs.Prelude.{◌≡◌, List}
use Rattle.sim_logic.specs.Sources.{SourceTree, nested}
use Rattle.sim_flat_design.specs.Designs.{Net}
use Rattle.sim_standard.specs.Drivers.{DriverState}
use Rattle.sim_standard.specs.State.{driver_at}
use Rattle.sim_standard.specs.Nets.{net_value}

-- With these drivers, the cycle gives a net the value of its source tree, in which each port has the value of its own sources.
abbrev pub HasNestedValue : List DriverState → SourceTree → Net → Type 0
HasNestedValue drivers t n = net_value drivers n ≡ nested (λ d. (driver_at drivers d).value) t
