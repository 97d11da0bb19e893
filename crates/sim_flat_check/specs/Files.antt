-- The faults of a design file (IEEE 1076-2008, 13.1): those of all its units, elaborated or not.
use Rattle.std.specs.Prelude.{List, ◌++◌}
use Rattle.sim_flat_scope.specs.declared.fault.Fault.{Fault}
use Rattle.sim_flat_instances.specs.Libraries.{Library}
use Rattle.sim_flat_check.specs.Entities.{entities_faults}
use Rattle.sim_flat_check.specs.Architectures.{architectures_faults}

-- the faults of the units of a file
unfoldable pub file_faults : Library → List Fault
file_faults l = entities_faults l.entities ++ architectures_faults l l.architectures
