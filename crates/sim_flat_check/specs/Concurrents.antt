-- The faults of the statements of an architecture (IEEE 1076-2008, 11).
use Rattle.std.specs.Prelude.{List, [], ◌∷◌, ◌++◌}
use Rattle.sim_text_tree.specs.declared.unit.Process.{Process}
use Rattle.sim_text_tree.specs.declared.unit.Concurrent.{Concurrent}
use Rattle.sim_text_tree.specs.declared.unit.Concurrent.TheVariants as concurrent
use Rattle.sim_flat_scope.specs.declared.fault.Fault.{Fault}
use Rattle.sim_flat_scope.specs.Scopes.{Region, Lookup, means}
use Rattle.sim_flat_scope.specs.Regions.{process_region}
use Rattle.sim_flat_scope.specs.DeclarationFaults.{process_faults}
use Rattle.sim_flat_check.specs.Statements.{concurrent_assignment_faults, sensitivity_faults, sequence_faults}
use Rattle.sim_flat_instances.specs.declared.component.Component.{Component}
use Rattle.sim_flat_instances.specs.Libraries.{Library}
use Rattle.sim_flat_instances.specs.Instances.{instance_faults}

-- the faults of the sensitivity list and of the statements of a process
abbrev pub execution_faults : Lookup → Process → List Fault
execution_faults look p = sensitivity_faults look p.sensitivity ++ sequence_faults look p.statements

-- The faults of a process (11.3), in which its own names are visible, and then those of its architecture.
unfoldable pub process_statement_faults : Region → Process → List Fault
process_statement_faults region p =
    let own = process_region region p in
    process_faults own region p ++ execution_faults (means own region) p

-- the faults of a statement in the region of an architecture with these components
unfoldable pub statement_faults : Library → Region → List Component → Concurrent → List Fault
statement_faults l region components (concurrent.Assignment a) = concurrent_assignment_faults (means region []) a
statement_faults l region components (concurrent.Process p) = process_statement_faults region p
statement_faults l region components (concurrent.Instance i) = instance_faults l (means region []) components i

-- the faults of each statement
unfoldable pub statements_faults : Library → Region → List Component → List Concurrent → List Fault
statements_faults l region components [] = []
statements_faults l region components (c ∷ cs) = statement_faults l region components c ++ statements_faults l region components cs
