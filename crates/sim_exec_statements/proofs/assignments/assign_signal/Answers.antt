use Rattle.std.proofs.Common.{ap, arith}
use Rattle.std.proofs.lemmas.Grind.{common_steps}
use Rattle.std.proofs.Math.Seq.{map-set_same}
use Rattle.sim_standard.specs.Drivers.{DriverState}
use Rattle.sim_exec_statements.proofs.Fits.{driver_within}
use Rattle.sim_exec_statements.proofs.assignments.assign_signal.Goals as goal

pub returns-in-len1-clause-values : goal.returns-in-len1-clause-values
returns-in-len1-clause-values g c =
    map-set_same (λ (d : DriverState). d.value) c.args.drivers.now c.args.assignment.now.driver c.edit.new.self c.index-drivers-assignment.result
    (ap (λ (d : DriverState). d.value) c.in_ok-edit.ensures.ok)

pub returns-clause-values : goal.returns-clause-values
returns-clause-values g c =
    map-set_same (λ (d : DriverState). d.value) c.args.drivers.now c.args.assignment.now.driver c.assign.new.driver c.index-drivers-assignment.result
    c.assign.ensures.value

pub way_copy_out-elements : goal.way_copy_out-elements
way_copy_out-elements g c = grind (arith, common_steps, driver_within)

pub element_value-element-requires : goal.element_value-element-requires
element_value-element-requires g c = grind (arith, common_steps, driver_within)

pub delay-requires : goal.delay-requires
delay-requires g c = grind (arith, common_steps, driver_within)

pub slice_bounds-edit-end : goal.slice_bounds-edit-end
slice_bounds-edit-end g c = grind (arith, common_steps, driver_within)

pub returns-in_err-edit : goal.returns-in_err-edit
returns-in_err-edit g c = grind (arith, common_steps, driver_within)
