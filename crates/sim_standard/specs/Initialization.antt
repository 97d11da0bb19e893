-- The initialization of a design (IEEE 1076-2008, 14.7.5.2): its state before any process is executed.
use Rattle.std.specs.Prelude.{[], List, false, map, take, drop}
use Rattle.sim_flat_design.specs.declared.design.DriverOf.{DriverOf}
use Rattle.sim_flat_design.specs.Processes.{Process}
use Rattle.sim_flat_design.specs.Designs.{Design, Net}
use Rattle.sim_standard.specs.State.{State, Owned, all_drivers}
use Rattle.sim_standard.specs.Nets.{net_value}

-- what a process owns at first: its drivers, with nothing pending, and its variables, with their initial values
abbrev pub first_owned : List DriverOf → Process → Owned
first_owned drivers p = record {
  drivers = map (λ (d : DriverOf). record { value = d.first; pending = [] }) (take p.body.drivers (drop p.first_driver drivers));
  variables = p.body.variables;
}

-- the time is 0, each driver and variable has its initial value, each net the value of its sources, and no process waits
abbrev pub first_state : Design → State
first_state design =
    let owned = map (first_owned design.drivers) design.processes in
    record {
      time = 0;
      delta = 0;
      nets = map (λ (n : Net). let value = net_value (all_drivers owned) n in record { value = value; event = false; before = value }) design.nets;
      owned = owned;
      waiting = [];
    }
