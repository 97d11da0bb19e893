-- Names of what the definitions write out. Each is equal to its text by definition.
use Rattle.std.specs.Prelude.{ℕ, ◌+◌, List, [], Option, Some, false, not, Bool, map, zip, slice_set}
use Rattle.std.specs.Option.{option_map_or}
use Rattle.sim_logic.specs.declared.logic.Logic.{Logic}
use Rattle.sim_logic.specs.declared.logic.Logic.TheVariants.{U}
use Rattle.sim_logic.specs.Logic.{is_same}
use Rattle.sim_flat_design.specs.declared.statement.Delay.{Delay}
use Rattle.sim_flat_design.specs.declared.waveform.Element.{Element}
use Rattle.sim_flat_design.specs.Processes.{Process}
use Rattle.sim_flat_design.specs.Designs.{Design, Net}
use Rattle.sim_standard.specs.declared.net_view.NetView.{NetView}
use Rattle.sim_standard.specs.declared.record.Record.{Record}
use Rattle.sim_standard.specs.Drivers.{DriverState, Transaction, taken}
use Rattle.sim_standard.specs.State.{State, Owned, driver_at}
use Rattle.sim_standard.specs.Nets.{net_value}
use Rattle.sim_standard.specs.Expressions.{element_values}
use Rattle.sim_standard.specs.Statements.{assigned}
use Rattle.sim_standard.specs.Processes.{process_at}
use Rattle.sim_standard.specs.Initialization.{first_state}
use Rattle.sim_standard.specs.Records.{changes_from, values_of}

-- ---- what stands beyond the ends of lists

abbrev pub no_driver : DriverState
no_driver = record { value = U; pending = [] }

abbrev pub no_net : NetView
no_net = record { value = U; event = false; before = U }

abbrev pub nothing_owned : Owned
nothing_owned = record { drivers = []; variables = [] }

abbrev pub no_process : Process
no_process = record {
  sensitivity = [];
  reads = [];
  nets = [];
  first_driver = 0;
  postponed = false;
  body = record { objects = 0; drivers = 0; variables = []; statements = [] };
}

-- ---- states

-- with one process owning this
abbrev pub with_owned : ℕ → Owned → State → State
with_owned process own s = record s { owned = slice_set s.owned process own }

-- with these waiting
abbrev pub with_waiting : List ℕ → State → State
with_waiting ps s = record s { waiting = ps }

-- what a process owns after its active drivers have taken their transactions
abbrev pub own_taken : ℕ → Owned → Owned
own_taken time o = record o { drivers = map (taken time) o.drivers }

abbrev pub is_postponed : Design → ℕ → Bool
is_postponed design p = (process_at design.processes p).postponed

-- ---- nets

-- at first
abbrev pub net_started : List DriverState → Net → NetView
net_started drivers net = let value = net_value drivers net in record { value = value; event = false; before = value }

-- after an update
abbrev pub net_updated : List DriverState → Net × NetView → NetView
net_updated drivers n = let value = net_value drivers n.0 in record { value = value; event = not (is_same n.1.value value); before = n.1.value }

abbrev pub nets_updated : List DriverState → List Net → List NetView → List NetView
nets_updated drivers nets olds = map (net_updated drivers) (zip nets olds)

-- ---- records

abbrev pub numbered_value : ℕ × NetView → ℕ × Logic
numbered_value n = (n.0, n.1.value)

abbrev pub first_record : Design → Record
first_record design = record { time = 0; delta = 0; changes = values_of (first_state design).nets }

abbrev pub record_with : ℕ → ℕ → List NetView → Record
record_with time delta nets = record { time = time; delta = delta; changes = changes_from 0 nets }

abbrev pub record_of : State → Record
record_of s = record_with s.time s.delta s.nets

-- a change gives a net its value, whatever the value before
abbrev pub changed : Option Logic → ℕ × Logic → Option Logic
changed before change = Some change.1

-- ---- assignments

-- the elements of a waveform as new transactions, each at the present time plus its delay
abbrev pub scheduled : ℕ → List Transaction → List Transaction
scheduled now elements = map (λ (e : Transaction). (now + e.0, e.1)) elements

-- after the selected waveform, if there is one, has been assigned to the driver at a place
abbrev pub waveform_assigned : (ℕ → NetView) → ℕ → ℕ → Delay → Option (List Element) → Owned → Owned
waveform_assigned look now place mechanism waveform own = option_map_or
    (λ (elements : List Element).
    let driver = assigned now mechanism (element_values look own.variables elements) (driver_at own.drivers place) in
    record own { drivers = slice_set own.drivers place driver })
    waveform own
