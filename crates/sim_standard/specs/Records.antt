-- What is recorded of a run: the time of each cycle, and what it changed (IEEE 1076-2008, 14.7.3.4).
use Rattle.std.specs.Prelude.{ℕ, zero, suc, ◌<◌, List, [], ◌∷◌, ◌++◌, length, map, filter, flat_map, sum_by, drop, option_to_list}
use Rattle.std.specs.List.{All, enumerate_from}
use Rattle.sim_logic.specs.declared.logic.Logic.{Logic}
use Rattle.sim_flat_design.specs.Designs.{Design}
use Rattle.sim_standard.specs.declared.net_view.NetView.{NetView}
use Rattle.sim_standard.specs.declared.record.Record.{Record}
use Rattle.sim_standard.specs.State.{State}
use Rattle.sim_standard.specs.Initialization.{first_state}
use Rattle.sim_standard.specs.Cycle.{ended}

-- each net, by number, with its value
abbrev pub values_of : List NetView → List (ℕ × Logic)
values_of nets = map (λ (n : ℕ × NetView). (n.0, n.1.value)) (enumerate_from 0 nets)

-- each net with an event, with its new value, in net order, numbering the nets from this one on
abbrev pub changes_from : ℕ → List NetView → List (ℕ × Logic)
changes_from number nets = map (λ (n : ℕ × NetView). (n.0, n.1.value)) (filter (λ (n : ℕ × NetView). n.1.event) (enumerate_from number nets))

-- the records of the initialization, which has every net, and of a number of cycles, as far as there are cycles. Executions change neither time nor nets.
unfoldable pub records_to : Design → ℕ → List Record
records_to design zero = record { time = 0; delta = 0; changes = values_of (first_state design).nets } ∷ []
records_to design (suc cycles) =
    records_to design cycles ++ map (λ (s : State). record { time = s.time; delta = s.delta; changes = changes_from 0 s.nets })
    (option_to_list (ended design (suc cycles)))

-- the changes of all records
abbrev pub all_changes : List Record → List (ℕ × Logic)
all_changes records = flat_map (λ (r : Record). r.changes) records

-- the number of changes in the cycles after the initialization
abbrev pub event_count : List Record → ℕ
event_count records = sum_by (λ (r : Record). length r.changes) (drop 1 records)

-- Each change is of a net that has a name.
abbrev pub IsNamed : ℕ → Record → Type 0
IsNamed nets r = All (λ (c : ℕ × Logic). c.0 < nets) r.changes
