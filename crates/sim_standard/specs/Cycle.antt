-- The simulation cycle of a design (IEEE 1076-2008, 14.7.5.3), its steps by the standard's letters, and the cycles of a run, one after another. Left out are
-- call-backs (b), PSL (e), implicit signals (14.7.4), force and release, and time-outs of processes.
use Rattle.std.specs.Prelude.{ℕ, zero, suc, ◌+◌, ◌==◌, ◌&&◌, ◌||◌, not, List, [], Bool, if◌then◌else◌, Option, Some, option_and_then, option_map}
use Rattle.std.specs.Prelude.{map, filter, zip, length}
use Rattle.std.specs.List.{list_any, range_with_len}
use Rattle.std.specs.Option.{option_eq, option_map_or}
use Rattle.sim_logic.specs.Logic.{is_same}
use Rattle.sim_flat_design.specs.Designs.{Design, Net}
use Rattle.sim_standard.specs.declared.net_view.NetView.{NetView}
use Rattle.sim_standard.specs.Drivers.{taken, next_time}
use Rattle.sim_standard.specs.State.{State, Owned, net_at, all_drivers}
use Rattle.sim_standard.specs.Nets.{net_value}
use Rattle.sim_standard.specs.Processes.{process_at}
use Rattle.sim_standard.specs.Orders.{is_among, one_by_one}
use Rattle.sim_standard.specs.Initialization.{first_state}

-- ---- a), c), d): the time is set, drivers and nets are updated

-- a) The current time becomes that of the next cycle; the delta number is our own. c) Each active driver takes its transaction of that time (14.7.2). d) Each
-- net has the value of its sources, and an event if that is a new value (14.7.3.4); its value `before`, our own, is that before this cycle. The standard
-- updates only the nets with active drivers. That is the same: of any other net no source has a new value, so it keeps its value and has no event.
abbrev pub updated : Design → State → ℕ → State
updated design s time =
    let owned : List Owned = map (λ (o : Owned). record o { drivers = map (taken time) o.drivers }) s.owned in
    record {
      time = time;
      delta = if time == s.time then s.delta + 1 else 0;
      nets = map (λ (n : Net × NetView).
          let value = net_value (all_drivers owned) n.0 in
          record { value = value; event = not (is_same n.1.value value); before = n.1.value }) (zip design.nets s.nets);
      owned = owned;
      waiting = s.waiting;
    }

-- ---- f): processes resume, and those that are not postponed are executed

-- the numbers of the processes that pass a test, rising
abbrev pub processes_where : Design → (ℕ → Bool) → List ℕ
processes_where design test = filter test (range_with_len 0 (length design.processes))

-- f.2) whether the process with a number resumes after this number of cycles: at first each does (14.7.5.2), later each sensitive to a net with an event
abbrev pub is_resumed : Design → ℕ → State → ℕ → Bool
is_resumed design cycles s p = (cycles == 0) || list_any (λ (n : ℕ). (net_at s.nets n).event) (process_at design.processes p).sensitivity

-- f.3) whether it is executed at once: it is not postponed
abbrev pub is_at_once : Design → ℕ → State → ℕ → Bool
is_at_once design cycles s p = is_resumed design cycles s p && not (process_at design.processes p).postponed

-- the state once these have been executed, one after another
abbrev pub first_executed : Design → ℕ → State → State
first_executed design cycles s = one_by_one design.processes (processes_where design (is_at_once design cycles s)) s

-- ---- g), h): postponed processes are executed, unless a delta cycle follows

-- g) The time of the next cycle is calculated; if it is the present one, a delta cycle follows, for which postponed processes wait. The initialization
-- executes them in any case (14.7.5.2); our own is that a zero delay of a postponed process is no error there.
abbrev pub is_delta_next : ℕ → State → Bool
is_delta_next cycles s = not (cycles == 0) && option_eq ◌==◌ (next_time (all_drivers s.owned)) (Some s.time)

-- h) whether a process is postponed and has resumed, in this cycle or before, without being executed since
abbrev pub is_waiting : Design → ℕ → State → ℕ → Bool
is_waiting design cycles s p = (process_at design.processes p).postponed && (is_resumed design cycles s p || is_among s.waiting p)

-- the state at the end of the cycle: if a delta cycle follows they wait on, else h.4) they are executed, one after another
abbrev pub cycle_end : Design → ℕ → State → State
cycle_end design cycles s =
    let x = first_executed design cycles s in
    let ps = processes_where design (is_waiting design cycles s) in
    if is_delta_next cycles x then record x { waiting = ps } else record (one_by_one design.processes ps x) { waiting = [] }

-- h.5) The time of the next cycle is calculated again; whether a postponed process has caused a delta cycle, which is an error
abbrev pub has_postponed_delta : Design → ℕ → State → Bool
has_postponed_delta design cycles s = not (is_delta_next cycles (first_executed design cycles s)) && is_delta_next cycles (cycle_end design cycles s)

-- ---- from one cycle to the next

-- the state after a) to d) of the next cycle, if there is one: from the end of a cycle, at the time that g) or h.5) calculates
abbrev pub next_updated : Design → Option State → Option State
next_updated design end = option_and_then (λ (s : State). option_map (updated design s) (next_time (all_drivers s.owned))) end

-- The state at the end of a number of cycles, if there are that many. It goes on after an error too: a run ends there by its outcome.
unfoldable pub ended : Design → ℕ → Option State
ended design zero = Some (cycle_end design 0 (first_state design))
ended design (suc cycles) = option_map (cycle_end design (suc cycles)) (next_updated design (ended design cycles))

-- What follows a cycle: nothing, as nothing is pending; a cycle at a time; or the error that a postponed process has caused a delta cycle.
pub data Following : Type 0 where
  NothingPending : Following
  CycleAt : ℕ → Following
  PostponedDelta : Following

-- what follows the cycle that was updated to this state
abbrev pub following : Design → ℕ → State → Following
following design cycles s =
    if has_postponed_delta design cycles s then PostponedDelta
    else option_map_or CycleAt (next_time (all_drivers (cycle_end design cycles s).owned)) NothingPending

-- what follows a number of cycles, if there are that many
abbrev pub next_in : Design → ℕ → Option Following
next_in design zero = Some (following design 0 (first_state design))
next_in design (suc cycles) = option_map (following design (suc cycles)) (next_updated design (ended design cycles))
