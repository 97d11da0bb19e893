-- The execution of a process (IEEE 1076-2008, 11.3, 14.7.5), on the whole state and on its own part.
use Rattle.std.specs.Prelude.{ℕ, ◌+◌, ◌==◌, false, List, [], ◌∷◌, if◌then◌else◌, map, slice_index_or, slice_set}
use Rattle.sim_flat_design.specs.Processes.{Process}
use Rattle.sim_standard.specs.declared.net_view.NetView.{NetView}
use Rattle.sim_standard.specs.State.{State, Owned, net_at, owned_at}
use Rattle.sim_standard.specs.Expressions.{boolean_value}
use Rattle.sim_standard.specs.Statements.{Steps, carried_out, own_steps}

-- the process with a number; beyond the last, one that does nothing
abbrev pub process_at : List Process → ℕ → Process
process_at processes n = slice_index_or processes n (record {
  sensitivity = [];
  reads = [];
  nets = [];
  first_driver = 0;
  postponed = false;
  body = record { objects = 0; drivers = 0; variables = []; statements = [] };
})

-- ---- on a state: which net each port and signal of a body is, and the number of its process

-- what the process sees of its ports and signals
abbrev pub seen : (ℕ → ℕ) → State → ℕ → NetView
seen net s object = net_at s.nets (net object)

module _ (net : ℕ → ℕ) (process : ℕ) where
  -- a step on the state: the process owns at once what the step leaves
  abbrev pub stepped : ((ℕ → NetView) → ℕ → Owned → Owned) → State → State
  stepped step s = record s { owned = slice_set s.owned process (step (seen net s) s.time (owned_at s.owned process)) }

  -- the steps of statements on a state
  abbrev pub state_steps : Steps State
  state_steps = record {
    holds = λ condition s. boolean_value (seen net s) (owned_at s.owned process).variables condition;
    signal = λ a. stepped (λ look now. (own_steps look now).signal a);
    logic_variable = λ place value. stepped (λ look now. (own_steps look now).logic_variable place value);
    boolean_variable = λ place value. stepped (λ look now. (own_steps look now).boolean_variable place value);
  }

-- ---- on the whole state

-- the net of a port or signal
abbrev pub object_net : Process → ℕ → ℕ
object_net process object = slice_index_or process.nets object 0

-- the state after the process with a number has been executed until it suspends
unfoldable pub meaning : Process → ℕ → State → State
meaning process number s = carried_out (state_steps (object_net process) number) process.body.statements s

-- ---- on its part

-- the part of a state that a process sees: the time, the nets that it reads, and what it owns
abbrev pub part : Process → ℕ → State → State
part process number s =
    record { time = s.time; delta = 0; nets = map (net_at s.nets) process.reads; owned = owned_at s.owned number ∷ []; waiting = [] }

-- the place of a number in a list
unfoldable pub place_in : List ℕ → ℕ → ℕ
place_in [] n = 0
place_in (m ∷ ms) n = if m == n then 0 else place_in ms n + 1

-- what a process owns after it has been executed on a part
unfoldable pub owned_after : Process → State → Owned
owned_after process s =
    owned_at (carried_out (state_steps (λ object. place_in process.reads (object_net process object)) 0) process.body.statements s).owned 0
