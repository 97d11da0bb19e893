-- The processes of one cycle executed together, each on its own part of the state (IEEE 1076-2008, 14.7.5.3). A store executes them so; by law that is the same
-- as one after another.
use Rattle.std.specs.Prelude.{ℕ, zero, suc, List, [], ◌∷◌, Bool, if◌then◌else◌, Option, Some, option_map}
use Rattle.sim_flat_design.specs.Processes.{Process}
use Rattle.sim_flat_design.specs.Designs.{Design}
use Rattle.sim_standard.specs.State.{State, Owned}
use Rattle.sim_standard.specs.Processes.{part, owned_after, process_at}
use Rattle.sim_standard.specs.Initialization.{first_state}
use Rattle.sim_standard.specs.Cycle.{next_updated, is_at_once, is_delta_next, is_waiting, processes_where}

-- what each process owns, from a number on: those in a set their results, the others what they had
unfoldable pub merged : (ℕ → Bool) → (ℕ → Owned) → ℕ → List Owned → List Owned
merged set results n [] = []
merged set results n (own ∷ owned) = (if set n then results n else own) ∷ merged set results (suc n) owned

-- each process of a set on its own part of one state
abbrev pub together : List Process → (ℕ → Bool) → State → State
together processes set s = record s { owned = merged set (λ p. owned_after (process_at processes p) (part (process_at processes p) p s)) 0 s.owned }

-- the state at the end of a cycle: f.3) the resumed processes that are not postponed, and h.4) the postponed ones that wait, unless a delta cycle follows
abbrev pub cycle_end_together : Design → ℕ → State → State
cycle_end_together design cycles s =
    let x = together design.processes (is_at_once design cycles s) s in
    if is_delta_next cycles x then record x { waiting = processes_where design (is_waiting design cycles s) }
    else record (together design.processes (is_waiting design cycles s) x) { waiting = [] }

-- the state at the end of a number of cycles whose processes are executed together
unfoldable pub parallel : Design → ℕ → Option State
parallel design zero = Some (cycle_end_together design 0 (first_state design))
parallel design (suc cycles) = option_map (cycle_end_together design (suc cycles)) (next_updated design (parallel design cycles))
