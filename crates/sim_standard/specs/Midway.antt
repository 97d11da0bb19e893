-- The cut that a store uses: after the update of a cycle, before its executions (IEEE 1076-2008, 14.7.5.3 d). By law, carried on it is the end of the cycle.
-- `simulate` does not rest on this file; what a store shows under a lock does.
use Rattle.std.specs.Prelude.{ℕ, zero, suc, Option, Some}
use Rattle.sim_flat_design.specs.Designs.{Design}
use Rattle.sim_standard.specs.State.{State}
use Rattle.sim_standard.specs.Initialization.{first_state}
use Rattle.sim_standard.specs.Cycle.{next_updated, ended}

-- the state after the update of the last of a number of cycles, if there are that many
abbrev pub updated_in : Design → ℕ → Option State
updated_in design zero = Some (first_state design)
updated_in design (suc cycles) = next_updated design (ended design cycles)
