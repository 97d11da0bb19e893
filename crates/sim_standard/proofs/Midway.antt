-- The state at the end of a cycle is the one after its update, carried on.
use Rattle.std.proofs.Common.{◌≡◌, ℕ, zero, suc, option_map, refl, ap}
use Rattle.sim_flat_design.specs.Designs.{Design}
use Rattle.sim_standard.specs.Cycle.{cycle_end, ended, following, next_in, next_updated}
use Rattle.sim_standard.specs.Midway.{updated_in}

pub carried_on : (design : Design) (k : ℕ) → ended design k ≡ option_map (cycle_end design k) (updated_in design k)
unfolding ended
carried_on design zero = refl
carried_on design (suc k) = refl

pub next_carried_on : (design : Design) (k : ℕ) → next_in design k ≡ option_map (following design k) (updated_in design k)
next_carried_on design zero = refl
next_carried_on design (suc k) = refl

-- from one such state to the next
pub one_more : (design : Design) (k : ℕ) → updated_in design (suc k) ≡ next_updated design (option_map (cycle_end design k) (updated_in design k))
one_more design k = ap (next_updated design) (carried_on design k)
