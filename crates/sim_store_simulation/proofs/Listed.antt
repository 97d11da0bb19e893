-- Which processes have been executed in a phase.
use Rattle.std.proofs.Common.{ℕ, ◌≡◌, Bool, true, false, List, set, refl, ap, sym, ◌∙◌, subst}
use Rattle.sim_flat_design.specs.Designs.{Design}
use Rattle.sim_store_state.specs.FlatState.{FlatState}
use Rattle.sim_store_simulation.specs.declared.simulation.Contents.{Contents}
use Rattle.sim_store_simulation.specs.Contents.{IsOf, IsWith, executed_of, simulation_of}
use Rattle.sim_store_simulation.specs.Simulation.{IsComplete, IsMissing, IsStateOf, those_in}

-- ---- by the flag

-- where it is set, all due processes have been executed
pub executed-due : (flag : Bool) (due marks : List Bool) → flag ≡ true → executed_of flag due marks ≡ due
executed-due flag due marks e = ap (λ (b : Bool). executed_of b due marks) e

-- where it is not, the marked ones have been
pub executed-marked : (flag : Bool) (due marks : List Bool) → flag ≡ false → executed_of flag due marks ≡ marks
executed-marked flag due marks e = ap (λ (b : Bool). executed_of b due marks) e

-- so these are what has been executed
pub marked-of : (design : Design) (m : Contents) → m.all_executed ≡ false → IsOf design m → IsWith design m m.deposited
marked-of design m flag of = subst (λ (executed : List Bool). IsWith design m executed) (executed-marked m.all_executed m.due m.deposited flag) of

-- where the flag is set, none is missing
pub all-complete : (design : Design) (m : Contents) {time delta : ℕ} {held : FlatState} {waiting : List Bool}
    → IsStateOf (simulation_of design m) time delta held m.due waiting → m.all_executed ≡ true → IsComplete (simulation_of design m)
all-complete design m i flag p lt resumed =
    ap (λ (executed : List Bool). those_in executed p) (executed-due m.all_executed m.due m.deposited flag) ∙ (i.due_are p lt ∙ resumed)

-- while a process is missing, the flag is not set
module _ (design : Design) (m : Contents) {time delta : ℕ} {held : FlatState} {waiting : List Bool}
    (i : IsStateOf (simulation_of design m) time delta held m.due waiting) (number : ℕ) (missing : IsMissing (simulation_of design m) number) where
  pub marked-yet : m.all_executed ≡ false
  marked-yet = go m.all_executed refl
    where
      go : (b : Bool) → m.all_executed ≡ b → b ≡ false
      go false e = refl
      go true e =
          let is_due : those_in m.due number ≡ true = i.due_are number missing.due.number ∙ missing.due.resumed in
          let fresh : those_in m.due number ≡ false =
          ap (λ (executed : List Bool). those_in executed number) (sym (executed-due m.all_executed m.due m.deposited e)) ∙ missing.fresh in
          absurd (cc (is_due, fresh))

  -- so a process that is marked has been executed
  pub marked-one : (marks : List Bool) → marks ≡ set m.deposited number true
      → executed_of m.all_executed m.due marks ≡ set (executed_of m.all_executed m.due m.deposited) number true
  marked-one marks e =
      executed-marked m.all_executed m.due marks marked-yet
      ∙ (e ∙ ap (λ (executed : List Bool). set executed number true) (sym (executed-marked m.all_executed m.due m.deposited marked-yet)))
