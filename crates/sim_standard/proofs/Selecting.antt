-- What a statement selects leaves what the statement leaves.
use Rattle.std.proofs.Common.{ℕ, ◌≡◌, Bool, true, false, if◌then◌else◌, List, [], ◌∷◌, ◌++◌, Option, Some, None, map, refl, ap, sym, ◌∙◌}
use Rattle.sim_flat_design.specs.declared.held.Held.{Held}
use Rattle.sim_flat_design.specs.declared.expression.BooleanExpression.{BooleanExpression}
use Rattle.sim_flat_design.specs.declared.statement.ConditionalWaveform.{ConditionalWaveform}
use Rattle.sim_flat_design.specs.declared.statement.SignalAssignment.{SignalAssignment}
use Rattle.sim_flat_design.specs.declared.statement.Branch.{Branch}
use Rattle.sim_flat_design.specs.declared.statement.Statement.{Statement}
use Rattle.sim_flat_design.specs.declared.statement.Statement.TheOpen as s
use Rattle.sim_flat_design.specs.declared.statement.Statement.TheViews as views
use Rattle.sim_flat_design.specs.declared.statement.Statement.TheFolds as folds
use Rattle.sim_standard.specs.declared.net_view.NetView.{NetView}
use Rattle.sim_standard.specs.State.{State, Owned, owned_at}
use Rattle.sim_standard.specs.Expressions.{boolean_value, taken_waveform}
use Rattle.sim_standard.specs.Statements.{Steps, Guarded, in_turn, if_taken, statement_rule, branch_rule, statement_done, branch_done, carried_out, own_steps}
use Rattle.sim_standard.specs.Processes.{seen, state_steps}
use Rattle.sim_standard.proofs.Rules.{signal_done, branch_is}
use Rattle.sim_standard.specs.Interleaving.{taken_statements, selected_assignment, selected_rule, selected}

-- the assignment without a condition that a conditional one selects
abbrev pub unconditional : (ℕ → NetView) → List Held → SignalAssignment → SignalAssignment
unconditional look variables a = record a { conditional = []; otherwise = taken_waveform look variables a.conditional a.otherwise }

-- statements, and then others
pub carried-append : {S : Type 0} (steps : Steps S) (xs ys : List Statement) (x : S) → carried_out steps (xs ++ ys) x
    ≡ carried_out steps ys (carried_out steps xs x)
unfolding in_turn
carried-append steps [] ys x = refl
carried-append steps (y ∷ xs) ys x = carried-append steps xs ys (statement_done steps y x)

-- the steps use these values of conditions, and a signal assignment uses the waveform that they select
pub record Sees {S : Type 0} (steps : Steps S) (x : S) (look : ℕ → NetView) (variables : List Held) : Type 0 where
  pub holds : (c : BooleanExpression) → steps.holds c x ≡ boolean_value look variables c
  pub signal : (a : SignalAssignment) → steps.signal a x ≡ steps.signal (unconditional look variables a) x

pub own_sees : (look : ℕ → NetView) (now : ℕ) (own : Owned) → Sees (own_steps look now) own look own.variables
unfolding taken_waveform
own_sees look now own = record { holds = λ c. refl; signal = λ a. refl }

pub state_sees : (net : ℕ → ℕ) (process : ℕ) (s : State) → Sees (state_steps net process) s (seen net s) (owned_at s.owned process).variables
unfolding taken_waveform
state_sees net process s = record { holds = λ c. refl; signal = λ a. refl }

abbrev the_statements : Option (List Statement) → List Statement
the_statements None = []
the_statements (Some xs) = xs

module _ {S : Type 0} (steps : Steps S) (x : S) (look : ℕ → NetView) (variables : List Held) (sees : Sees steps x look variables) where
  taken_leaves : (bs : List Branch) (os : List Statement) → if_taken (map (branch_done steps) bs) (in_turn (map (statement_done steps) os)) x
      ≡ carried_out steps (taken_statements look variables bs os) x
  unfolding if_taken taken_statements
  taken_leaves [] os = refl
  taken_leaves (b ∷ bs) os =
      let inside : List Statement = (views.out-Branch b).statements in
      rw (branch_is steps b, sees.holds (views.out-Branch b).condition)
      (go (boolean_value look variables (views.out-Branch b).condition) inside (taken_leaves bs os))
    where
      go : (c : Bool) (inside : List Statement)
          → if_taken (map (branch_done steps) bs) (in_turn (map (statement_done steps) os)) x ≡ carried_out steps (taken_statements look variables bs os) x
          → (if c then in_turn (map (statement_done steps) inside) x else if_taken (map (branch_done steps) bs) (in_turn (map (statement_done steps) os)) x)
          ≡ carried_out steps (if c then inside else taken_statements look variables bs os) x
      go true inside rest = refl
      go false inside rest = rest

  assignment_leaves : (a : SignalAssignment) (cs : List ConditionalWaveform) (xs : List Statement) → selected_assignment look variables a cs ≡ Some xs
      → steps.signal a x ≡ carried_out steps xs x
  unfolding in_turn
  assignment_leaves a [] xs e = absurd cc
  assignment_leaves a (c ∷ cs) xs e =
      sees.signal a ∙ (sym (signal_done steps x (unconditional look variables a))
      ∙ ap (λ (ys : List Statement). carried_out steps ys x) (ap the_statements e))

  rule_leaves : (z : s.Statement-F Statement Branch) (xs : List Statement) → selected_rule look variables z ≡ Some xs
      → statement_rule steps (folds.map-Statement _ _ _ _ (statement_done steps) (branch_done steps) z) x ≡ carried_out steps xs x
  rule_leaves (s.Signal a) xs e = assignment_leaves a a.conditional xs e
  rule_leaves (s.LogicVariable n y) xs e = absurd cc
  rule_leaves (s.BooleanVariable n y) xs e = absurd cc
  rule_leaves (s.If bs os) xs e = taken_leaves bs os ∙ ap (λ (ys : List Statement). carried_out steps ys x) (ap the_statements e)
  rule_leaves s.Null xs e = absurd cc

  -- what is selected leaves the same
  pub selected_leaves : (y : Statement) (xs : List Statement) → selected look variables y ≡ Some xs → statement_done steps y x ≡ carried_out steps xs x
  unfolding statement_done branch_done
  selected_leaves y xs e =
      ap (λ (f : S → S). f x) (folds.fold_out-Statement (S → S) (Guarded S) (statement_rule steps) (branch_rule steps) y)
      ∙ rule_leaves (views.out-Statement y) xs e
