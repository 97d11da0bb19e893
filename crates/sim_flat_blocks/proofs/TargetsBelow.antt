-- The targets and the sensitivity of a process are in range if its names are.
use Rattle.std.proofs.Common.{◌≡◌, ℕ, true, List, [], ◌∷◌, map, Option, Some, None, sym, subst}
use Rattle.std.specs.List.{concat}
use Rattle.std.proofs.lemmas.Bool.{ltb-true}
use Rattle.sim_flat_scope.specs.declared.scope.Meaning.{Meaning}
use Rattle.sim_flat_scope.specs.declared.scope.Meaning.TheVariants as m
use Rattle.sim_flat_scope.specs.Scopes.{Lookup}
use Rattle.sim_text_tree.specs.Name.{Name}
use Rattle.sim_text_tree.specs.declared.sequential.Sequential.{Sequential}
use Rattle.sim_text_tree.specs.declared.sequential.Branch.{Branch}
use Rattle.sim_text_tree.specs.declared.sequential.Statement.{Statement}
use Rattle.sim_text_tree.specs.declared.sequential.Statement.TheOpen as o
use Rattle.sim_text_tree.specs.declared.sequential.Statement.TheFolds as folds
use Rattle.sim_text_tree.specs.declared.sequential.Statement.TheViews as views
use Rattle.sim_text_tree.specs.declared.unit.Sensitivity.{Sensitivity}
use Rattle.sim_text_tree.specs.declared.unit.Sensitivity.TheVariants as sensitivity
use Rattle.sim_flat_design.specs.declared.held.Held.{Held}
use Rattle.sim_flat_bodies.specs.Within.{AreWithin, is_within}
use Rattle.sim_flat_bodies.specs.Statements.{branch_targets, branch_targets_rule, gathered, sequence_targets, sequential_targets, sequential_targets_rule}
use Rattle.sim_flat_bodies.specs.Statements.{statement_targets, statement_targets_rule, target_of, targets_of}
use Rattle.sim_flat_blocks.specs.BlockProcesses.{AreListed, AreThere, listed, named_objects}
use Rattle.sim_flat_blocks.proofs.ReadsBelow.{Below, below_both, below_there, gathered_below}

module _ (count : ℕ) (vs : List Held) where
  target_below : (x : Option Meaning) → is_within count vs x ≡ true → Below count (target_of x)
  unfolding is_within target_of
  target_below None e = tt
  target_below (Some (m.Port object mode type)) e = (ltb-true object count e, tt)
  target_below (Some (m.Signal object type)) e = (ltb-true object count e, tt)
  target_below (Some (m.Variable place type)) e = tt
  target_below (Some (m.Component place)) e = tt
  target_below (Some m.Label) e = tt
  target_below (Some (m.LogicMark resolved)) e = tt
  target_below (Some m.BooleanMark) e = tt
  target_below (Some (m.Truth b)) e = tt
  target_below (Some (m.Edge rising)) e = tt

parts_below : {X : Type 0} (count : ℕ) (named : X → List ℕ) (qs : List ((x : X) × Below count (named x)))
    → Below count (concat (map named (map (λ q. q.0) qs)))
parts_below count named [] = tt
parts_below count named (q ∷ qs) = below_both count (named q.0) _ q.1 (parts_below count named qs)

module _ (look : Lookup) (count : ℕ) (vs : List Held) (within : AreWithin look count vs) where
  abbrev StatementKept : Statement → Type 0
  StatementKept x = Below count (statement_targets look x)

  abbrev BranchKept : Branch → Type 0
  BranchKept x = Below count (branch_targets look x)

  abbrev SequentialKept : Sequential → Type 0
  SequentialKept x = Below count (sequential_targets look x)

  abbrev StatementPart : Type 0
  StatementPart = (x : Statement) × StatementKept x

  abbrev BranchPart : Type 0
  BranchPart = (x : Branch) × BranchKept x

  abbrev SequentialPart : Type 0
  SequentialPart = (x : Sequential) × SequentialKept x

  statement_step : (z : o.Statement-F Statement Branch Sequential)
      → Below count (statement_targets_rule look
      (folds.map-Statement _ _ _ _ _ _ (statement_targets look) (branch_targets look) (sequential_targets look) z))
      → StatementKept (views.roll-Statement z)
  unfolding statement_targets branch_targets sequential_targets
  statement_step z h = subst (Below count) (sym (folds.fold-roll-Statement (List ℕ) (List ℕ) (List ℕ) (statement_targets_rule look)
      (branch_targets_rule look) (sequential_targets_rule look) z)) h

  branch_step : (z : o.Branch-F Statement Branch Sequential)
      → Below count (branch_targets_rule look
      (folds.map-Branch _ _ _ _ _ _ (statement_targets look) (branch_targets look) (sequential_targets look) z))
      → BranchKept (views.roll-Branch z)
  unfolding statement_targets branch_targets sequential_targets
  branch_step z h = subst (Below count) (sym (folds.fold-roll-Branch (List ℕ) (List ℕ) (List ℕ) (statement_targets_rule look)
      (branch_targets_rule look) (sequential_targets_rule look) z)) h

  sequential_step : (z : o.Sequential-F Statement Branch Sequential)
      → Below count (sequential_targets_rule look
      (folds.map-Sequential _ _ _ _ _ _ (statement_targets look) (branch_targets look) (sequential_targets look) z))
      → SequentialKept (views.roll-Sequential z)
  unfolding statement_targets branch_targets sequential_targets
  sequential_step z h = subst (Below count) (sym (folds.fold-roll-Sequential (List ℕ) (List ℕ) (List ℕ) (statement_targets_rule look)
      (branch_targets_rule look) (sequential_targets_rule look) z)) h

  statement_parts : (y : o.Statement-F StatementPart BranchPart SequentialPart)
      → StatementKept (views.roll-Statement
      (folds.map-Statement _ _ _ _ _ _ (λ (q : StatementPart). q.0) (λ (q : BranchPart). q.0) (λ (q : SequentialPart). q.0) y))
  statement_parts (o.Signal a) = statement_step (o.Signal a) (target_below count vs (look a.target.text) (within a.target.text))
  statement_parts (o.Variable a) = statement_step (o.Variable a) tt
  statement_parts (o.If bs None again) = statement_step (o.If (map (λ (q : BranchPart). q.0) bs) None again)
      (below_both count _ [] (parts_below count (branch_targets look) bs) tt)
  statement_parts (o.If bs (Some xs) again) =
      statement_step (o.If (map (λ (q : BranchPart). q.0) bs) (Some (map (λ (q : SequentialPart). q.0) xs)) again)
      (below_both count _ _ (parts_below count (branch_targets look) bs) (parts_below count (sequential_targets look) xs))
  statement_parts o.Null = statement_step o.Null tt

  branch_parts : (y : o.Branch-F StatementPart BranchPart SequentialPart)
      → BranchKept (views.roll-Branch
      (folds.map-Branch _ _ _ _ _ _ (λ (q : StatementPart). q.0) (λ (q : BranchPart). q.0) (λ (q : SequentialPart). q.0) y))
  branch_parts y = branch_step (record { condition = y.condition; statements = map (λ (q : SequentialPart). q.0) y.statements })
      (parts_below count (sequential_targets look) y.statements)

  sequential_parts : (y : o.Sequential-F StatementPart BranchPart SequentialPart)
      → SequentialKept (views.roll-Sequential
      (folds.map-Sequential _ _ _ _ _ _ (λ (q : StatementPart). q.0) (λ (q : BranchPart). q.0) (λ (q : SequentialPart). q.0) y))
  sequential_parts y = sequential_step (record { label = y.label; statement = y.statement.0 }) y.statement.1

  sequential_below : (x : Sequential) → SequentialKept x
  sequential_below = folds.ind-Sequential StatementKept BranchKept SequentialKept
      (λ x y is. subst (λ z. StatementKept (views.roll-Statement z)) is (statement_parts y))
      (λ x y is. subst (λ z. BranchKept (views.roll-Branch z)) is (branch_parts y))
      (λ x y is. subst (λ z. SequentialKept (views.roll-Sequential z)) is (sequential_parts y))

  sequence_below : (xs : List Sequential) → Below count (sequence_targets look xs)
  unfolding sequence_targets
  sequence_below [] = tt
  sequence_below (x ∷ xs) = below_both count (sequential_targets look x) (sequence_targets look xs) (sequential_below x) (sequence_below xs)

  pub targets_there : (xs : List Sequential) → AreThere count (targets_of look xs)
  unfolding targets_of
  targets_there xs = below_there count _ (gathered_below count [] (sequence_targets look xs) tt (sequence_below xs))

  pub target_there : (n : List ℕ) → AreThere count (gathered [] (target_of (look n)))
  target_there n = below_there count _ (gathered_below count [] (target_of (look n)) tt (target_below count vs (look n) (within n)))

  named_below : (ns : List Name) → Below count (named_objects look ns)
  unfolding named_objects
  named_below [] = tt
  named_below (n ∷ ns) =
      below_both count (target_of (look n.text)) (named_objects look ns) (target_below count vs (look n.text) (within n.text)) (named_below ns)

  pub named_there : (ns : List Name) → AreThere count (named_objects look ns)
  named_there ns = below_there count _ (named_below ns)

  pub listed_there : (s : Sensitivity) → AreListed count (listed look s)
  unfolding listed
  listed_there sensitivity.All = tt
  listed_there (sensitivity.Names ns) = named_there ns
