-- The ports and signals that the branches of if statements read.
-- Implementation only: what `simulate` promises does not rest on this file.
use Rattle.std.specs.Prelude.{ℕ, List}
use Rattle.sim_flat_design.specs.declared.statement.Branch.{Branch}
use Rattle.sim_flat_design.specs.declared.statement.Statement.TheFolds as folds
use Rattle.sim_flat_design.specs.Bodies.{branch_objects_rule, statement_objects_rule}

-- the ports and signals that a branch of an if statement reads (10.8)
unfoldable pub branch_objects : Branch → List ℕ
branch_objects = folds.fold-Branch (List ℕ) (List ℕ) statement_objects_rule branch_objects_rule
