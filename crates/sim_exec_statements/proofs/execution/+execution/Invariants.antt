use Rattle.std.proofs.Common.{◌≡◌, map, drop}
use Rattle.sim_exec_statements.specs.Ready.{IsReady}
use Rattle.sim_standard.specs.State.{Owned, driver_values}
use Rattle.sim_standard.specs.Statements.{own_steps, statement_done, branch_done, in_turn, if_taken}
use Rattle.sim_exec_statements.proofs.execution.+execution.Given as goal

-- the remaining statements, carried out now, leave what all leave when carried out from the start
abbrev pub invariant-execute_all-loop-statement : goal.invariant-execute_all-loop-statement
invariant-execute_all-loop-statement g l =
    let done = map (statement_done (own_steps (g.N.Nets.look l.nets) l.now)) in
    let own : Owned = record { drivers = l.drivers; variables = l.variables } in
    let first : Owned = record { drivers = l.fn.drivers; variables = l.fn.variables } in
    record {
      same : in_turn (done (drop l.statement-index l.statements)) own ≡ in_turn (done l.fn.statements) first;
      ready : IsReady l.body l.now own;
      values : driver_values own.drivers ≡ driver_values first.drivers;
    }

-- no branch so far is taken, and nothing is changed
abbrev pub invariant-execute_branches-loop-branch : goal.invariant-execute_branches-loop-branch
invariant-execute_branches-loop-branch g l =
    let done = map (branch_done (own_steps (g.N.Nets.look l.nets) l.now)) in
    let own : Owned = record { drivers = l.drivers; variables = l.variables } in
    let first : Owned = record { drivers = l.fn.drivers; variables = l.fn.variables } in
    record {
      same : (otherwise : Owned → Owned) → if_taken (done (drop l.branch-index l.branches)) otherwise own ≡ if_taken (done l.fn.branches) otherwise first;
      ready : IsReady l.body l.now own;
      values : driver_values own.drivers ≡ driver_values first.drivers;
    }
