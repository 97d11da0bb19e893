use Rattle.std.proofs.Common.{◌≡◌, drop, map}
use Rattle.sim_flat_design.specs.Bodies.{all}
use Rattle.sim_exec_code.specs.Fitting as spec
use Rattle.sim_exec_code.proofs.rising.+rising.Given as goal

abbrev pub invariant-branches_rise-loop-branch : goal.invariant-branches_rise-loop-branch
invariant-branches_rise-loop-branch l = all (map spec.branch_rises (drop l.branch-index l.branches)) ≡ all (map spec.branch_rises l.branches)

abbrev pub invariant-all_rise-loop-statement : goal.invariant-all_rise-loop-statement
invariant-all_rise-loop-statement l = all (map spec.statement_rises (drop l.statement-index l.statements)) ≡ all (map spec.statement_rises l.statements)
