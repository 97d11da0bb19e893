use Rattle.std.proofs.Common.{◌≡◌, List, true, subst, arith}
use Rattle.std.proofs.lemmas.Grind.{common_steps}
use Rattle.sim_flat_design.specs.declared.statement.Statement.{Statement}
use Rattle.sim_exec_code.specs.Fitting as spec
use Rattle.sim_exec_code.specs.Fitting.{waveforms_rise}
use Rattle.sim_exec_code.proofs.TimesRise.{branch_is}
use Rattle.sim_exec_code.proofs.rising.+rising.Goals as goal

pub branch_rises-returns : goal.branch_rises-returns
branch_rises-returns t c =
    branch_is c.args.branch.now (subst (λ (xs : List Statement). spec.waveforms_rise xs ≡ true) c.as_slice.ensures c.all_rise.ensures)

pub all_rise-loop-statement-preserved : goal.all_rise-loop-statement-preserved
unfolding waveforms_rise
all_rise-loop-statement-preserved t c = grind (arith, common_steps)

pub all_rise-returns : goal.all_rise-returns
unfolding waveforms_rise
all_rise-returns t c = grind (arith, common_steps)

pub branches_rise-loop-branch-preserved : goal.branches_rise-loop-branch-preserved
branches_rise-loop-branch-preserved t c = grind (arith, common_steps)

pub branches_rise-returns : goal.branches_rise-returns
branches_rise-returns t c = grind (arith, common_steps)
