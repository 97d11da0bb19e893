use Rattle.std.proofs.Common.{rules, ◌≡◌, true, sym, ◌∙◌, subst}
use Rattle.sim_flat_design.specs.declared.statement.Statement.{Statement, the_lemmas}
use Rattle.sim_flat_design.specs.declared.statement.Branch.{Branch}
use Rattle.sim_flat_design.specs.Bodies.{branch_fits, statement_fits}
use Rattle.sim_standard.specs.State.{Owned}
use Rattle.sim_standard.specs.Statements.{own_steps}
use Rattle.sim_exec_statements.proofs.Fits.{FitAll, FitBranches, branch_statements_fit, if_fits}
use Rattle.sim_exec_statements.proofs.Branches.{taken_now, not_taken}
use Rattle.sim_exec_statements.proofs.execution.+execution.Goals as goal

pub execute_branches-execute_all-requires : goal.execute_branches-execute_all-requires
execute_branches-execute_all-requires g t c κs within =
    let body = c.args.body.now in
    let item = c.branch-item.result in
    let fit : branch_fits body.objects body.drivers body.variables item ≡ true =
    subst (λ (b : Branch). branch_fits body.objects body.drivers body.variables b ≡ true) (sym c.branch-item.is)
    (c.requires.fits c.loop-branch.branch-index item c.loop-branch-test.true) in
    let fits : FitAll body c.as_slice-statements.result.now = rw c.as_slice-statements.ensures (branch_statements_fit body item fit) in
    let ready = c.loop-branch.invariant.ready in
    search (rules, the_lemmas)

pub execute_one-execute_branches-requires : goal.execute_one-execute_branches-requires
execute_one-execute_branches-requires g t c κs within =
    let body = c.args.body.now in
    let both = if_fits body c.in-If.branches c.in-If.otherwise
    (subst (λ (s : Statement). statement_fits body.objects body.drivers body.variables s ≡ true) c.in-If.is c.requires.fits) in
    let fits : FitBranches body c.as_slice-branches.result.now = rw c.as_slice-branches.ensures both.0 in
    search (rules, the_lemmas)

pub execute_one-execute_all-requires : goal.execute_one-execute_all-requires
execute_one-execute_all-requires g t c κs within =
    let body = c.args.body.now in
    let both = if_fits body c.in-If.branches c.in-If.otherwise
    (subst (λ (s : Statement). statement_fits body.objects body.drivers body.variables s ≡ true) c.in-If.is c.requires.fits) in
    let fits : FitAll body c.as_slice-otherwise.result.now = rw c.as_slice-otherwise.ensures both.1 in
    let ready = c.in_ok-execute_branches-in-If.ensures.ready in
    search (rules, the_lemmas)

pub execute_branches-returns-then-boolean_value-clause-ok : goal.execute_branches-returns-then-boolean_value-clause-ok
execute_branches-returns-then-boolean_value-clause-ok g t c =
    let own : Owned = record { drivers = c.loop-branch.drivers; variables = c.loop-branch.variables } in
    let new : Owned = record { drivers = c.execute_all.new.drivers; variables = c.execute_all.new.variables } in
    let steps = own_steps (g.N.Nets.look c.args.nets.now) c.args.now in
    λ otherwise. sym (c.loop-branch.invariant.same otherwise)
    ∙ taken_now steps c.args.branches.now c.loop-branch.branch-index c.branch-item.result c.as_slice-statements.result.now otherwise own new
    c.loop-branch-test.true c.branch-item.is c.as_slice-statements.ensures (sym c.boolean_value.ensures ∙ c.if-boolean_value.true)
    c.in_ok-execute_all.ensures.ok

pub execute_branches-loop-branch-preserved : goal.execute_branches-loop-branch-preserved
execute_branches-loop-branch-preserved g t c =
    let own : Owned = record { drivers = c.loop-branch.drivers; variables = c.loop-branch.variables } in
    let steps = own_steps (g.N.Nets.look c.args.nets.now) c.args.now in
    record {
      same = λ otherwise. sym (not_taken steps c.args.branches.now c.loop-branch.branch-index c.branch-item.result otherwise own c.loop-branch-test.true
          c.branch-item.is (sym c.boolean_value.ensures ∙ c.if-boolean_value.false)) ∙ c.loop-branch.invariant.same otherwise;
      ready = c.loop-branch.invariant.ready;
      values = c.loop-branch.invariant.values;
    }
