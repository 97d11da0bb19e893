use Rattle.std.proofs.Common.{◌≡◌, List, true, false, map, ap, sym, ◌∙◌}
use Rattle.std.proofs.lemmas.List.{drop_all}
use Rattle.sim_flat_design.specs.declared.held.Held.{Held}
use Rattle.sim_flat_design.specs.declared.statement.Statement.TheViews as views
use Rattle.sim_standard.specs.State.{Owned}
use Rattle.sim_standard.specs.Expressions.{boolean_value}
use Rattle.sim_standard.specs.Statements.{own_steps, branch_done, if_taken}
use Rattle.sim_exec_statements.proofs.Branches.{not_taken, held_now, not_held}
use Rattle.sim_exec.proofs.idle.none_is_taken.Goals as goal

pub loop-branch-preserved : goal.loop-branch-preserved
loop-branch-preserved g c =
    let look = g.N.Nets.look c.args.nets.now in
    let item = c.branch-item.result in
    let no : (own : Owned) → own.variables ≡ c.args.variables.now → boolean_value look own.variables (views.out-Branch item).condition ≡ false =
    λ own same.
    ap (λ (vs : List Held). boolean_value look vs (views.out-Branch item).condition) same ∙ (sym c.boolean_value.ensures ∙ c.if-boolean_value.false) in (
      λ now otherwise own same. c.loop-branch.invariant.0 now otherwise own same
          ∙ not_taken (own_steps look now) c.args.branches.now c.loop-branch.branch-index item otherwise own c.loop-branch-test.true c.branch-item.is
          (no own same),
      λ now own same. c.loop-branch.invariant.1 now own same
          ∙ not_held look now c.args.branches.now c.loop-branch.branch-index item own c.loop-branch-test.true c.branch-item.is (no own same),
    )

pub returns-then-boolean_value-clause-some : goal.returns-then-boolean_value-clause-some
returns-then-boolean_value-clause-some g c =
    let look = g.N.Nets.look c.args.nets.now in
    let item = c.branch-item.result in
    λ now own same.
    let yes : boolean_value look own.variables (views.out-Branch item).condition ≡ true =
    ap (λ (vs : List Held). boolean_value look vs (views.out-Branch item).condition) same ∙ (sym c.boolean_value.ensures ∙ c.if-boolean_value.true) in
    c.loop-branch.invariant.1 now own same
    ∙ held_now look now c.args.branches.now c.loop-branch.branch-index item own c.loop-branch-test.true c.branch-item.is yes

pub returns-clause-none : goal.returns-clause-none
unfolding if_taken
returns-clause-none g c true-is now otherwise own same =
    c.loop-branch.invariant.0 now otherwise own same
    ∙ ap (λ bs. if_taken (map (branch_done (own_steps (g.N.Nets.look c.args.nets.now) now)) bs) otherwise own)
    (drop_all c.loop-branch.branch-index c.args.branches.now c.loop-branch-test.false)
