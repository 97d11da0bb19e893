use Rattle.std.proofs.Common.{◌≡◌, rules, sym, ap, ◌∙◌}
use Rattle.sim_flat_design.specs.Bodies.{Body}
use Rattle.sim_flat_design.specs.Processes.{Process}
use Rattle.sim_standard.specs.State.{Owned}
use Rattle.sim_standard.specs.Statements.{executed}
use Rattle.sim_exec_statements.specs.Ready.{IsReady}
use Rattle.sim_exec.proofs.Executed.{sight, ready_now, done_unchanged, done_changed, shown, done_written}
use Rattle.sim_exec.proofs.done.executed.Goals as goal

pub returns-then-assign_nothing : goal.returns-then-assign_nothing
returns-then-assign_nothing c =
    let job = c.args.job.now in
    let same = c.assign_nothing.ensures c.if-assign_nothing.true job.time job.owned (sym c.variables.ensures) in
    let statements = c.statements.ensures.value
    ∙ (ap (λ (b : Body). b.statements) c.body-body.ensures ∙ ap (λ (p : Process). p.body.statements) c.process-2.ensures) in
    done_unchanged job c.views.ensures.fits
    (sym (shown job c.process.result.now c.views.result.now c.statements.result.now c.process.ensures c.views.ensures.value statements) ∙ same)

pub execute-requires-clause-ready : goal.execute-requires-clause-ready
execute-requires-clause-ready c =
    let ready = ready_now c.args.job.now c.views.ensures.fits in
    search rules

pub returns : goal.returns
returns c =
    let job = c.args.job.now in
    let own : Owned = record { drivers = c.execute.new.drivers; variables = c.execute.new.variables } in
    let ready : IsReady job.process.body job.time own = search rules in
    let same : own ≡ executed (sight job) job.time job.process.body.statements job.owned = search rules in
    done_written job c.in_ok-drivers.drivers.len c.in_ok-variables.variables.len c.execute.new.drivers _ c.execute.new.variables _ (search rules) (search rules)
    (done_changed job own ready same)
