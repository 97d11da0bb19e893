-- An executed job leaves what its process leaves on the part of a state that the job holds.
use Rattle.std.proofs.Common.{◌≡◌, ℕ, suc, List, [], ◌∷◌, ◌++◌, map, take, length, Some, None, refl, sym, ◌∙◌, subst, arith}
use Rattle.std.proofs.lemmas.List.{take_at}
use Rattle.std.proofs.lemmas.List.Elements.{All-weaker}
use Rattle.sim_standard.specs.Drivers.{DriverState}
use Rattle.sim_standard.specs.declared.net_view.NetView.{NetView}
use Rattle.sim_standard.specs.State.{Owned, net_at}
use Rattle.sim_flat_design.specs.Processes.{Process}
use Rattle.sim_flat_design.specs.declared.held.Held.{Held}
use Rattle.sim_flat_design.specs.declared.statement.Statement.{Statement}
use Rattle.sim_standard.specs.Statements.{own_steps, statement_done, in_turn, executed}
use Rattle.sim_standard.specs.Processes.{object_net, place_in}
use Rattle.sim_exec_statements.specs.Ready.{IsReady}
use Rattle.sim_exec.specs.Jobs.{Job, IsJob, IsDone, result_of}
use Rattle.sim_standard.proofs.Owning.{owned_after_is}
use Rattle.sim_wave.specs.Rising.{RisesFrom}

-- the views of the ports and signals of a job's body
abbrev pub sight : Job → ℕ → NetView
sight job object = net_at job.views (place_in job.process.reads (object_net job.process object))

pub result_is : (job : Job) → result_of job ≡ executed (sight job) job.time job.process.body.statements job.owned
result_is job = owned_after_is job.process _ (omega arith)

-- what is later than a time is not before it
sooner : (time : ℕ) (d : DriverState) → RisesFrom (suc time) d.pending → RisesFrom time d.pending
sooner time d h = go d.pending h
  where
    go : (xs : List (ℕ × _)) → RisesFrom (suc time) xs → RisesFrom time xs
    go [] h = tt
    go (x ∷ xs) h = (omega (arith, h.0), h.1)

pub ready_now : (job : Job) → IsJob job.time job.process job.views job.owned → IsReady job.process.body job.time job.owned
ready_now job is = record {
  drivers = is.ready.drivers;
  variables = is.ready.variables;
  pending = All-weaker (λ (d : DriverState). RisesFrom (suc job.time) d.pending) (λ (d : DriverState). RisesFrom job.time d.pending) (sooner job.time)
      job.owned.drivers is.ready.pending;
}

-- nothing was assigned
pub done_unchanged : (job : Job) → IsJob job.time job.process job.views job.owned
    → executed (sight job) job.time job.process.body.statements job.owned ≡ job.owned → IsDone job None
done_unchanged job is same =
    let e = result_is job ∙ same in
    record { results = e; ready = subst (IsReady job.process.body job.time) (sym e) (ready_now job is) }

-- something was assigned
pub done_changed : (job : Job) (own : Owned) → IsReady job.process.body job.time own
    → own ≡ executed (sight job) job.time job.process.body.statements job.owned → IsDone job (Some own)
done_changed job own ready is =
    let e = is ∙ sym (result_is job) in
    record { results = e; ready = subst (IsReady job.process.body job.time) e ready }

-- the statements of a job, on what it shows
pub shown : (job : Job) (process : Process) (views : List NetView) (statements : List Statement)
    → process ≡ job.process → views ≡ job.views → statements ≡ job.process.body.statements
    → in_turn (map (statement_done (own_steps (λ object. net_at views (place_in process.reads (object_net process object))) job.time)) statements) job.owned
    ≡ executed (sight job) job.time job.process.body.statements job.owned
unfolding executed
shown job process views statements p v s = rw (s, v, p) refl

-- writing over whole lists gives the new lists
pub done_written : (job : Job) (n m : ℕ) (drivers old : List DriverState) (variables olds : List Held)
    → n ≡ length drivers → m ≡ length variables → IsDone job (Some (record { drivers = drivers; variables = variables }))
    → IsDone job (Some (record { drivers = take n (drivers ++ old); variables = take m (variables ++ olds) }))
done_written job n m drivers old variables olds e f h = rw (take_at drivers old n (sym e), take_at variables olds m (sym f)) h
