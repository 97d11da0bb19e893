-- Jobs and their results.
-- `simulate` does not rest on this file; what a store shows under a lock does.
use Rattle.std.specs.Prelude.{ℕ, suc, ◌≡◌, ◌≤◌, List, [], ◌∷◌, Option, MatchOption, length}
use Rattle.sim_logic.specs.Time.{largest_time}
use Rattle.sim_flat_design.specs.Processes.{Process}
use Rattle.sim_standard.specs.declared.net_view.NetView.{NetView}
use Rattle.sim_standard.specs.State.{State, Owned}
use Rattle.sim_standard.specs.Processes.{owned_after}
use Rattle.sim_exec_statements.specs.Ready.{IsReady}

-- A process to be executed: the number of cycles completed, its number, the time, its views of the nets it reads, and what it owns.
pub record Job : Type 0 where
  pub cycle : ℕ
  pub number : ℕ
  pub time : ℕ
  pub process : Process
  pub views : List NetView
  pub owned : Owned

-- There is a view of each net that the process reads, and what it owns fits it. All pending transactions are after the time.
pub record IsJob (time : ℕ) (process : Process) (views : List NetView) (own : Owned) : Type 0 where
  pub seen : length views ≡ length process.reads
  pub early : time ≤ largest_time
  pub ready : IsReady process.body (suc time) own

-- the part of a state that a job holds
abbrev pub job_state : Job → State
job_state job = record { time = job.time; delta = 0; nets = job.views; owned = job.owned ∷ []; waiting = [] }

-- what its process owns after the execution
abbrev pub result_of : Job → Owned
result_of job = owned_after job.process (job_state job)

-- What an executed job keeps: what its process owns then, or nothing if that is unchanged. It fits the body either way.
pub record IsDone (job : Job) (kept : Option Owned) : Type 0 where
  pub results : MatchOption kept (result_of job ≡ job.owned) (λ r. r ≡ result_of job)
  pub ready : IsReady job.process.body job.time (result_of job)
