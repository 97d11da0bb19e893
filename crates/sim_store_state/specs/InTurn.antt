-- Processes that are executed one after another (IEEE 1076-2008, 14.7.5.3 f, h).
-- Implementation only: what `simulate` promises does not rest on this file.
use Rattle.std.specs.Prelude.{ℕ, ◌≡◌, ◌≢◌, ◌<◌, List, [], ◌∷◌, length, slice_index_or, slice_set}
use Rattle.std.specs.List.{All}
use Rattle.sim_flat_design.specs.Processes.{Process}
use Rattle.sim_exec_statements.specs.Ready.{IsReady}
use Rattle.sim_exec_code.specs.Codes.{FitsAll}
use Rattle.sim_standard.specs.Processes.{object_net, process_at}
use Rattle.sim_standard.specs.State.{Owned, net_at, owned_at}
use Rattle.sim_standard.specs.Statements.{executed}
use Rattle.sim_containers.specs.RowArray.{joined}
use Rattle.sim_store_share.specs.InTurn as share
use Rattle.sim_store_share.specs.declared.reading.Reading.{Reading}
use Rattle.sim_store_state.specs.FlatState.{FlatState, AreShares, counts}

-- the state once the process with a number has been executed at a time
abbrev pub after_one : List Process → ℕ → FlatState → ℕ → FlatState
after_one processes time h n =
    let process = process_at processes n in
    record h {
      owned = slice_set h.owned n
          (executed (λ (object : ℕ). net_at h.nets (object_net process object)) time process.body.statements (owned_at h.owned n));
    }

-- The process with a number can be executed at a time, by what it owns.
pub record IsExecutable (processes : List Process) (time : ℕ) (owned : List Owned) (n : ℕ) : Type 0 where
  pub number : n < length processes
  pub owns : n < length owned
  pub ready : IsReady (process_at processes n).body time (owned_at owned n)

-- The second state is the first once these processes have been executed in this order. What each owns then still fits its body.
abbrev pub AreExecuted : List Process → ℕ → List ℕ → FlatState → FlatState → Type 0
AreExecuted processes time [] old new = new ≡ old
AreExecuted processes time (n ∷ numbers) old new =
    IsReady (process_at processes n).body time (owned_at (after_one processes time old n).owned n)
    × AreExecuted processes time numbers (after_one processes time old n) new

-- The process with a number is not among these.
abbrev pub IsOther : List ℕ → ℕ → Type 0
IsOther numbers p = (k : ℕ) → k < length numbers → slice_index_or numbers k 0 ≢ p

-- These processes can be executed in shares, with this reading.
pub record AreInShares (r : Reading) (frame : ℕ) (numbers : List ℕ) (shares : List (List Owned)) : Type 0 where
  pub shared : AreShares (counts shares)
  pub reading : share.IsReading r
  pub from : r.first ≡ 0
  pub fits : FitsAll r.codes.now.codes frame
  pub each : All (share.IsExecutable r (joined shares)) numbers

-- All processes but these own what they owned, in shares of the same sizes.
pub record AreKeptIn (r : Reading) (numbers : List ℕ) (old new : List (List Owned)) : Type 0 where
  pub kept : share.AreKept r numbers (joined old) (joined new)
  pub counts : counts new ≡ counts old
