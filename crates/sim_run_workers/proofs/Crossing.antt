-- What a worker takes along can be sent to another thread, and what workers have in common can be shared.
use denote.RattleType.{RattleType}
use denote.Exit.{Kept}
use denote.Struct.Field.{shr_ref_field, u64-field}
use denote.Struct.Tuple.{TupleAt}
use denote.Ref.{NamedLft}
use denote.Param.{arg, param}
use denote.Param.Send.{AllSend, IsSend, IsSync, arg_send, param_send, param_sync, recorded_send, sendable, shr_send, struct_send}
use mir.Syntax.{Sym, Ty}
use Rattle.std.proofs.Common.{ℕ, List, [], ◌∷◌}
use Rattle.std.proofs.Crossing.{crosses}
use Rattle.std.specs.contracts.alloc.Global as Global
use Rattle.std.specs.contracts.sync.Mutex as Mutex
use Rattle.sim_run_claims.specs.contracts.drawing.ClaimSeat as ClaimSeat
use Rattle.sim_run_claims.proofs.drawing.ClaimSeat.TheSendSync as seats
use Rattle.sim_store.specs.contracts.store.WaveStore as WaveStore
use Rattle.sim_store.proofs.Crossing.{store_send}
use Rattle.sim_run_workers.specs.contracts.round.Round as Round
use Rattle.sim_run_workers.proofs.round.Round.TheSendSync as rounds

round_sync : IsSync Round.the_row
round_sync = search (rounds.the_sync, crosses, sendable) depth 20

-- the types of what a worker takes along: the handle, the allocator, the store under its lock, the gate, the round, its seat, and the number of workers
abbrev pub baggage : RattleType → RattleType → NamedLft → NamedLft → NamedLft → NamedLft → List RattleType
baggage R G ℓ ℓ₁ ℓ₂ ℓ₃ =
    (shr_ref_field ℓ (param 0 R) tt).row ∷ Global.the_row ∷ (shr_ref_field ℓ₁ (Mutex.the_row WaveStore.the_row) tt).row
    ∷ (shr_ref_field ℓ₂ (param 1 G) tt).row ∷ (shr_ref_field ℓ₃ Round.the_row tt).row ∷ ClaimSeat.the_row ∷ (u64-field).row ∷ []

pub worker_send : (i : ℕ) (δ : Ty) (k : Kept) (ν : Sym) (R G : RattleType) (ℓ ℓ₁ ℓ₂ ℓ₃ : NamedLft) → IsSync R → IsSync G
    → IsSend (param i (arg δ k (TupleAt ν (baggage R G ℓ ℓ₁ ℓ₂ ℓ₃))))
worker_send i δ k ν R G ℓ ℓ₁ ℓ₂ ℓ₃ r s =
    let all : AllSend (baggage R G ℓ ℓ₁ ℓ₂ ℓ₃) = (
      shr_send _ _ (param 0 R) (param_sync 0 R r),
      (
        search (crosses, sendable),
        (
          search (store_send, crosses, sendable) depth 20,
          (
            shr_send _ _ (param 1 G) (param_sync 1 G s),
            (
              search (round_sync, sendable),
              (
                search (seats.the_send, sendable),
                (search sendable, tt),
              ),
            ),
          ),
        ),
      ),
    ) in
    search (all, param_send, arg_send, recorded_send, struct_send)
