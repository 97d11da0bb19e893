-- What a worker takes along can be sent to another thread.
use denote.Builtin.{usize}
use denote.RattleType.{RattleType}
use denote.Exit.{Kept}
use denote.Struct.Field.{shr_ref_field}
use denote.Struct.Tuple.{TupleAt}
use denote.Ref.{NamedLft}
use denote.Param.{arg, param}
use denote.Param.Send.{AllSend, IsSend, IsSync, arg_send, param_send, param_sync, recorded_send, sendable, shr_send, struct_send}
use mir.Syntax.{Sym, Ty}
use Rattle.std.proofs.Common.{ℕ, List, [], ◌∷◌}
use Rattle.std.proofs.Crossing.{crosses}
use Rattle.std.specs.contracts.alloc.Global as Global
use Rattle.sim_run_team.specs.contracts.workers.Posts as Posts
use Rattle.sim_run_team.proofs.workers.Posts.TheSendSync as posts

-- threads may share posts if orders and answers can be sent
pub posts_sync : (W O A K : RattleType) → IsSend O → IsSend A → IsSync (Posts.the_row W O A K)
posts_sync W O A K o a = search (o, a, posts.the_sync, crosses, sendable) depth 30

-- the types of what a worker takes along: the posts, the handle, the allocator, the number of its post
abbrev pub baggage : RattleType → RattleType → RattleType → RattleType → RattleType → NamedLft → NamedLft → List RattleType
baggage W O A K R ℓ ℓ₁ =
    (shr_ref_field ℓ (Posts.the_row W O A K) tt).row ∷ (shr_ref_field ℓ₁ (param 1 R) tt).row ∷ Global.the_row ∷ usize ∷ []

pub worker_send : (i : ℕ) (δ : Ty) (k : Kept) (ν : Sym) (W O A K R : RattleType) (ℓ ℓ₁ : NamedLft) → IsSend O → IsSend A → IsSync R
    → IsSend (param i (arg δ k (TupleAt ν (baggage W O A K R ℓ ℓ₁))))
worker_send i δ k ν W O A K R ℓ ℓ₁ o a r =
    let all : AllSend (baggage W O A K R ℓ ℓ₁) = (
      shr_send _ _ (Posts.the_row W O A K) (posts_sync W O A K o a),
      (
        shr_send _ _ (param 1 R) (param_sync 1 R r),
        (search (crosses, sendable), (search (crosses, sendable), tt)),
      ),
    ) in
    search (all, param_send, arg_send, recorded_send, struct_send)
