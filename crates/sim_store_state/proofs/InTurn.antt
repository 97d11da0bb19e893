-- Processes that are executed one after another, in flat lists.
use Rattle.std.proofs.Common.{ℕ, ◌-◌, ◌≡◌, List, [], ◌∷◌, set, ap, ◌∙◌, subst, arith}
use Rattle.sim_flat_design.specs.Processes.{Process}
use Rattle.sim_flat_design.specs.declared.design.Source.{Source}
use Rattle.sim_exec_statements.specs.Ready.{IsReady}
use Rattle.sim_standard.specs.Processes.{process_at}
use Rattle.sim_standard.specs.State.{Owned, owned_at}
use Rattle.sim_standard.specs.declared.net_view.NetView.{NetView}
use Rattle.sim_store_share.specs.InTurn as share
use Rattle.sim_store_share.specs.declared.reading.Reading.{Reading}
use Rattle.sim_store_state.specs.FlatState.{FlatState}
use Rattle.sim_store_state.specs.InTurn.{AreExecuted, after_one}

-- the state in which processes own this
abbrev state_of : List (List Source) → List NetView → List Owned → FlatState
state_of sources nets os = record { sources = sources; nets = nets; owned = os }

from-first : (r : Reading) → r.first ≡ 0 → (sources : List (List Source)) (numbers : List ℕ) (os os' : List Owned) → share.AreExecuted r numbers os os'
    → AreExecuted r.processes.now r.time numbers (state_of sources (share.nets_in r) os) (state_of sources (share.nets_in r) os')
from-first r none sources [] os os' e = ap (state_of sources (share.nets_in r)) e
from-first r none sources (n ∷ numbers) os os' e =
    let at : n - r.first ≡ n = omega (arith, none) in
    let one : share.after_one r os n ≡ (after_one r.processes.now r.time (state_of sources (share.nets_in r) os) n).owned =
    ap (λ (m : ℕ). set os m (share.left_by r n (owned_at os m))) at in (
      subst (IsReady (process_at r.processes.now n).body r.time)
          (ap (owned_at (share.after_one r os n)) at ∙ ap (λ (w : List Owned). owned_at w n) one) e.0,
      subst (λ (w : List Owned). AreExecuted r.processes.now r.time numbers (state_of sources (share.nets_in r) w) (state_of sources (share.nets_in r) os')) one
          (from-first r none sources numbers (share.after_one r os n) os' e.1),
    )

-- the state that such processes leave
pub executed-of : (r : Reading) → r.first ≡ 0 → (processes : List Process) (time : ℕ) (sources : List (List Source)) (nets : List NetView) (numbers : List ℕ)
    (os os' : List Owned) → r.processes.now ≡ processes → r.time ≡ time → share.nets_in r ≡ nets → share.AreExecuted r numbers os os'
    → AreExecuted processes time numbers (state_of sources nets os) (state_of sources nets os')
executed-of r none processes time sources nets numbers os os' ep et en e =
    subst (λ (ps : List Process). AreExecuted ps time numbers (state_of sources nets os) (state_of sources nets os')) ep
    (subst (λ (t : ℕ). AreExecuted r.processes.now t numbers (state_of sources nets os) (state_of sources nets os')) et
    (subst (λ (ns : List NetView). AreExecuted r.processes.now r.time numbers (state_of sources ns os) (state_of sources ns os')) en
    (from-first r none sources numbers os os' e)))
