-- The body of one process of a share is executed.
use Rattle.std.proofs.Common.{ℕ, ◌-◌, ◌≡◌, Bool, true, false, List, [], ◌∷◌, length, get_or, set, map, refl, ap, sym, ◌∙◌, subst, arith}
use Rattle.std.specs.Prelude.{Result, Ok, Err, IfOk, OnOk}
use Rattle.std.proofs.lemmas.List.{length-map, set-get_or}
use Rattle.std.proofs.lemmas.Result.{on_ok_weaker}
use Rattle.sim_flat_design.specs.declared.held.Held.{Held}
use Rattle.sim_flat_design.specs.Bodies.{Body}
use Rattle.sim_exec_statements.specs.Ready.{IsReady, holds_bit}
use Rattle.sim_exec_code.proofs.Executions.{ready_after}
use Rattle.sim_standard.specs.Drivers.{DriverState}
use Rattle.sim_standard.specs.State.{Owned, driver_values, owned_at}
use Rattle.sim_store_share.specs.Executions.{IsBodyExecuted}
use Rattle.sim_store_share.specs.InTurn.{AreExecuted, AreKept, IsExecutable, left_by}
use Rattle.sim_store_share.specs.Shares.{own_at, owned_lists}
use Rattle.sim_store_share.specs.declared.reading.Reading.{Reading}
use Rattle.sim_store_share.proofs.Contents.{owned-at}
use Rattle.sim_store_share.proofs.Held.{both-set, own-at, own-set}
use Rattle.sim_store_share.proofs.InTurn.{one-done, one-kept}

-- the same of what is equal
pub body_as : {E : Type 0} {r : Reading} {n : ℕ} {done : Result Bool E} {old new old' new' : Owned} → old ≡ old' → new ≡ new'
    → IsBodyExecuted r n done old new → IsBodyExecuted r n done old' new'
body_as {r = r} {n = n} {done = done} {new = new} {old' = old'} eo en e =
    subst (λ (o : Owned). IsBodyExecuted r n done old' o) en (subst (λ (o : Owned). IsBodyExecuted r n done o new) eo e)

pub values-count : (ds es : List DriverState) → driver_values ds ≡ driver_values es → length ds ≡ length es
values-count ds es e = omega (arith, ap length e, length-map ds (λ (w : DriverState). w.value), length-map es (λ (w : DriverState). w.value))

-- the process at n, which owns what is at p of these lists, and then what is there in others
module _ {E : Type 0} (r : Reading) (n : ℕ) (done : Result Bool E) (dss dss' : List (List DriverState)) (vss vss' : List (List Held)) (own : List Owned)
    (is : owned_lists dss vss ≡ own) (long : length dss ≡ length vss) (here : IsExecutable r own n)
    (ed : dss' ≡ set dss (n - r.first) (get_or dss' (n - r.first) [])) (ev : vss' ≡ set vss (n - r.first) (get_or vss' (n - r.first) []))
    (e : IsBodyExecuted r n done (own_at dss vss (n - r.first)) (own_at dss' vss' (n - r.first))) where
  abbrev p : ℕ
  p = n - r.first

  abbrev new : List Owned
  new = owned_lists dss' vss'

  was : owned_at own p ≡ own_at dss vss p
  was = own-at dss vss own is long p

  alone : new ≡ set own p (own_at dss' vss' p)
  alone = own-set dss vss own is long p (get_or dss' p []) (get_or vss' p []) dss' vss' ed ev

  now-at : owned_at new p ≡ own_at dss' vss' p
  now-at = owned-at dss' vss' p (both-set dss vss p (get_or dss' p []) (get_or vss' p []) dss' vss' long ed ev)

  pub body-row : length (get_or dss' p []) ≡ length (get_or dss p [])
  body-row = values-count (get_or dss' p []) (get_or dss p []) e.values

  fits : (body : Body) → IsReady body r.time (owned_at own p) → IsReady body r.time (own_at dss' vss' p)
  fits body ready =
      let types : map holds_bit (get_or vss' p []) ≡ map holds_bit (get_or vss p []) =
      e.ready.variables ∙ sym (ap (λ (o : Owned). map holds_bit o.variables) (sym was) ∙ here.ready.variables) in
      ready_after body r.time (get_or dss p []) (get_or dss' p []) (get_or vss p []) (get_or vss' p []) (subst (IsReady body r.time) was ready) e.values
      types e.ready.pending

  pub body-kept : AreKept r (n ∷ []) own new
  body-kept =
      one-kept r n own new (own_at dss' vss' p) here alone (λ body ready. subst (IsReady body r.time) (sym now-at) (fits body ready))
      (e.values ∙ ap (λ (o : Owned). driver_values o.drivers) (sym was))

  pub body-done : OnOk done (AreExecuted r (n ∷ []) own new)
  body-done =
      on_ok_weaker done (λ (left : own_at dss' vss' p ≡ left_by r n (own_at dss vss p)).
      one-done r n own new (own_at dss' vss' p) here alone (left ∙ ap (left_by r n) (sym was)) e.ready) e.ok

  -- nothing was done
  pub idle-row : done ≡ Ok false → dss ≡ dss'
  idle-row none = sym (ed ∙ (ap (set dss p) (of done none e.idle) ∙ set-get_or dss p []))
    where
      of : (d : Result Bool E) → d ≡ Ok false → IfOk d (λ b. b ≡ false → get_or dss' p [] ≡ get_or dss p []) → get_or dss' p [] ≡ get_or dss p []
      of (Ok true) q h = absurd cc
      of (Ok false) q h = h refl
      of (Err x) q h = absurd cc

  pub idle-done : done ≡ Ok false → AreExecuted r (n ∷ []) own new
  idle-done none = of done none body-done
    where
      of : (d : Result Bool E) → d ≡ Ok false → OnOk d (AreExecuted r (n ∷ []) own new) → AreExecuted r (n ∷ []) own new
      of (Ok b) q h = h
      of (Err x) q h = absurd cc
