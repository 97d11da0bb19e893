-- The drivers and variables that a share has in its lists.
use Rattle.std.proofs.Common.{ℕ, zero, suc, ◌≤◌, ◌≡◌, [], ◌∷◌, None, List, false, length, get_or, set, refl, ap, sym, ◌∙◌, arith}
use Rattle.std.proofs.lemmas.List.{length-set}
use Rattle.std.specs.List.{All}
use Rattle.sim_flat_design.specs.declared.held.Held.{Held}
use Rattle.sim_standard.specs.Drivers.{DriverState, next_time}
use Rattle.sim_standard.specs.State.{Owned, all_drivers, owned_at}
use Rattle.sim_standard.proofs.Names.{no_driver}
use Rattle.sim_containers.specs.Numbers.{is_in}
use Rattle.sim_containers.specs.RowArray.{joined}
use Rattle.sim_containers.specs.Times.{earliest}
use Rattle.sim_store_share.specs.PendingTimes.{Pending, AreTimes}
use Rattle.sim_store_share.specs.Shares.{owned_lists, time_at}
use Rattle.sim_store_share.proofs.Contents.{as_owned, length-owned, owned-at, owned-drivers, owned-set}
use Rattle.sim_store_share.proofs.Due.{all-times, earliest-next}

module _ (dss : List (List DriverState)) (vss : List (List Held)) (own : List Owned) (is : owned_lists dss vss ≡ own) (long : length dss ≡ length vss) where
  pub own-count : length own ≡ length dss
  own-count = ap length (sym is) ∙ length-owned dss vss long

  pub own-at : (p : ℕ) → owned_at own p ≡ as_owned (get_or dss p []) (get_or vss p [])
  own-at p = ap (λ (w : List Owned). owned_at w p) (sym is) ∙ owned-at dss vss p long

  pub own-drivers : all_drivers own ≡ joined dss
  own-drivers = ap all_drivers (sym is) ∙ owned-drivers dss vss long

  pub own-set : (p : ℕ) (ds : List DriverState) (vs : List Held) (dss' : List (List DriverState)) (vss' : List (List Held)) → dss' ≡ set dss p ds
      → vss' ≡ set vss p vs → owned_lists dss' vss' ≡ set own p (as_owned ds vs)
  own-set p ds vs dss' vss' ed ev =
      ap (λ (w : List (List DriverState)). owned_lists w vss') ed ∙ (ap (owned_lists (set dss p ds)) ev
      ∙ (owned-set dss vss p ds vs long ∙ ap (λ (w : List Owned). set w p (as_owned ds vs)) is))

pub both-set : (dss : List (List DriverState)) (vss : List (List Held)) (p : ℕ) (ds : List DriverState) (vs : List Held) (dss' : List (List DriverState))
    (vss' : List (List Held)) → length dss ≡ length vss → dss' ≡ set dss p ds → vss' ≡ set vss p vs → length dss' ≡ length vss'
both-set dss vss p ds vs dss' vss' long ed ev = omega (arith, long, ap length ed, ap length ev, length-set dss p ds, length-set vss p vs)

-- the least of the times that are known, if all are
pub least-known : (p : Pending) (dss : List (List DriverState)) → length p.queue ≡ length (joined dss) → AreTimes p (time_at (joined dss))
    → ((d : ℕ) → is_in p.stale d ≡ false) → earliest p.queue ≡ next_time (joined dss)
least-known p dss sized timed current =
    ap earliest (all-times p.queue (joined dss) sized (λ d. timed d (current d))) ∙ earliest-next (joined dss)

-- nothing is pending for drivers that are idle
pub idle-times : (ds : List DriverState) → All (λ (d : DriverState). d.pending ≡ []) ds → (d : ℕ) → None ≡ time_at ds d
unfolding next_time
idle-times [] idle d = refl
idle-times (w ∷ ds) idle zero = ap (λ xs. next_time (record { value = w.value; pending = xs } ∷ [])) (sym (idle 0 no_driver (omega arith)))
idle-times (w ∷ ds) idle (suc d) = idle-times ds (λ k e lt. idle (suc k) e (omega (arith, lt))) d

-- beyond the last there is none
pub no-time : (ds : List DriverState) (d : ℕ) → length ds ≤ d → time_at ds d ≡ None
unfolding next_time
no-time [] d le = refl
no-time (w ∷ ds) zero le = absurd (omega (arith, le))
no-time (w ∷ ds) (suc d) le = no-time ds d (omega (arith, le))
