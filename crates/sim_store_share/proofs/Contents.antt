-- Flat lists hold what processes own.
use Rattle.std.proofs.Common.{ℕ, zero, suc, ◌≡◌, ◌++◌, List, [], ◌∷◌, length, get_or, set, map, refl, ap, ◌∙◌, arith}
use Rattle.sim_flat_design.specs.declared.held.Held.{Held}
use Rattle.sim_standard.specs.Drivers.{DriverState, taken}
use Rattle.sim_standard.specs.State.{Owned, all_drivers}
use Rattle.sim_standard.proofs.Names.{nothing_owned}
use Rattle.sim_containers.specs.RowArray.{joined}
use Rattle.sim_store_share.specs.Shares.{owned_lists, all_taken}

abbrev pub as_owned : List DriverState → List Held → Owned
as_owned ds vs = record { drivers = ds; variables = vs }

pub length-owned : (dss : List (List DriverState)) (vss : List (List Held)) → length dss ≡ length vss → length (owned_lists dss vss) ≡ length dss
length-owned [] vss e = refl
length-owned (ds ∷ dss) [] e = absurd (omega arith)
length-owned (ds ∷ dss) (vs ∷ vss) e = ap suc (length-owned dss vss (omega arith))

-- what a process owns is its two lists
pub owned-at : (dss : List (List DriverState)) (vss : List (List Held)) (p : ℕ) → length dss ≡ length vss
    → get_or (owned_lists dss vss) p nothing_owned ≡ record { drivers = get_or dss p []; variables = get_or vss p [] }
owned-at [] [] p e = refl
owned-at [] (vs ∷ vss) p e = absurd (omega arith)
owned-at (ds ∷ dss) [] p e = absurd (omega arith)
owned-at (ds ∷ dss) (vs ∷ vss) zero e = refl
owned-at (ds ∷ dss) (vs ∷ vss) (suc p) e = owned-at dss vss p (omega arith)

-- one process owns other lists
pub owned-set : (dss : List (List DriverState)) (vss : List (List Held)) (p : ℕ) (ds : List DriverState) (vs : List Held) → length dss ≡ length vss
    → owned_lists (set dss p ds) (set vss p vs) ≡ set (owned_lists dss vss) p (record { drivers = ds; variables = vs })
owned-set [] [] p d v e = refl
owned-set [] (vs ∷ vss) p d v e = absurd (omega arith)
owned-set (ds ∷ dss) [] p d v e = absurd (omega arith)
owned-set (ds ∷ dss) (vs ∷ vss) zero d v e = refl
owned-set (ds ∷ dss) (vs ∷ vss) (suc p) d v e = ap (λ w. record { drivers = ds; variables = vs } ∷ w) (owned-set dss vss p d v (omega arith))

pub owned-taken : (t : ℕ) (dss : List (List DriverState)) (vss : List (List Held)) → owned_lists (map (map (taken t)) dss) vss ≡ all_taken t
    (owned_lists dss vss)
owned-taken t [] vss = refl
owned-taken t (ds ∷ dss) [] = refl
owned-taken t (ds ∷ dss) (vs ∷ vss) = ap (λ w. record { drivers = map (taken t) ds; variables = vs } ∷ w) (owned-taken t dss vss)

-- drivers by number
pub owned-drivers : (dss : List (List DriverState)) (vss : List (List Held)) → length dss ≡ length vss → all_drivers (owned_lists dss vss) ≡ joined dss
owned-drivers [] vss e = refl
owned-drivers (ds ∷ dss) [] e = absurd (omega arith)
owned-drivers (ds ∷ dss) (vs ∷ vss) e = ap (λ w. ds ++ w) (owned-drivers dss vss (omega arith))

pub same_owned : {ds es : List DriverState} {vs ws : List Held} → ds ≡ es → vs ≡ ws → as_owned ds vs ≡ as_owned es ws
same_owned {es = es} {vs = vs} d v = ap (λ w. as_owned w vs) d ∙ ap (as_owned es) v
