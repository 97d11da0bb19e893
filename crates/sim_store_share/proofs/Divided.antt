-- A share is divided into several.
use Rattle.std.proofs.Common.{ℕ, zero, suc, ◌+◌, ◌<◌, ◌≤◌, ◌≡◌, ◌++◌, List, [], ◌∷◌, length, get_or, take, drop, refl, ap, sym, ◌∙◌, subst, arith}
use Rattle.std.proofs.Common.{append_assoc, length-append, length-drop}
use Rattle.std.proofs.Math.Decide.{dec_lt}
use Rattle.std.proofs.lemmas.List.{get_or_append_left, get_or_past, length-take}
use Rattle.sim_flat_design.specs.declared.held.Held.{Held}
use Rattle.sim_standard.specs.Drivers.{DriverState}
use Rattle.sim_standard.specs.State.{Owned}
use Rattle.sim_containers.specs.RowArray.{joined}
use Rattle.sim_containers.proofs.Flat.{joined-push}
use Rattle.sim_store_share.specs.Dividing.{AreDivided}
use Rattle.sim_store_share.specs.Shares.{owned_lists}
use Rattle.sim_store_share.proofs.Contents.{length-owned}

none-owned : (dss : List (List DriverState)) → owned_lists dss [] ≡ []
none-owned [] = refl
none-owned (ds ∷ dss) = refl

-- the first processes, and the others
owned-cut : (n : ℕ) (dss : List (List DriverState)) (vss : List (List Held))
    → owned_lists (take n dss) (take n vss) ++ owned_lists (drop n dss) (drop n vss) ≡ owned_lists dss vss
owned-cut zero dss vss = refl
owned-cut (suc n) [] vss = refl
owned-cut (suc n) (ds ∷ dss) [] = none-owned (drop n dss)
owned-cut (suc n) (ds ∷ dss) (vs ∷ vss) = ap (λ w. record { drivers = ds; variables = vs } ∷ w) (owned-cut n dss vss)

-- The shares so far have so many processes each, and with those that are left they are all.
pub record AreSoFar (each : ℕ) (owned : List Owned) (shares : List (List Owned)) (dss : List (List DriverState)) (vss : List (List Held)) : Type 0 where
  pub long : length dss ≡ length vss
  pub whole : joined shares ++ owned_lists dss vss ≡ owned
  pub full : (p : ℕ) → p < length shares → length (get_or shares p []) ≡ each

-- the share at a place, of one share more
pushed : {A : Type 0} (xss : List (List A)) (xs : List A) (each p : ℕ) → ((q : ℕ) → q < length xss → length (get_or xss q []) ≡ each) → p < length xss
    → length (get_or (xss ++ xs ∷ []) p []) ≡ each
pushed xss xs each p full lt = ap length (get_or_append_left xss (xs ∷ []) [] p lt) ∙ full p lt

last-there : {A : Type 0} (xss : List (List A)) (xs : List A) → get_or (xss ++ xs ∷ []) (length xss) [] ≡ xs
last-there [] xs = refl
last-there (ys ∷ xss) xs = last-there xss xs

pub one-more : (each : ℕ) (owned : List Owned) (shares shares' : List (List Owned)) (dss dss' : List (List DriverState)) (vss vss' : List (List Held))
    (share : List Owned) → each < length dss → AreSoFar each owned shares dss vss → share ≡ owned_lists (take each dss) (take each vss)
    → dss' ≡ drop each dss → vss' ≡ drop each vss → shares' ≡ shares ++ share ∷ [] → AreSoFar each owned shares' dss' vss'
one-more each owned shares shares' dss dss' vss vss' share lt i es ed ev eh = record {
  long = omega (arith, i.long, ap length ed, ap length ev, length-drop each dss, length-drop each vss);
  whole = ap (λ (w : List (List Owned)). joined w ++ owned_lists dss' vss') eh
      ∙ (ap (λ w. w ++ owned_lists dss' vss') (joined-push shares share) ∙ (append_assoc (joined shares) share (owned_lists dss' vss')
      ∙ (ap (λ w. joined shares ++ w) rest ∙ i.whole)));
  full = λ p l. subst (λ (w : List (List Owned)). p < length w → length (get_or w p []) ≡ each) (sym eh) (here p) l;
}
  where
    rest : share ++ owned_lists dss' vss' ≡ owned_lists dss vss
    rest = ap (λ w. w ++ owned_lists dss' vss') es ∙ (ap (λ w. owned_lists (take each dss) (take each vss) ++ owned_lists w vss') ed
        ∙ (ap (λ w. owned_lists (take each dss) (take each vss) ++ owned_lists (drop each dss) w) ev ∙ owned-cut each dss vss))

    count : length share ≡ each
    count =
        let a = length-take each dss in
        let b = length-take each vss in
        ap length es ∙ (length-owned (take each dss) (take each vss) (omega (arith, a, b, lt, i.long)) ∙ omega (arith, a, lt))

    here : (p : ℕ) → p < length (shares ++ share ∷ []) → length (get_or (shares ++ share ∷ []) p []) ≡ each
    here p l = elim (dec_lt p (length shares)) [
      | yes h ↦ pushed shares share each p i.full h
      | no h ↦ (let last : length shares ≡ p = omega (arith, l, h, length-append shares (share ∷ [])) in
          subst (λ (q : ℕ). length (get_or (shares ++ share ∷ []) q []) ≡ each) last (ap length (last-there shares share) ∙ count))
    ]

-- those that are left are the last share
pub all-divided : (each : ℕ) (owned : List Owned) (shares shares' : List (List Owned)) (dss : List (List DriverState)) (vss : List (List Held))
    (share : List Owned) → length dss ≤ each → AreSoFar each owned shares dss vss → share ≡ owned_lists dss vss → shares' ≡ shares ++ share ∷ []
    → AreDivided each owned shares'
all-divided each owned shares shares' dss vss share le i es eh = subst (AreDivided each owned) (sym eh) (record {
  whole = joined-push shares share ∙ (ap (λ w. joined shares ++ w) es ∙ i.whole);
  some = omega (arith, length-append shares (share ∷ []));
  full = λ p l. pushed shares share each p i.full (omega (arith, l, length-append shares (share ∷ [])));
  most = most;
})
  where
    count : length share ≤ each
    count = omega (arith, ap length es, length-owned dss vss i.long, le)

    most : (p : ℕ) → length (get_or (shares ++ share ∷ []) p []) ≤ each
    most p = elim (dec_lt p (length shares)) [
      | yes h ↦ (let e = pushed shares share each p i.full h in omega (arith, e))
      | no h ↦ elim (dec_lt p (length shares + 1)) [
        | yes k ↦ (let last : length shares ≡ p = omega (arith, h, k) in
            subst (λ (q : ℕ). length (get_or (shares ++ share ∷ []) q []) ≤ each) last
            (let e = ap length (last-there shares share) in omega (arith, e, count)))
        | no k ↦ (let e = ap length (get_or_past (shares ++ share ∷ []) p [] (omega (arith, k, length-append shares (share ∷ [])))) in omega (arith, e))
      ]
    ]
