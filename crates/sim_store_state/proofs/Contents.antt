-- The state that values of nets, shares and lists hold.
use Rattle.std.proofs.Common.{ℕ, zero, suc, ◌+◌, ◌*◌, ◌/◌, ◌%◌, ◌<◌, ◌≤◌, ◌≡◌, List, [], ◌∷◌, length, get_or, set, take, map, refl, ap, sym, subst}
use Rattle.std.proofs.Common.{◌∙◌, arith, length-append}
use Rattle.std.proofs.Math.Decide.{dec_lt}
use Rattle.std.proofs.Math.Seq.{map-set_same}
use Rattle.std.proofs.lemmas.List.{get_or-map, get_or_default, length-map, length-set, take_all}
use Rattle.std.proofs.lemmas.Nat.{div-add-mod', div_below, mod_below}
use Rattle.sim_flat_design.specs.Designs.{Design, Net}
use Rattle.sim_containers.specs.RowArray.{IsAt, joined}
use Rattle.sim_containers.proofs.Placed.{at-get, at-set, before-more, placed-alone}
use Rattle.sim_logic.specs.declared.logic.Logic.{Logic}
use Rattle.sim_standard.specs.Drivers.{DriverState}
use Rattle.sim_standard.specs.State.{State, Owned, all_drivers, driver_values}
use Rattle.sim_standard.specs.Nets.{net_value}
use Rattle.sim_standard.specs.Cycle.{updated}
use Rattle.sim_standard.proofs.Names.{nets_updated, nothing_owned, own_taken}
use Rattle.sim_store_nets.specs.Lists.{Lists, NetValues}
use Rattle.sim_store_nets.specs.Nets.{changed_to, row_from, row_value, sources_of, views_of}
use Rattle.sim_store_nets.proofs.SourceValues.{rows-from}
use Rattle.sim_store_nets.proofs.Views.{length-views_of}
use Rattle.sim_store_state.specs.FlatState.{FlatState, AreShares, IsConsistent, counts, flat_state_of, held}

-- ---- the share of a process

module _ {A : Type 0} (xss : List (List A)) (i : AreShares (counts xss)) where
  size : (p : ℕ) → p < length xss → get_or (counts xss) p 0 ≡ length (get_or xss p [])
  size p lt = get_or-map (λ (xs : List A). length xs) xss p [] 0 lt

  count : length (counts xss) ≡ length xss
  count = length-map xss (λ (xs : List A). length xs)

  full : (p : ℕ) → p + 1 < length xss → length (get_or xss p []) ≡ length (get_or xss 0 [])
  full p lt =
      let whole = i.full p (omega (arith, lt, count)) in
      sym (size p (omega (arith, lt))) ∙ (whole ∙ size 0 (omega (arith, lt)))

  most : (p : ℕ) → p < length xss → length (get_or xss p []) ≤ length (get_or xss 0 [])
  most p lt =
      let bound = i.most p (omega (arith, lt, count)) in
      omega (arith, bound, size p lt, size 0 (omega (arith, lt)))

  starts-at : (p : ℕ) → p < length xss → length (joined (take p xss)) ≡ p * length (get_or xss 0 [])
  starts-at zero lt = omega arith
  starts-at (suc p) lt =
      let rest : length (joined (take p xss)) ≡ p * length (get_or xss 0 []) = starts-at p (omega arith) in
      let one : length (get_or xss p []) ≡ length (get_or xss 0 []) = full p (omega arith) in
      let more = before-more xss p (omega arith) in
      grind arith

bounded : {A : Type 0} (each : ℕ) (xss : List (List A)) → ((p : ℕ) → p < length xss → length (get_or xss p []) ≤ each)
    → length (joined xss) ≤ length xss * each
bounded each [] most = omega arith
bounded each (xs ∷ xss) most =
    let one : length xs ≤ each = most 0 (omega arith) in
    let rest : length (joined xss) ≤ length xss * each = bounded each xss (λ p lt. most (suc p) (omega arith)) in
    let both = length-append xs (joined xss) in
    grind arith

-- the process with a number is in this share, at this place
pub placed-in : {A : Type 0} {xss : List (List A)} → AreShares (counts xss) → (each n : ℕ) → each ≡ length (get_or xss 0 []) → 0 < each
    → n < length (joined xss) → IsAt xss n (n / each) (n % each)
placed-in {xss = xss} i each n is wide h =
    let upper = bounded each xss (λ p lt. subst (λ k. length (get_or xss p []) ≤ k) (sym is) (most xss i p lt)) in
    let among : n / each < length xss = div_below n each (length xss) wide (omega (arith, h, upper)) in
    let whole : n / each * each + n % each ≡ n = div-add-mod' n each in
    let start : length (joined (take (n / each) xss)) ≡ n / each * each = subst (λ k. length (joined (take (n / each) xss)) ≡ n / each * k) (sym is)
    (starts-at xss i (n / each) among) in
    let rest : n % each < each = mod_below n each wide in
    record {
      among = among;
      inside = elim (dec_lt (n / each + 1) (length xss)) [
        | yes k ↦ omega (arith, full xss i (n / each) k, is, rest)
        | no k ↦ (let all : take (suc (n / each)) xss ≡ xss = take_all (suc (n / each)) xss (omega arith) in
            omega (arith, before-more xss (n / each) among, ap (λ w. length (joined w)) all, whole, start, h))
      ];
      counted = omega (arith, whole, start);
    }

-- in a single share it is at its own number
pub placed-alone-in : {A : Type 0} (xss : List (List A)) (n : ℕ) → length xss ≡ 1 → n < length (joined xss) → IsAt xss n 0 n
placed-alone-in xss n one h = placed-alone xss n one h

-- with several, the first has a process
pub wide-in : {A : Type 0} (xss : List (List A)) → AreShares (counts xss) → (length xss ≡ 1 → ⊥) → 0 < length (get_or xss 0 [])
wide-in xss i several =
    let some = i.some in
    let long = length-map xss (λ (xs : List _). length xs) in
    let more : 1 < length xss = elim (dec_lt 1 (length xss)) [
      | yes h ↦ h
      | no h ↦ absurd (several (omega (arith, h, some, long)))
    ] in
    let wide = i.wide (omega (arith, more, long)) in
    omega (arith, wide, size xss i 0 (omega (arith, more)))

-- what a process owns is in its share
pub owned-in : (shares : List (List Owned)) {n p i : ℕ} (own : Owned) (share : List Owned) → IsAt shares n p i → share ≡ get_or shares p share
    → own ≡ get_or share i nothing_owned → own ≡ get_or (joined shares) n nothing_owned
owned-in shares {n} {p} {i} own share at is e =
    e ∙ (ap (λ (w : List Owned). get_or w i nothing_owned) (is ∙ get_or_default shares p share [] at.among) ∙ sym (at-get at nothing_owned))

-- a share with another process, among all
pub put-in : (shares : List (List Owned)) {n p i : ℕ} (x : Owned) (old new : List Owned) → IsAt shares n p i → old ≡ get_or shares p old → new ≡ set old i x
    → joined (set shares p new) ≡ set (joined shares) n x
put-in shares {n} {p} {i} x old new at is e =
    ap (λ (w : List Owned). joined (set shares p w)) (e ∙ ap (λ (w : List Owned). set w i x) (is ∙ get_or_default shares p old [] at.among)) ∙ at-set at x

pub put-counts : (shares : List (List Owned)) {n p i : ℕ} (x : Owned) (old new : List Owned) → IsAt shares n p i → old ≡ get_or shares p old → new ≡ set old i x
    → counts (set shares p new) ≡ counts shares
put-counts shares {n} {p} {i} x old new at is e =
    map-set_same (λ (xs : List Owned). length xs) shares p new old (ap length e ∙ (length-set old i x ∙ ap length is))

-- ---- counts

pub net-count : {h : FlatState} {values : NetValues} {shares : List (List Owned)} {lists : Lists} → held values shares lists ≡ h
    → IsConsistent values shares lists → length h.nets ≡ length values.present
net-count {values = values} e i = ap (λ (g : FlatState). length g.nets) (sym e) ∙ length-views_of values.present values.before (sym i.nets)

pub owned-is : {h : FlatState} (values : NetValues) (shares : List (List Owned)) (lists : Lists) → held values shares lists ≡ h → h.owned ≡ joined shares
owned-is values shares lists e = ap (λ (g : FlatState). g.owned) (sym e)

-- ---- a cycle

-- new values, with the old ones as the values before
views-updated : (ws : List DriverState) (nets : List Net) (values values_before : List Logic) → length values ≡ length values_before
    → length nets ≡ length values → views_of (map (row_value ws) (sources_of nets)) values ≡ nets_updated ws nets (views_of values values_before)
views-updated ws [] values values_before e f = refl
views-updated ws (n ∷ nets) [] values_before e f = absurd (omega arith)
views-updated ws (n ∷ nets) (v ∷ values) [] e f = absurd (omega arith)
views-updated ws (n ∷ nets) (v ∷ values) (l ∷ values_before) e f = ap (λ w. changed_to (net_value ws n) v ∷ w)
    (views-updated ws nets values values_before (omega arith) (omega arith))

abbrev after_update : Design → ℕ → FlatState → FlatState
after_update design t g =
    let owned = map (own_taken t) g.owned in
    record { sources = sources_of design.nets; nets = nets_updated (all_drivers owned) design.nets g.nets; owned = owned }

-- an update of what is held
pub held-updated : {h : FlatState} {values : NetValues} {shares : List (List Owned)} {lists : Lists} → held values shares lists ≡ h
    → IsConsistent values shares lists → (t : ℕ) (values' : NetValues) (shares' : List (List Owned)) (lists' : Lists)
    → joined shares' ≡ map (own_taken t) (joined shares) → lists'.sources ≡ lists.sources → lists'.driving ≡ driver_values (all_drivers (joined shares'))
    → values'.present ≡ map (row_from lists'.driving) lists'.sources → values'.before ≡ values.present
    → (design : Design) (s : State) → h ≡ flat_state_of design s → held values' shares' lists' ≡ flat_state_of design (updated design s t)
held-updated {h} {values} {shares} {lists} e i t values' shares' lists' eo es ed ev eb design s eh =
    let k : held values shares lists ≡ flat_state_of design s = e ∙ eh in
    let sources : lists'.sources ≡ sources_of design.nets = es ∙ ap (λ (g : FlatState). g.sources) k in
    let ws : List DriverState = all_drivers (joined shares') in
    let w : ws ≡ all_drivers (map (own_taken t) (joined shares)) = ap all_drivers eo in
    let present : values'.present ≡ map (row_value ws) (sources_of design.nets) =
    ev ∙ (ap (λ z. map (row_from z) lists'.sources) ed ∙ (rows-from ws lists'.sources ∙ ap (map (row_value ws)) sources)) in
    let n : length design.nets ≡ length values.present =
    omega (
      arith,
      ap length i.resolving,
      length-map lists.sources (row_from lists.driving),
      ap length (sym es ∙ sources),
      length-map design.nets (λ
          (n : Net). n.sources),
    ) in
    let v : views_of values'.present values'.before ≡ nets_updated ws design.nets (views_of values.present values.before) =
    ap (λ z. views_of z values'.before) present ∙ (ap (views_of (map (row_value ws) (sources_of design.nets))) eb
    ∙ views-updated ws design.nets values.present values.before (sym i.nets) n) in
    let here = held values shares lists in
    let whole : held values' shares' lists' ≡ after_update design t here =
    ap (λ a. record { sources = a; nets = views_of values'.present values'.before; owned = joined shares' }) sources
    ∙ (ap (λ a. record { sources = sources_of design.nets; nets = a; owned = joined shares' })
    (v ∙ ap (λ z. nets_updated z design.nets (views_of values.present values.before)) w)
    ∙ ap (λ a. record { sources = sources_of design.nets; nets = (after_update design t here).nets; owned = a }) eo) in
    ◌∙◌ {b = after_update design t here} whole (ap (after_update design t) k)
