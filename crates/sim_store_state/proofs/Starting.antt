-- The first state of a design.
use Rattle.std.proofs.Common.{ℕ, ◌+◌, ◌-◌, ◌≤◌, ◌≡◌, ◌++◌, true, not, List, [], ◌∷◌, length, take, drop, map}
use Rattle.std.proofs.Common.{refl, ap, sym, ◌∙◌, arith}
use Rattle.std.specs.Prelude.{slice_range}
use Rattle.std.specs.List.{All, AllByRecursion}
use Rattle.std.proofs.lemmas.List.{append-nil, length-map, length-drop, map-append, drop-drop, take-append-drop}
use Rattle.std.proofs.lemmas.List.Elements.{All-append, All-cons, All-from_recursion, All-nil}
use Rattle.sim_logic.specs.declared.logic.Logic.{Logic}
use Rattle.sim_logic.specs.declared.logic.Logic.TheVariants.{U, X, Zero, One, Z, W, L, H, Dash}
use Rattle.sim_logic.specs.Logic.{is_same}
use Rattle.sim_flat_design.specs.declared.design.DriverOf.{DriverOf}
use Rattle.sim_flat_design.specs.declared.held.Held.{Held}
use Rattle.sim_flat_design.specs.Processes.{Process}
use Rattle.sim_flat_design.specs.Designs.{AreOwned, Design, Net}
use Rattle.sim_standard.specs.Drivers.{DriverState}
use Rattle.sim_standard.specs.State.{Owned, all_drivers, driver_values}
use Rattle.sim_standard.specs.Nets.{net_value}
use Rattle.sim_standard.specs.Initialization.{first_owned, first_state}
use Rattle.sim_standard.proofs.Names.{net_started}
use Rattle.sim_containers.specs.RowArray.{joined}
use Rattle.sim_store_nets.specs.Lists.{Lists, NetValues}
use Rattle.sim_store_nets.specs.Nets.{row_from, row_value, value_at, views_of, sources_of}
use Rattle.sim_store_nets.proofs.SourceValues.{rows-from}
use Rattle.sim_store_share.specs.Shares.{owned_lists}
use Rattle.sim_store_state.specs.FlatState.{AreShares, IsConsistent, flat_state_of, held}

-- ---- names for what the first state writes out

-- a driver with this value and nothing pending
abbrev pub idle : Logic → DriverState
idle value = record { value = value; pending = [] }

abbrev pub all_first_owned : Design → List Owned
all_first_owned design = map (first_owned design.drivers) design.processes

-- ---- the drivers of processes stand side by side

-- those of each process are among those of the design
pub owned_within : (nets n first count : ℕ) (ps : List Process) (ds : List DriverOf) → first + length ds ≡ count → AreOwned nets n first ps ds
    → AllByRecursion (λ (p : Process). p.first_driver + p.body.drivers ≤ count) ps
owned_within nets n first count [] ds e o = tt
owned_within nets n first count (p ∷ ps) ds e o = (
  omega (arith, o.0, o.1),
  owned_within nets (n + 1) (first + p.body.drivers) count ps (drop p.body.drivers ds)
      (omega (arith, o.1, length-drop p.body.drivers ds)) o.3,
)

pub all_within : (nets : ℕ) (ps : List Process) (ds : List DriverOf) → AreOwned nets 0 0 ps ds → All
    (λ (p : Process). p.first_driver + p.body.drivers ≤ length ds) ps
all_within nets ps ds o = All-from_recursion (λ (p : Process). p.first_driver + p.body.drivers ≤ length ds) ps
    (owned_within nets 0 0 (length ds) ps ds (omega arith) o)

pub range_is : {X : Type 0} (xs : List X) (first count : ℕ) → slice_range xs first (first + count) ≡ take count (drop first xs)
range_is xs first count = let n : first + count - first ≡ count = omega arith in ap (λ k. take k (drop first xs)) n

abbrev idle_of : DriverOf → DriverState
idle_of d = idle d.first

-- from the first driver of a process on, its drivers and those of the processes after it are all
drivers-from : (nets n first : ℕ) (all ds : List DriverOf) (ps : List Process) → ds ≡ drop first all → AreOwned nets n first ps ds
    → all_drivers (map (first_owned all) ps) ≡ map idle_of ds
drivers-from nets n first all ds [] e o = sym (ap (map idle_of) o)
drivers-from nets n first all ds (p ∷ ps) e o =
    let k = p.body.drivers in
    let here : take k (drop p.first_driver all) ≡ take k ds = ap (λ i. take k (drop i all)) o.0 ∙ ap (take k) (sym e) in
    let rest : drop k ds ≡ drop (first + k) all = ap (drop k) e ∙ drop-drop k first all in
    ap (λ w. map idle_of w ++ all_drivers (map (first_owned all) ps)) here
    ∙ (ap (λ w. map idle_of (take k ds) ++ w) (drivers-from nets (n + 1) (first + k) all (drop k ds) ps rest o.3)
    ∙ (sym (map-append idle_of (take k ds) (drop k ds)) ∙ ap (map idle_of) (take-append-drop k ds)))

pub first_waves : (design : Design) → AreOwned (length design.nets) 0 0 design.processes design.drivers
    → all_drivers (all_first_owned design) ≡ map (λ (d : DriverOf). idle d.first) design.drivers
first_waves design o = drivers-from (length design.nets) 0 0 design.drivers design.drivers design.processes refl o

-- ---- the share of all processes

abbrev drivers_of : List DriverOf → Process → List DriverState
drivers_of ds p = (first_owned ds p).drivers

abbrev variables_of : Process → List Held
variables_of p = p.body.variables

owned-first : (ds : List DriverOf) (ps : List Process) → owned_lists (map (drivers_of ds) ps) (map variables_of ps) ≡ map (first_owned ds) ps
owned-first ds [] = refl
owned-first ds (p ∷ ps) = ap (λ w. first_owned ds p ∷ w) (owned-first ds ps)

drivers-first : (ds : List DriverOf) (ps : List Process) → joined (map (drivers_of ds) ps) ≡ all_drivers (map (first_owned ds) ps)
drivers-first ds [] = refl
drivers-first ds (p ∷ ps) = ap (λ w. (first_owned ds p).drivers ++ w) (drivers-first ds ps)

pub first-share : (design : Design) (dss : List (List DriverState)) (vss : List (List Held)) → dss ≡ map (drivers_of design.drivers) design.processes
    → vss ≡ map variables_of design.processes → owned_lists dss vss ≡ all_first_owned design
first-share design dss vss es ev =
    ap (λ w. owned_lists w vss) es
    ∙ (ap (owned_lists (map (drivers_of design.drivers) design.processes)) ev ∙ owned-first design.drivers design.processes)

pub same-count : (design : Design) (dss : List (List DriverState)) (vss : List (List Held)) → dss ≡ map (drivers_of design.drivers) design.processes
    → vss ≡ map variables_of design.processes → length dss ≡ length vss
same-count design dss vss es ev =
    omega (arith, ap length es, ap length ev, length-map design.processes (drivers_of design.drivers), length-map design.processes variables_of)

pub same-drivers : (design : Design) (dss : List (List DriverState)) → dss ≡ map (drivers_of design.drivers) design.processes
    → joined dss ≡ all_drivers (all_first_owned design)
same-drivers design dss es = ap joined es ∙ drivers-first design.drivers design.processes

-- nothing is pending
abbrev Idle : DriverState → Type 0
Idle d = d.pending ≡ []

idle-all : (ds : List DriverOf) → All Idle (map idle_of ds)
idle-all [] = All-nil Idle
idle-all (d ∷ ds) = All-cons Idle (idle_of d) (map idle_of ds) refl (idle-all ds)

idle-first : (ds : List DriverOf) (ps : List Process) → All Idle (joined (map (drivers_of ds) ps))
idle-first ds [] = All-nil Idle
idle-first ds (p ∷ ps) =
    All-append Idle (drivers_of ds p) (joined (map (drivers_of ds) ps)) (idle-all (take p.body.drivers (drop p.first_driver ds))) (idle-first ds ps)

pub first-idle : (design : Design) (dss : List (List DriverState)) → dss ≡ map (drivers_of design.drivers) design.processes → All Idle (joined dss)
first-idle design dss es = rw es (idle-first design.drivers design.processes)

-- ---- the state

same_as_itself : (v : Logic) → is_same v v ≡ true
same_as_itself U = refl
same_as_itself X = refl
same_as_itself Zero = refl
same_as_itself One = refl
same_as_itself Z = refl
same_as_itself W = refl
same_as_itself L = refl
same_as_itself H = refl
same_as_itself Dash = refl

views-first : (ws : List DriverState) (nets : List Net) → views_of (map (net_value ws) nets) (map (net_value ws) nets) ≡ map (net_started ws) nets
views-first ws [] = refl
views-first ws (n ∷ nets) =
    let v = net_value ws n in
    ap (λ b. record { value = v; event = not b; before = v } ∷ views_of (map (net_value ws) nets) (map (net_value ws) nets)) (same_as_itself v)
    ∙ ap (λ w. net_started ws n ∷ w) (views-first ws nets)

same-rows : (ws : List DriverState) (nets : List Net) → map (net_value ws) nets ≡ map (row_value ws) (sources_of nets)
same-rows ws [] = refl
same-rows ws (n ∷ nets) = ap (λ w. net_value ws n ∷ w) (same-rows ws nets)

-- the value of each net, from the values of the drivers
pub first-values : (ws : List DriverState) (driving values : List Logic) (nets : List Net) → driving ≡ driver_values ws
    → values ≡ map (row_from driving) (sources_of nets) → values ≡ map (net_value ws) nets
first-values ws driving values nets ed ev =
    ev ∙ (ap (λ w. map (row_from w) (sources_of nets)) ed ∙ (rows-from ws (sources_of nets) ∙ sym (same-rows ws nets)))

pub first-held : (design : Design) (values : NetValues) (share : List Owned) (lists : Lists)
    → lists.sources ≡ sources_of design.nets → share ≡ all_first_owned design → lists.driving ≡ driver_values (all_drivers share)
    → values.present ≡ map (row_from lists.driving) (sources_of design.nets) → values.before ≡ values.present
    → held values (share ∷ []) lists ≡ flat_state_of design (first_state design)
first-held design values share lists es eo ed ev eb =
    let owned = all_first_owned design in
    let o : share ++ [] ≡ owned = append-nil share ∙ eo in
    let w : all_drivers share ≡ all_drivers owned = ap all_drivers eo in
    let u : values.present ≡ map (net_value (all_drivers owned)) design.nets =
    first-values (all_drivers owned) lists.driving values.present design.nets (ed ∙ ap driver_values w) ev in
    let v : views_of values.present values.before ≡ map (net_started (all_drivers owned)) design.nets =
    ap (λ z. views_of values.present z) eb ∙ (ap (λ z. views_of z z) u ∙ views-first (all_drivers owned) design.nets) in
    ap (λ z. record { sources = z; nets = views_of values.present values.before; owned = share ++ [] }) es
    ∙ (ap (λ z. record { sources = sources_of design.nets; nets = z; owned = share ++ [] }) v
    ∙ ap (λ z. record { sources = sources_of design.nets; nets = map (net_started (all_drivers owned)) design.nets; owned = z }) o)

pub one-share : {A : Type 0} (xs : List A) → AreShares (length xs ∷ [])
one-share xs = record {
  some = omega arith;
  wide = λ h. absurd (omega (arith, h));
  full = λ p h. absurd (omega (arith, h));
  most = λ p h. let first : p ≡ 0 = omega (arith, h) in rw first (omega arith);
}

pub first-kept : (design : Design) (values : NetValues) (share : List Owned) (lists : Lists)
    → lists.sources ≡ sources_of design.nets → lists.driving ≡ driver_values (all_drivers share)
    → values.present ≡ map (row_from lists.driving) (sources_of design.nets) → values.before ≡ values.present
    → length lists.touched ≡ length values.present → IsConsistent values (share ∷ []) lists
first-kept design values share lists es ed ev eb et = record {
  shared = one-share share;
  nets = ap length eb;
  valued = ed ∙ ap (λ (os : List Owned). driver_values (all_drivers os)) (sym (append-nil share));
  resolving = ev ∙ ap (map (row_from lists.driving)) (sym es);
  touching = record { sized = et; still = λ n _. ap (λ w. value_at w n) (sym eb) };
}
