-- The walk makes a flat design: its numbers are in range, and each driver has its process.
use Rattle.std.proofs.Common.{◌≡◌, ◌≢◌, ℕ, zero, suc, ◌+◌, ◌<◌, ◌≤◌, List, [], ◌∷◌, ◌++◌, Bool, true, false, map, length, get_or, slice_index_or}
use Rattle.std.proofs.Common.{take, drop, replicate, All, refl, ap, sym, ◌∙◌, subst, arith, append-nil, append_assoc, length-append, length-drop, ◌-◌}
use Rattle.std.proofs.Common.{take_all, drop_of_length-le, eqb, ltb}
use Rattle.std.proofs.lemmas.List.{take-append-le, drop-append-le, length-map, get_or_past}
use Rattle.sim_text_tokens.proofs.Tests.{by_cases}
use Rattle.sim_logic.specs.declared.logic.Logic.{Logic}
use Rattle.sim_flat_design.specs.declared.design.DriverOf.{DriverOf}
use Rattle.sim_flat_design.specs.declared.design.Source.{Source}
use Rattle.sim_flat_design.specs.declared.design.Source.TheVariants as source
use Rattle.sim_flat_design.specs.Designs.{Net, IsSource, IsNet, IsPlaced, IsDriverOf, AreOwned}
use Rattle.sim_flat_design.specs.Processes.{Process, rising, with_number, nets_of}
use Rattle.sim_flat_blocks.specs.declared.links.Link.{Link}
use Rattle.sim_flat_blocks.specs.declared.links.Link.TheVariants.{To, Constant, Open}
use Rattle.sim_flat_blocks.specs.Links.{own}
use Rattle.sim_flat_blocks.specs.declared.parts.Object.{Object}
use Rattle.sim_flat_blocks.specs.declared.parts.Port.{Port}
use Rattle.sim_flat_blocks.specs.declared.parts.BlockProcess.{BlockProcess}
use Rattle.sim_flat_blocks.specs.declared.parts.Instance.{Instance}
use Rattle.sim_flat_blocks.specs.declared.parts.Block.{Block}
use Rattle.sim_flat_expansion.specs.declared.processes.PartialDesign.{PartialDesign}
use Rattle.sim_flat_blocks.specs.Blocks.{IsBlock, IsInstance, IsBlockProcess, LeadsBelow, size, block_of, no_block, link_at, below, driver_of, process_of}
use Rattle.sim_flat_blocks.specs.Blocks.{constant_at}
use Rattle.sim_flat_expansion.specs.Expanding.{FlatSources, Walk, object_net_expanded, object_nets_expanded, block_object_nets, added}
use Rattle.sim_flat_expansion.specs.Expanding.{targets_expanded, processes_expanded, finished, object_expanded, flat_sources_at}
use Rattle.sim_flat_expansion.specs.Expanding.{ports_expanded, signals_expanded, instances_expanded, inside_expanded, block_expanded}

-- ---- a property of each item, by recursion
abbrev pub Each : {X : Type 0} → (X → Type 0) → List X → Type 0
Each P [] = Unit {0}
Each P (x ∷ xs) = P x × Each P xs

pub each_append : {X : Type 0} (P : X → Type 0) (xs ys : List X) → Each P xs → Each P ys → Each P (xs ++ ys)
each_append P [] ys h k = k
each_append P (x ∷ xs) ys h k = (h.0, each_append P xs ys h.1 k)

pub each_map : {X : Type 0} (P Q : X → Type 0) → ((x : X) → P x → Q x) → (xs : List X) → Each P xs → Each Q xs
each_map P Q f [] h = tt
each_map P Q f (x ∷ xs) h = (f x h.0, each_map P Q f xs h.1)

pub each_at : {X : Type 0} (P : X → Type 0) (xs : List X) (n : ℕ) (d : X) → Each P xs → P d → P (get_or xs n d)
each_at P [] n d h e = e
each_at P (x ∷ xs) zero d h e = h.0
each_at P (x ∷ xs) (suc n) d h e = each_at P xs n d h.1 e

pub each_there : {X : Type 0} (P : X → Type 0) (xs : List X) (n : ℕ) (d : X) → Each P xs → n < length xs → P (get_or xs n d)
each_there P [] n d h lt = absurd (omega arith)
each_there P (x ∷ xs) zero d h lt = h.0
each_there P (x ∷ xs) (suc n) d h lt = each_there P xs n d h.1 (omega arith)

pub each_of : {X : Type 0} (P : X → Type 0) (xs : List X) → All P xs → Each P xs
each_of P [] h = tt
each_of P (x ∷ xs) h = (h 0 x (omega arith), each_of P xs (λ k d lt. h (suc k) d (omega arith)))

pub all_of : {X : Type 0} (P : X → Type 0) (xs : List X) → Each P xs → All P xs
all_of P xs h k d lt = each_there P xs k d h lt

abbrev pub Below : ℕ → List ℕ → Type 0
Below n xs = Each (λ (m : ℕ). m < n) xs

below_more : (n k : ℕ) (xs : List ℕ) → n ≤ k → Below n xs → Below k xs
below_more n k xs le h = each_map (λ (m : ℕ). m < n) (λ (m : ℕ). m < k) (λ m lt. omega arith) xs h

-- ---- the number of objects that are nets
pub fresh : List Link → ℕ → ℕ → ℕ
fresh links i zero = 0
fresh links i (suc k) = own (link_at links i) + fresh links (i + 1) k

net_object_sound : (outer : List ℕ) (l : Link) (n : ℕ) → Below n outer → LeadsBelow (length outer) l
    → ((object_net_expanded outer l n).0 < (object_net_expanded outer l n).1) × ((object_net_expanded outer l n).1 ≡ n + own l)
net_object_sound outer (To m) n h lt = (each_there (λ (i : ℕ). i < n) outer m 0 h lt, omega arith)
net_object_sound outer (Constant value) n h lt = (omega arith, refl)
net_object_sound outer Open n h lt = (omega arith, refl)

object_nets_sound : (outer : List ℕ) (links : List Link) (k : ℕ) (object_nets : List ℕ) (n : ℕ)
    → ((m : ℕ) → n ≤ m → Below m outer) → Each (LeadsBelow (length outer)) links → Below n object_nets
    → Below (object_nets_expanded outer links k object_nets n).1 (object_nets_expanded outer links k object_nets n).0
    × ((object_nets_expanded outer links k object_nets n).1 ≡ n + fresh links (length object_nets) k)
    × (length (object_nets_expanded outer links k object_nets n).0 ≡ length object_nets + k)
unfolding object_nets_expanded fresh
object_nets_sound outer links zero object_nets n o l h = (h, omega arith, omega arith)
object_nets_sound outer links (suc k) object_nets n o l h =
    let link = link_at links (length object_nets) in
    let x = object_net_expanded outer link n in
    let s = net_object_sound outer link n (o n (omega arith)) (each_at (LeadsBelow (length outer)) links (length object_nets) Open l tt) in
    let some : Below x.1 (object_nets ++ x.0 ∷ []) =
    each_append (λ (m : ℕ). m < x.1) object_nets (x.0 ∷ []) (below_more n x.1 object_nets (omega arith) h) (s.0, tt) in
    let longer : length (object_nets ++ x.0 ∷ []) ≡ length object_nets + 1 = simp length-append (omega arith) in
    let more = object_nets_sound outer links k (object_nets ++ x.0 ∷ []) x.1 (λ m le. o m (omega arith)) l some in
    let count : fresh links (length (object_nets ++ x.0 ∷ [])) k ≡ fresh links (length object_nets + 1) k = ap (λ (i : ℕ). fresh links i k) longer in
    (more.0, omega arith, omega arith)

-- ---- flat sources
abbrev pub AreInRange : ℕ → FlatSources → Type 0
AreInRange d flat_sources = Each (λ (l : List Source). Each (IsSource d) l) flat_sources

source_more : (d e : ℕ) → d ≤ e → (s : Source) → IsSource d s → IsSource e s
source_more d e le (source.Driver n) h = omega arith
source_more d e le (source.Constant value) h = tt

in_range_more : (d e : ℕ) (ls : FlatSources) → d ≤ e → AreInRange d ls → AreInRange e ls
in_range_more d e ls le h =
    each_map (λ (l : List Source). Each (IsSource d) l) (λ (l : List Source). Each (IsSource e) l)
    (λ l k. each_map (IsSource d) (IsSource e) (source_more d e le) l k) ls h

in_range_added : (d : ℕ) (ls : FlatSources) (m : ℕ) (more : List Source) → AreInRange d ls → Each (IsSource d) more → AreInRange d (added ls m more)
unfolding added
in_range_added d [] m more h e = tt
in_range_added d (l ∷ ls) zero more h e = (each_append (IsSource d) l more h.0 e, h.1)
in_range_added d (l ∷ ls) (suc m) more h e = (h.0, in_range_added d ls m more h.1 e)

in_range_none : (d k : ℕ) → AreInRange d (replicate k [])
in_range_none d zero = tt
in_range_none d (suc k) = (tt, in_range_none d k)

finished_sound : (d : ℕ) (v : Logic) (l : List Source) → Each (IsSource d) l → (finished v l ≢ []) × Each (IsSource d) (finished v l)
finished_sound d v [] h = (λ e. cc, (tt, tt))
finished_sound d v (s ∷ ss) h = (λ e. cc, h)

-- ---- processes
each_with : (P : ℕ → Type 0) (n : ℕ) (xs : List ℕ) → P n → Each P xs → Each P (with_number n xs)
unfolding with_number
each_with P n [] p h = (p, tt)
each_with P n (x ∷ xs) p h =
    by_cases (eqb n x) (λ t. rw t h) (λ t. by_cases (ltb n x) (λ s. rw (t, s) (p, h)) (λ s. rw (t, s) (h.0, each_with P n xs p h.1)))

each_rising : (P : ℕ → Type 0) (xs : List ℕ) → Each P xs → Each P (rising xs)
unfolding rising
each_rising P [] h = tt
each_rising P (x ∷ xs) h = each_with P x (rising xs) h.0 (each_rising P xs h.1)

nets_below : (n : ℕ) (object_nets xs : List ℕ) → Below n object_nets → Below (length object_nets) xs → Below n (nets_of object_nets xs)
nets_below n object_nets [] h k = tt
nets_below n object_nets (x ∷ xs) h k = (each_there (λ (m : ℕ). m < n) object_nets x 0 h k.0, nets_below n object_nets xs h k.1)

drivers_there : (n : ℕ) (object_nets : List ℕ) (b : Block) (q : ℕ) (ts : List ℕ) → Below n object_nets → Below (length object_nets) ts
    → Each (IsDriverOf n q) (map (driver_of object_nets b q) ts)
drivers_there n object_nets b q [] h k = tt
drivers_there n object_nets b q (t ∷ ts) h k = ((refl, each_there (λ (m : ℕ). m < n) object_nets t 0 h k.0), drivers_there n object_nets b q ts h k.1)

targets_sound : (object_nets : List ℕ) (b : Block) (q : ℕ) (ts : List ℕ) (ls : FlatSources) (ds : List DriverOf) → AreInRange (length ds) ls
    → AreInRange (length (targets_expanded object_nets b q ts ls ds).1) (targets_expanded object_nets b q ts ls ds).0
    × ((targets_expanded object_nets b q ts ls ds).1 ≡ ds ++ map (driver_of object_nets b q) ts)
unfolding targets_expanded
targets_sound object_nets b q [] ls ds h = (h, sym (append-nil ds))
targets_sound object_nets b q (t ∷ ts) ls ds h =
    let d = driver_of object_nets b q t in
    let one : length ds < length (ds ++ d ∷ []) = simp length-append (omega arith) in
    let all : AreInRange (length (ds ++ d ∷ [])) (added ls t (source.Driver (length ds) ∷ [])) =
    in_range_added (length (ds ++ d ∷ [])) ls t (source.Driver (length ds) ∷ []) (in_range_more (length ds) (length (ds ++ d ∷ [])) ls (omega arith) h)
    (one, tt) in
    let more = targets_sound object_nets b q ts (added ls t (source.Driver (length ds) ∷ [])) (ds ++ d ∷ []) all in
    (more.0, more.1 ∙ simp append_assoc)

-- ---- the owner of each driver
owned_more : (n m q first : ℕ) (ps : List Process) (ds : List DriverOf) → n ≤ m → AreOwned n q first ps ds → AreOwned m q first ps ds
owned_more n m q first [] ds le h = h
owned_more n m q first (p ∷ ps) ds le h = (
  h.0,
  h.1,
  λ i d lt. ((h.2 i d lt).0, let k = (h.2 i d lt).1 in omega arith),
  owned_more n m (q + 1) (first + p.body.drivers) ps
      (drop p.body.drivers ds) le h.3,
)

-- one more process, with its drivers
owned_push : (n q first : ℕ) (ps : List Process) (ds : List DriverOf) (p : Process) (new : List DriverOf) (at : ℕ)
    → AreOwned n q first ps ds → at ≡ q + length ps → p.first_driver ≡ first + length ds → p.body.drivers ≡ length new
    → All (IsDriverOf n at) new → AreOwned n q first (ps ++ p ∷ []) (ds ++ new)
owned_push n q first [] ds p new at h ea ef el all =
    let e : ds ++ new ≡ new = ap (λ (xs : List DriverOf). xs ++ new) h in
    let here : at ≡ q = ea ∙ (let z : q + 0 ≡ q = omega arith in z) in
    let none : length ds ≡ 0 = ap (λ (xs : List DriverOf). length xs) h in
    let t : take p.body.drivers new ≡ new = take_all p.body.drivers new (omega arith) in
    let d : drop p.body.drivers new ≡ [] = drop_of_length-le new (omega arith) in
    subst (λ (xs : List DriverOf). AreOwned n q first (p ∷ []) xs) (sym e)
    (omega arith, omega arith, subst (All (IsDriverOf n q)) (sym t) (subst (λ (i : ℕ). All (IsDriverOf n i) new) here all), d)
owned_push n q first (x ∷ xs) ds p new at h ea ef el all =
    let k = x.body.drivers in
    let le : k ≤ length ds = h.1 in
    let t : take k (ds ++ new) ≡ take k ds = take-append-le k ds new le in
    let d : drop k (ds ++ new) ≡ drop k ds ++ new = drop-append-le k ds new le in
    let long : length (drop k ds) ≡ length ds - k = length-drop k ds in
    let more = owned_push n (q + 1) (first + k) xs (drop k ds) p new at h.3 (omega arith) (omega arith) el all in (
      h.0,
      simp length-append (omega arith),
      subst (All (IsDriverOf n q)) (sym t) h.2,
      subst (λ (ys : List DriverOf). AreOwned n (q + 1) (first + k)
          (xs ++ p ∷ []) ys) (sym d) more,
    )

pub record Fine (n : ℕ) (f : PartialDesign) : Type 0 where
  pub placed : Each (IsPlaced n) f.processes
  pub owned : AreOwned n 0 0 f.processes f.drivers

placed_more : (n m : ℕ) → n ≤ m → (p : Process) → IsPlaced n p → IsPlaced m p
placed_more n m le p h = record {
  object_nets = λ i d lt. (let k = h.object_nets i d lt in omega arith);
  sensitive = λ i d lt.
      (let k = h.sensitive i d lt in omega arith);
}

fine_more : (n m : ℕ) (f : PartialDesign) → n ≤ m → Fine n f → Fine m f
fine_more n m f le h = record {
  placed = each_map (IsPlaced n) (IsPlaced m) (placed_more n m le) f.processes h.placed;
  owned = owned_more n m 0 0 f.processes f.drivers le h.owned;
}

process_placed : (n : ℕ) (object_nets : List ℕ) (first : ℕ) (t : BlockProcess) → Below n object_nets → Below (length object_nets) t.sensitivity
    → IsPlaced n (process_of object_nets first t)
process_placed n object_nets first t h k = record {
  object_nets = all_of (λ (m : ℕ). m < n) object_nets h;
  sensitive = all_of (λ (m : ℕ). m < n) (rising (nets_of object_nets t.sensitivity))
      (each_rising (λ (m : ℕ). m < n) (nets_of object_nets t.sensitivity) (nets_below n object_nets t.sensitivity h k));
}

pub record AfterProcesses (object_nets : List ℕ) (b : Block) (f : PartialDesign) (x : FlatSources × PartialDesign) : Type 0 where
  pub fine : Fine f.nets x.1
  pub in_range : AreInRange (length x.1.drivers) x.0
  pub nets : x.1.nets ≡ f.nets
  pub drivers : length f.drivers ≤ length x.1.drivers

processes_sound : (object_nets : List ℕ) (b : Block) (ts : List BlockProcess) (ls : FlatSources) (f : PartialDesign) → Below f.nets object_nets
    → length object_nets ≡ size b
    → Each (IsBlockProcess b) ts → Fine f.nets f → AreInRange (length f.drivers) ls → AfterProcesses object_nets b f (processes_expanded object_nets b ts ls f)
unfolding processes_expanded
processes_sound object_nets b [] ls f h len each fine in_range = record { fine = fine; in_range = in_range; nets = refl; drivers = omega arith }
processes_sound object_nets b (t ∷ ts) ls f h len each fine in_range =
    let q = length f.processes in
    let x = targets_expanded object_nets b q t.targets ls f.drivers in
    let s = targets_sound object_nets b q t.targets ls f.drivers in_range in
    let new = map (driver_of object_nets b q) t.targets in
    let p = process_of object_nets (length f.drivers) t in
    let g : PartialDesign = record { nets = f.nets; processes = f.processes ++ p ∷ []; drivers = x.1 } in
    let there : Below (length object_nets) t.targets = subst (λ (k : ℕ). Below k t.targets) (sym len) (each_of (λ
    (m : ℕ). m < size b) t.targets each.0.targets) in
    let sensitive : Below (length object_nets) t.sensitivity =
    subst (λ (k : ℕ). Below k t.sensitivity) (sym len) (each_of (λ (m : ℕ). m < size b) t.sensitivity each.0.sensitivity) in
    let count : t.body.drivers ≡ length new = sym each.0.drivers ∙ sym (length-map t.targets (driver_of object_nets b q)) in
    let owned : AreOwned f.nets 0 0 (f.processes ++ p ∷ []) (f.drivers ++ new) =
    owned_push f.nets 0 0 f.processes f.drivers p new q fine.owned (omega arith) (omega arith) count
    (all_of (IsDriverOf f.nets q) new (drivers_there f.nets object_nets b q t.targets h there)) in
    let good : Fine f.nets g = record {
      placed = each_append (IsPlaced f.nets) f.processes (p ∷ []) fine.placed (process_placed f.nets object_nets (length f.drivers) t h sensitive, tt);
      owned = subst (λ (ds : List DriverOf). AreOwned f.nets 0 0 (f.processes ++ p ∷ []) ds) (sym s.1) owned;
    } in
    let longer : length x.1 ≡ length f.drivers + length new = ap (λ (ds : List DriverOf). length ds) s.1 ∙ length-append f.drivers new in
    let more = processes_sound object_nets b ts x.0 g h len each.1 good s.0 in
    record { fine = more.fine; in_range = more.in_range; nets = more.nets; drivers = (let k = more.drivers in omega arith) }

-- ---- nets
leaves_sound : (d : ℕ) (link : Link) (o : Object) (own : FlatSources) (n : ℕ) → AreInRange d own
    → (flat_sources_at link o own n ≢ []) × Each (IsSource d) (flat_sources_at link o own n)
leaves_sound d link o own n h =
    finished_sound d (constant_at link o.default) (slice_index_or own n []) (each_at (λ (l : List Source). Each (IsSource d) l) own n [] h tt)

net_sound : (d : ℕ) (name : List ℕ) (l : List Source) → (l ≢ []) × Each (IsSource d) l → IsNet d (record { name = name; sources = l })
net_sound d name l h = (h.0, all_of (IsSource d) l h.1)

object_expanded_sound : (d : ℕ) (prefix : List ℕ) (link : Link) (drives : Bool) (o : Object) (l : List Source) (nets : List Net) (outer : FlatSources)
    → (l ≢ []) × Each (IsSource d) l → Each (IsNet d) nets → AreInRange d outer
    → Each (IsNet d) (object_expanded prefix link drives o l nets outer).0 × AreInRange d (object_expanded prefix link drives o l nets outer).1
    × (length (object_expanded prefix link drives o l nets outer).0 ≡ length nets + own link)
object_expanded_sound d prefix (To m) true o l nets outer s h k = (h, in_range_added d outer m l k s.1, omega arith)
object_expanded_sound d prefix (To m) false o l nets outer s h k = (h, k, omega arith)
object_expanded_sound d prefix (Constant value) drives o l nets outer s h k = (
  each_append (IsNet d) nets (record { name = prefix ++ o.name.text; sources = l } ∷ []) h (
    net_sound d
        (prefix ++ o.name.text) l s,
    tt,
  ),
  k,
  length-append nets (record { name = prefix ++ o.name.text; sources = l } ∷ []),
)
object_expanded_sound d prefix Open drives o l nets outer s h k = (
  each_append (IsNet d) nets (record { name = prefix ++ o.name.text; sources = l } ∷ []) h (
    net_sound d
        (prefix ++ o.name.text) l s,
    tt,
  ),
  k,
  length-append nets (record { name = prefix ++ o.name.text; sources = l } ∷ []),
)

ports_sound : (d : ℕ) (prefix : List ℕ) (links : List Link) (mine : FlatSources) (n : ℕ) (ps : List Port) (nets : List Net) (outer : FlatSources)
    → AreInRange d mine → Each (IsNet d) nets → AreInRange d outer
    → Each (IsNet d) (ports_expanded prefix links mine n ps nets outer).0 × AreInRange d (ports_expanded prefix links mine n ps nets outer).1
    × (length (ports_expanded prefix links mine n ps nets outer).0 ≡ length nets + fresh links n (length ps))
unfolding ports_expanded fresh
ports_sound d prefix links mine n [] nets outer m h k = (h, k, omega arith)
ports_sound d prefix links mine n (p ∷ ps) nets outer m h k =
    let link = link_at links n in
    let l = flat_sources_at link p.object mine n in
    let x = object_expanded prefix link p.drives p.object l nets outer in
    let s = object_expanded_sound d prefix link p.drives p.object l nets outer (leaves_sound d link p.object mine n m) h k in
    let more = ports_sound d prefix links mine (n + 1) ps x.0 x.1 m s.0 s.1 in
    (more.0, more.1, (let a = s.2 in let b = more.2 in omega arith))

signals_sound : (d : ℕ) (prefix : List ℕ) (mine : FlatSources) (n : ℕ) (os : List Object) (nets : List Net) → AreInRange d mine → Each (IsNet d) nets
    → Each (IsNet d) (signals_expanded prefix mine n os nets) × (length (signals_expanded prefix mine n os nets) ≡ length nets + length os)
unfolding signals_expanded
signals_sound d prefix mine n [] nets m h = (h, omega arith)
signals_sound d prefix mine n (o ∷ os) nets m h =
    let l = finished o.default (slice_index_or mine n []) in
    let s = finished_sound d o.default (slice_index_or mine n []) (each_at (λ (l : List Source). Each (IsSource d) l) mine n [] m tt) in
    let x : Net = record { name = prefix ++ o.name.text; sources = l } in
    let more = signals_sound d prefix mine (n + 1) os (nets ++ x ∷ []) m (each_append (IsNet d) nets (x ∷ []) h (
      net_sound d
          (prefix ++ o.name.text) l s,
      tt,
    )) in
    let longer : length (nets ++ x ∷ []) ≡ length nets + 1 = length-append nets (x ∷ []) in
    (more.0, (let b = more.1 in omega arith))

-- ports and signals: an object past the links is a net
fresh_past : (links : List Link) (i k : ℕ) → length links ≤ i → fresh links i k ≡ k
unfolding fresh
fresh_past links i zero le = refl
fresh_past links i (suc k) le =
    let e : link_at links i ≡ Open = get_or_past links i Open le in
    let one : own (link_at links i) ≡ 1 = ap own e in
    let more = fresh_past links (i + 1) k (omega arith) in
    omega arith

fresh_both : (links : List Link) (i a k : ℕ) → fresh links i (a + k) ≡ fresh links i a + fresh links (i + a) k
unfolding fresh
fresh_both links i zero k = let e : i + 0 ≡ i = omega arith in let f : 0 + k ≡ k = omega arith in ap (λ (n : ℕ). fresh links i n) f
    ∙ (ap (λ (n : ℕ). fresh links n k) (sym e) ∙ (omega arith))
fresh_both links i (suc a) k =
    let e : i + 1 + a ≡ i + suc a = omega arith in
    let s : suc a + k ≡ suc (a + k) = omega arith in
    let m = fresh_both links (i + 1) a k in
    let r : fresh links (i + 1 + a) k ≡ fresh links (i + suc a) k = ap (λ (n : ℕ). fresh links n k) e in
    ap (fresh links i) s ∙ (omega arith)

net_more : (d e : ℕ) → d ≤ e → (x : Net) → IsNet d x → IsNet e x
net_more d e le x h = (h.0, λ i s lt. source_more d e le (get_or x.sources i s) (h.1 i s lt))

-- ---- the walk

-- the result of a part of the walk, where this many of its nets were counted before it
pub record After (count : ℕ) (f : PartialDesign) (x : List Net × FlatSources × PartialDesign) : Type 0 where
  pub fine : Fine x.2.nets x.2
  pub in_range : AreInRange (length x.2.drivers) x.1
  pub nets : Each (IsNet (length x.2.drivers)) x.0
  pub total : f.nets + length x.0 ≡ x.2.nets + count
  pub rises : f.nets ≤ x.2.nets
  pub drivers : length f.drivers ≤ length x.2.drivers

module _ (blocks : List Block) (known : All (IsBlock blocks) blocks) where
  abbrev SoundWalk : Walk → Type 0
  SoundWalk one = (prefix : List ℕ) (links : List Link) (outer : List ℕ) (b : Block) (around : FlatSources) (f : PartialDesign)
      → IsBlock blocks b → length links ≤ length b.ports → Each (LeadsBelow (length outer)) links → Below f.nets outer
      → Fine f.nets f → AreInRange (length f.drivers) around → After 0 f (one prefix links outer b around f)

  instances_sound : (one : Walk) → SoundWalk one → (object_nets prefix : List ℕ) (is : List Instance) (b : Block) (nets : List Net) (ls : FlatSources)
      (f : PartialDesign)
      → Each (IsInstance blocks b) is → length object_nets ≡ size b → Below f.nets object_nets → Fine f.nets f → AreInRange (length f.drivers) ls
      → Each (IsNet (length f.drivers)) nets → After (length nets) f (instances_expanded one blocks object_nets prefix is nets ls f)
  unfolding instances_expanded
  instances_sound one sound object_nets prefix [] b nets ls f each len h fine in_range n =
      record { fine = fine; in_range = in_range; nets = n; total = refl; rises = omega arith; drivers = omega arith }
  instances_sound one sound object_nets prefix (i ∷ is) b nets ls f each len h fine in_range n =
      let inner = block_of blocks i in
      let lt : i.block < length blocks = each.0.known in
      let x = one (below prefix i.label.text) i.links object_nets inner ls f in
      let leads : Each (LeadsBelow (length object_nets)) i.links =
      subst (λ (k : ℕ). Each (LeadsBelow k) i.links) (sym len) (each_of (LeadsBelow (size b)) i.links each.0.leads) in
      let a = sound (below prefix i.label.text) i.links object_nets inner ls f (known i.block no_block lt)
      (let e = each.0.links in omega arith) leads h fine in_range in
      let all : Each (IsNet (length x.2.drivers)) (nets ++ x.0) =
      each_append (IsNet (length x.2.drivers)) nets x.0
      (each_map (IsNet (length f.drivers)) (IsNet (length x.2.drivers)) (net_more (length f.drivers) (length x.2.drivers) a.drivers) nets n) a.nets in
      let more = instances_sound one sound object_nets prefix is b (nets ++ x.0) x.1 x.2 each.1 len
      (below_more f.nets x.2.nets object_nets a.rises h) a.fine a.in_range all in
      let longer : length (nets ++ x.0) ≡ length nets + length x.0 = length-append nets x.0 in
      record {
        fine = more.fine;
        in_range = more.in_range;
        nets = more.nets;
        total = (let p = more.total in let q = a.total in omega arith);
        rises = (let p = more.rises in let q = a.rises in omega arith);
        drivers = (let p = more.drivers in let q = a.drivers in omega arith);
      }

  inside_sound : (one : Walk) → SoundWalk one → (prefix : List ℕ) (links : List Link) (object_nets : List ℕ) (b : Block)
      (around : FlatSources) (f : PartialDesign) → IsBlock blocks b → length object_nets ≡ size b → Below f.nets object_nets → Fine f.nets f
      → AreInRange (length f.drivers) around
      → After (fresh links 0 (length b.ports) + length b.signals) f (inside_expanded one blocks prefix links object_nets b around f)
  unfolding inside_expanded
  inside_sound one sound prefix links object_nets b around f is len h fine in_range =
      let none = replicate (size b) [] in
      let p = processes_expanded object_nets b b.processes none f in
      let a = processes_sound object_nets b b.processes none f h len (each_of (IsBlockProcess b) b.processes is.processes) fine
      (in_range_none (length f.drivers)
      (size b)) in
      let same : f.nets ≡ p.1.nets = sym a.nets in
      let x = instances_expanded one blocks object_nets prefix b.instances [] p.0 p.1 in
      let c = instances_sound one sound object_nets prefix b.instances b [] p.0 p.1 (each_of (IsInstance blocks b) b.instances is.instances) len
      (subst (λ (k : ℕ). Below k object_nets) same h) (subst (λ (k : ℕ). Fine k p.1) same a.fine) a.in_range tt in
      let d = length x.2.drivers in
      let le : length f.drivers ≤ d = (let u = a.drivers in let v = c.drivers in omega arith) in
      let s = ports_sound d prefix links x.1 0 b.ports [] around c.in_range tt (in_range_more (length f.drivers) d around le in_range) in
      let mine = ports_expanded prefix links x.1 0 b.ports [] around in
      let t = signals_sound d prefix x.1 (length b.ports) b.signals mine.0 c.in_range s.0 in
      let nets = signals_expanded prefix x.1 (length b.ports) b.signals mine.0 in
      let longer : length (nets ++ x.0) ≡ length nets + length x.0 = length-append nets x.0 in
      record {
        fine = c.fine;
        in_range = s.1;
        nets = each_append (IsNet d) nets x.0 t.0 c.nets;
        total = (let u = c.total in let v = s.2 in let w = t.1 in omega arith);
        rises = (let u = c.rises in omega arith);
        drivers = le;
      }

  pub block_expanded_sound : (k : ℕ) → SoundWalk (block_expanded blocks k)
  unfolding block_expanded block_object_nets
  block_expanded_sound zero prefix links outer b around f is ll leads h fine in_range =
      record { fine = fine; in_range = in_range; nets = tt; total = refl; rises = omega arith; drivers = omega arith }
  block_expanded_sound (suc k) prefix links outer b around f is ll leads h fine in_range =
      let x = object_nets_expanded outer links (size b) [] f.nets in
      let s = object_nets_sound outer links (size b) [] f.nets (λ m le. below_more f.nets m outer le h) leads tt in
      let g : PartialDesign = record { nets = x.1; processes = f.processes; drivers = f.drivers } in
      let le : f.nets ≤ x.1 = (let e = s.1 in omega arith) in
      let len : length x.0 ≡ size b = (let e = s.2 in omega arith) in
      let up = fine_more f.nets x.1 f le fine in
      let good : Fine x.1 g = record { placed = up.placed; owned = up.owned } in
      let a = inside_sound (block_expanded blocks k) (block_expanded_sound k) prefix links x.0 b around g is len s.0 good in_range in
      let both : fresh links 0 (size b) ≡ fresh links 0 (length b.ports) + fresh links (0 + length b.ports) (length b.signals) = fresh_both links 0
      (length b.ports) (length b.signals) in
      let past : fresh links (0 + length b.ports) (length b.signals) ≡ length b.signals = fresh_past links (0 + length b.ports) (length b.signals)
      (omega arith) in
      record {
        fine = a.fine;
        in_range = a.in_range;
        nets = a.nets;
        total = (let u = a.total in let e = s.1 in omega arith);
        rises = (let u = a.rises in omega arith);
        drivers = a.drivers;
      }
