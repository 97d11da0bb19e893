-- The numbers that the walk passes on for ports and signals are those of the objects that have their nets.
use Rattle.std.proofs.Common.{◌≡◌, ℕ, zero, suc, ◌+◌, ◌<◌, List, [], ◌∷◌, ◌++◌, true, false, length, get_or, refl, ap, sym, ◌∙◌, subst, arith}
use Rattle.std.proofs.Common.{append-nil, append_assoc, length-append}
use Rattle.sim_text_tokens.proofs.Tests.{by_cases}
use Rattle.sim_flat_blocks.specs.declared.links.Link.{Link}
use Rattle.sim_flat_blocks.specs.declared.links.Link.TheVariants.{To, Constant, Open}
use Rattle.sim_flat_blocks.specs.declared.parts.Object.{Object}
use Rattle.sim_flat_blocks.specs.Blocks.{link_at, LeadsBelow}
use Rattle.sim_flat_expansion.specs.Hierarchy.{PathStep, Path, Occurrence, Named, net_object, linked_to, link_of, is_own, own_before, own_from, before}
use Rattle.sim_flat_expansion.specs.Hierarchy.{net_count, net_number}
use Rattle.sim_flat_expansion.specs.Flat.{object_nets_from}
use Rattle.sim_flat_expansion.specs.Expanding.{object_net_expanded, object_nets_expanded}
use Rattle.sim_flat_expansion.proofs.Sound.{Each}

-- an object without an actual that has a net has a net of its own
linked_to_own : (l : Link) (up : ℕ → Named) (own : Named) → is_own l ≡ true → linked_to l up own ≡ own
linked_to_own (To m) up own e = cc
linked_to_own (Constant v) up own e = refl
linked_to_own Open up own e = refl

object_net_own : (c : Path) (n : ℕ) → is_own (link_of c n) ≡ true → net_object c n ≡ record { path = c; place = n }
unfolding net_object
object_net_own [] n e = refl
object_net_own (s ∷ up) n e = linked_to_own (link_at s.instance.links n) (net_object up) (record { path = s ∷ up; place = n }) e

pub object_nets_length : (all : List Occurrence) (p : Path) (n k : ℕ) → length (object_nets_from all p n k) ≡ k
unfolding object_nets_from
object_nets_length all p n zero = refl
object_nets_length all p n (suc k) = ap suc (object_nets_length all p (n + 1) k)

net_object_at : (all : List Occurrence) (p : Path) (n k m : ℕ) → m < k → get_or (object_nets_from all p n k) m 0 ≡ net_number all (net_object p (n + m))
unfolding object_nets_from
net_object_at all p n zero m lt = absurd (omega arith)
net_object_at all p n (suc k) zero lt = let e : n ≡ n + 0 = omega arith in ap (λ (i : ℕ). net_number all (net_object p i)) e
net_object_at all p n (suc k) (suc m) lt =
    let e : n + 1 + m ≡ n + suc m = omega arith in
    net_object_at all p (n + 1) k m (omega arith) ∙ ap (λ (i : ℕ). net_number all (net_object p i)) e

-- ---- the links of a block's ports, and the numbers of their objects
pub record Linked (all : List Occurrence) (c : Path) (links : List Link) (outer : List ℕ) : Type 0 where
  pub same : (n : ℕ) → link_of c n ≡ link_at links n
  pub object_nets : (n m : ℕ) → link_at links n ≡ To m → get_or outer m 0 ≡ net_number all (net_object c n)

pub linked_top : (all : List Occurrence) → Linked all [] [] []
linked_top all = record { same = λ n. refl; object_nets = λ n m e. (let h : Open ≡ To m = e in cc) }

linked_to_outer : (l : Link) (m : ℕ) (up : ℕ → Named) (own : Named) → l ≡ To m → linked_to l up own ≡ up m
linked_to_outer l m up own e = ap (λ (x : Link). linked_to x up own) e

leads_there : (count : ℕ) (links : List Link) (n m : ℕ) → Each (LeadsBelow count) links → link_at links n ≡ To m → m < count
leads_there count [] n m h e = let d : Open ≡ To m = e in cc
leads_there count (l ∷ ls) zero m h e = let d : l ≡ To m = e in subst (LeadsBelow count) d h.0
leads_there count (l ∷ ls) (suc n) m h e = leads_there count ls n m h.1 e

pub linked_below : (all : List Occurrence) (s : PathStep) (p : Path) (count : ℕ) → Each (LeadsBelow count) s.instance.links
    → Linked all (s ∷ p) s.instance.links (object_nets_from all p 0 count)
unfolding net_object
linked_below all s p count h = record {
  same = λ n. refl;
  object_nets = λ n m e. net_object_at all p 0 count m (leads_there count s.instance.links n m h e)
      ∙ ((let z : 0 + m ≡ m = omega arith in ap (λ (i : ℕ). net_number all (net_object p i)) z)
      ∙ ap (net_number all) (sym (linked_to_outer (link_at s.instance.links n) m (net_object p) (record { path = s ∷ p; place = n }) e)));
}

-- ---- the walk
module _ (all : List Occurrence) (c : Path) (links : List Link) (outer : List ℕ) (linked : Linked all c links outer) (base : ℕ) (is : base
    ≡ before net_count all c) where
  abbrev Stepped : ℕ → ℕ → ℕ × ℕ → Type 0
  Stepped n t x = (x.0 ≡ net_number all (net_object c n)) × (x.1 ≡ base + own_before c (suc n))

  object_net_new : (n t : ℕ) (l : Link) → link_of c n ≡ l → is_own l ≡ true → t ≡ base + own_before c n → Stepped n t (t, t + 1)
  unfolding own_before net_number
  object_net_new n t l el own e =
      let true_here : is_own (link_of c n) ≡ true = ap is_own el ∙ own in
      let object_net_is : net_object c n ≡ record { path = c; place = n } = object_net_own c n true_here in
      let number : net_number all (net_object c n) ≡ before net_count all c + own_before c n = ap (net_number all) object_net_is in
      let more : own_before c (suc n) ≡ own_before c n + 1 = rw true_here refl in
      (omega arith, omega arith)

  net_object_step : (n t : ℕ) (l : Link) → link_of c n ≡ l → t ≡ base + own_before c n → Stepped n t (object_net_expanded outer l t)
  unfolding own_before
  net_object_step n t (To m) el e =
      let false_here : is_own (link_of c n) ≡ false = ap is_own el in
      let more : own_before c (suc n) ≡ own_before c n = rw false_here refl in
      (linked.object_nets n m (sym (linked.same n) ∙ el), omega arith)
  net_object_step n t (Constant v) el e = object_net_new n t (Constant v) el refl e
  net_object_step n t Open el e = object_net_new n t Open el refl e

  pub object_nets_are : (k : ℕ) (object_nets : List ℕ) (n t : ℕ) → length object_nets ≡ n → t ≡ base + own_before c n
      → ((object_nets_expanded outer links k object_nets t).0 ≡ object_nets ++ object_nets_from all c n k)
      × ((object_nets_expanded outer links k object_nets t).1 ≡ base + own_before c (n + k))
  unfolding object_nets_expanded object_nets_from
  object_nets_are zero object_nets n t len e = (sym (append-nil object_nets), e ∙ (let z : n ≡ n + 0 = omega arith in ap (λ (i : ℕ). base + own_before c i) z))
  object_nets_are (suc k) object_nets n t len e =
      let l = link_at links (length object_nets) in
      let el : link_of c n ≡ l = linked.same n ∙ ap (link_at links) (sym len) in
      let x = object_net_expanded outer l t in
      let s = net_object_step n t l el e in
      let longer : length (object_nets ++ x.0 ∷ []) ≡ n + 1 = length-append object_nets (x.0 ∷ []) ∙ ap (λ (i : ℕ). i + 1) len in
      let one : suc n ≡ n + 1 = omega arith in
      let z : n + 1 + k ≡ n + suc k = omega arith in
      let more = object_nets_are k (object_nets ++ x.0 ∷ []) (n + 1) x.1 longer (s.1 ∙ ap (λ (i : ℕ). base + own_before c i) one) in (
        more.0 ∙ (append_assoc object_nets (x.0 ∷ []) (object_nets_from all c (n + 1) k)
            ∙ ap (λ (h : ℕ). object_nets ++ h ∷ object_nets_from all c (n + 1) k) s.0),
        more.1 ∙ ap (λ (i : ℕ). base + own_before c i) z,
      )

-- the number of nets of an occurrence
pub own_count : (c : Path) (n : ℕ) (os : List Object) → own_before c n + length (own_from c n os) ≡ own_before c (n + length os)
unfolding own_before own_from
own_count c n [] = let z : n + 0 ≡ n = omega arith in (let e : own_before c n + 0 ≡ own_before c n = omega arith in e ∙ ap (own_before c) (sym z))
own_count c n (o ∷ os) =
    let ih = own_count c (n + 1) os in
    let z : n + 1 + length os ≡ n + suc (length os) = omega arith in
    let all_of : own_before c (n + 1) + length (own_from c (n + 1) os) ≡ own_before c (n + suc (length os)) = ih ∙ ap (own_before c) z in
    let one : n + 1 ≡ suc n = omega arith in
    let next : own_before c (n + 1) ≡ own_before c (suc n) = ap (own_before c) one in
    by_cases (is_own (link_of c n))
    (λ t. let u : own_before c (suc n) ≡ own_before c n + 1 = rw t refl in rw t (omega arith))
    (λ t. let u : own_before c (suc n) ≡ own_before c n = rw t refl in rw t (omega arith))
