-- Ports and signals with many sources: the first of them, block by block.
use Rattle.std.proofs.Common.{◌≡◌, ℕ, zero, suc, ◌+◌, ◌<◌, ◌≤◌, ◌↔◌, nat_lt, List, [], ◌∷◌, Bool, true, false, Option, Some, None, min, length, get_or}
use Rattle.std.proofs.Common.{slice_get, ◌⊎◌, inl, inr}
use Rattle.std.proofs.Common.{refl, ap, sym, ◌∙◌, subst, arith, if◌then◌else◌, map, length-append}
use Rattle.std.specs.List.{Contains}
use Rattle.std.proofs.lemmas.List.{get_or_past, length-map}
use Rattle.std.proofs.lemmas.List.Elements.{Contains-append_left, Contains-append_right, Contains-append_cases}
use Rattle.std.proofs.lemmas.Bool.{ltb-true, lt-ltb}
use Rattle.std.proofs.lemmas.Option.{slice_get_past}
use Rattle.sim_flat_blocks.specs.declared.parts.Object.{Object}
use Rattle.sim_flat_blocks.specs.declared.parts.Port.{Port}
use Rattle.sim_flat_blocks.specs.declared.parts.Block.{Block}
use Rattle.sim_flat_blocks.specs.Blocks.{no_block, objects, size}
use Rattle.sim_flat_graph.specs.Graph.{graph_of, block_at, Reaches}
use Rattle.sim_flat_graph.specs.Least.{IsLeast, least_of}
use Rattle.sim_flat_graph.specs.Sources.{HasManySources, IsLeastIn, IsLeastOn, source_count, places_of, declared_place}
use Rattle.sim_flat_graph.proofs.Lists.{by_order, nothing_in, first_in, one_of}
use Rattle.sim_flat_graph.proofs.Leasts.{said_otherwise, with_more}

-- ---- the objects of a list with a count above one
record Declared (counts : List ℕ) (from : ℕ) (os : List Object) (at : ℕ) : Type 0 where
  place : ℕ
  object : Object
  is : slice_get os place ≡ Some object
  unresolved : object.resolved ≡ false
  several : 1 < get_or counts (from + place) 0
  declared : object.name.at ≡ at

this_one : (o : Object) (count at : ℕ) → Contains (declared_place o count) at → (o.resolved ≡ false) × (1 < count) × (o.name.at ≡ at)
this_one o count at c = by_type o.resolved refl c
  where
    by_count : (b : Bool) → nat_lt 1 count ≡ b → Contains (if b then o.name.at ∷ [] else []) at → (1 < count) × (o.name.at ≡ at)
    by_count true t c = (ltb-true 1 count t, only (one_of o.name.at at [] c))
      where
        only : (o.name.at ≡ at) ⊎ Contains [] at → o.name.at ≡ at
        only (inl e) = e
        only (inr c) = nothing_in at c
    by_count false t c = nothing_in at c

    by_type : (b : Bool) → o.resolved ≡ b → Contains (if b then [] else (if nat_lt 1 count then o.name.at ∷ [] else [])) at
        → (o.resolved ≡ false) × (1 < count) × (o.name.at ≡ at)
    by_type true t c = nothing_in at c
    by_type false t c = (t, (by_count (nat_lt 1 count) refl c).0, (by_count (nat_lt 1 count) refl c).1)

that_one : (o : Object) (count : ℕ) → o.resolved ≡ false → 1 < count → Contains (declared_place o count) o.name.at
that_one o count type above = rw (type, lt-ltb 1 count above) (first_in o.name.at [])

first_declared : (counts : List ℕ) (from : ℕ) (o : Object) (os : List Object) (at : ℕ) → Contains (declared_place o (get_or counts from 0)) at
    → Declared counts from (o ∷ os) at
first_declared counts from o os at c =
    let h = this_one o (get_or counts from 0) at c in
    let e : from ≡ from + 0 = omega arith in
    record { place = 0; object = o; is = refl; unresolved = h.0; several = subst (λ (n : ℕ). 1 < get_or counts n 0) e h.1; declared = h.2 }

later_declared : (counts : List ℕ) (from : ℕ) (o : Object) (os : List Object) (at : ℕ) → Declared counts (from + 1) os at → Declared counts from (o ∷ os) at
later_declared counts from o os at d =
    let e : from + 1 + d.place ≡ from + suc d.place = omega arith in
    record {
      place = suc d.place;
      object = d.object;
      is = d.is;
      unresolved = d.unresolved;
      several = subst (λ (n : ℕ). 1 < get_or counts n 0) e d.several;
      declared = d.declared;
    }

place_is : (counts : List ℕ) (from : ℕ) (os : List Object) (at : ℕ) → Contains (places_of counts from os) at → Declared counts from os at
unfolding places_of
place_is counts from [] at c = nothing_in at c
place_is counts from (o ∷ os) at c =
    by_either (Contains-append_cases (declared_place o (get_or counts from 0)) (places_of counts (from + 1) os) at c) (place_is counts (from + 1) os at)
  where
    by_either : Contains (declared_place o (get_or counts from 0)) at ⊎ Contains (places_of counts (from + 1) os) at
        → (Contains (places_of counts (from + 1) os) at → Declared counts (from + 1) os at) → Declared counts from (o ∷ os) at
    by_either (inl c) more = first_declared counts from o os at c
    by_either (inr c) more = later_declared counts from o os at (more c)

place_there : (counts : List ℕ) (from : ℕ) (os : List Object) (place : ℕ) (o : Object) → slice_get os place ≡ Some o → o.resolved ≡ false
    → 1 < get_or counts (from + place) 0 → Contains (places_of counts from os) o.name.at
unfolding places_of
place_there counts from [] place o is type above = absurd (let e = slice_get_past {X = Object} [] place (omega arith) in cc)
place_there counts from (p ∷ os) zero o is type above =
    let same : p ≡ o = cc in
    let e : from + 0 ≡ from = omega arith in
    Contains-append_left (declared_place p (get_or counts from 0)) (places_of counts (from + 1) os) o.name.at
    (subst (λ (q : Object). Contains (declared_place q (get_or counts from 0)) o.name.at) (sym same)
    (that_one o (get_or counts from 0) type (subst (λ (n : ℕ). 1 < get_or counts n 0) e above)))
place_there counts from (p ∷ os) (suc k) o is type above =
    let e : from + suc k ≡ from + 1 + k = omega arith in
    Contains-append_right (declared_place p (get_or counts from 0)) (places_of counts (from + 1) os) o.name.at
    (place_there counts (from + 1) os k o is type (subst (λ (n : ℕ). 1 < get_or counts n 0) e above))

-- ---- a block
object_count : (b : Block) → length (objects b) ≡ size b
object_count b =
    let e = length-append (map (λ (p : Port). p.object) b.ports) b.signals in
    let l = length-map b.ports (λ (p : Port). p.object) in
    omega arith

there : (b : Block) (place : ℕ) (o : Object) → slice_get (objects b) place ≡ Some o → place < size b
there b place o is =
    let e = object_count b in
    by_order place (size b) (λ lt. lt) (λ ge. absurd (let n : slice_get (objects b) place ≡ None = slice_get_past (objects b) place (omega arith) in cc))

-- a port or signal of a block with many sources
record Many (blocks : List Block) (b : Block) (at : ℕ) : Type 0 where
  place : ℕ
  object : Object
  is : slice_get (objects b) place ≡ Some object
  unresolved : object.resolved ≡ false
  several : 1 < source_count blocks b place
  declared : object.name.at ≡ at

module _ (blocks : List Block) (b : Block) (counts : List ℕ) (counted : (n : ℕ) → n < size b → get_or counts n 0 ≡ min 2 (source_count blocks b n)) where
  many_is : (at : ℕ) → Contains (places_of counts 0 (objects b)) at → Many blocks b at
  many_is at c =
      let d = place_is counts 0 (objects b) at c in
      let e = counted d.place (there b d.place d.object d.is) in
      let z : 0 + d.place ≡ d.place = omega arith in
      let s : 1 < get_or counts d.place 0 = subst (λ (n : ℕ). 1 < get_or counts n 0) z d.several in
      record { place = d.place; object = d.object; is = d.is; unresolved = d.unresolved; several = omega arith; declared = d.declared }

  many_there : (at : ℕ) → Many blocks b at → Contains (places_of counts 0 (objects b)) at
  many_there at m =
      let e = counted m.place (there b m.place m.object m.is) in
      let v = m.several in
      let s : 1 < get_or counts m.place 0 = omega arith in
      let z : m.place ≡ 0 + m.place = omega arith in
      subst (Contains (places_of counts 0 (objects b))) m.declared
      (place_there counts 0 (objects b) m.place m.object m.is m.unresolved (subst (λ (n : ℕ). 1 < get_or counts n 0) z s))

-- ---- block by block: those in blocks with smaller numbers
pub record Below (blocks : List Block) (top below at : ℕ) : Type 0 where
  pub many : HasManySources blocks top at
  pub less : many.block < below

many_in : (blocks : List Block) (top at : ℕ) (h : HasManySources blocks top at) → Many blocks (block_at blocks h.block) at
many_in blocks top at h =
    record { place = h.place; object = h.object; is = h.is; unresolved = h.unresolved; several = h.several; declared = h.declared }

module _ (blocks : List Block) (top k : ℕ) (marks : List Bool) (reached : (n : ℕ) → (get_or marks n false ≡ true) ↔ Reaches (graph_of blocks) n top) where
  before : (at : ℕ) → Below blocks top k at → Below blocks top (k + 1) at
  before at b = record { many = b.many; less = (let l = b.less in omega arith) }

  passed_over : (known : Option ℕ) → get_or marks k false ≡ false → IsLeast (Below blocks top k) known → IsLeast (Below blocks top (k + 1)) known
  passed_over known off h = said_otherwise (Below blocks top k) (Below blocks top (k + 1)) known before back h
    where
      not_here : (r : ℕ) → Reaches (graph_of blocks) r top → k ≤ r → r < k + 1 → ⊥
      not_here r on ge lt =
          let e : r ≡ k = omega arith in
          let t : get_or marks r false ≡ true = (reached r).1 on in
          let u : get_or marks r false ≡ false = ap (λ (n : ℕ). get_or marks n false) e ∙ off in
          cc

      back : (at : ℕ) → Below blocks top (k + 1) at → Below blocks top k at
      back at b = record { many = b.many; less = by_order b.many.block k (λ lt. lt) (λ ge. absurd (not_here b.many.block b.many.reached ge b.less)) }

  looked_at : (known found : Option ℕ) → get_or marks k false ≡ true → IsLeastIn blocks (block_at blocks k) known found
      → IsLeast (Below blocks top k) known → IsLeast (Below blocks top (k + 1)) found
  looked_at known found on l h =
      subst (IsLeast (Below blocks top (k + 1))) (sym l.least)
      (said_otherwise (λ at. Below blocks top k at ⊎ Contains (places_of l.counts 0 (objects (block_at blocks k))) at) (Below blocks top (k + 1))
      (least_of known (places_of l.counts 0 (objects (block_at blocks k)))) to from
      (with_more (Below blocks top k) known (places_of l.counts 0 (objects (block_at blocks k))) h))
    where
      here : (at : ℕ) → Many blocks (block_at blocks k) at → Below blocks top (k + 1) at
      here at m = record {
        many = record {
          block = k;
          reached = (reached k).0 on;
          place = m.place;
          object = m.object;
          is = m.is;
          unresolved = m.unresolved;
          several = m.several;
          declared = m.declared;
        };
        less = omega arith;
      }

      to : (at : ℕ) → Below blocks top k at ⊎ Contains (places_of l.counts 0 (objects (block_at blocks k))) at → Below blocks top (k + 1) at
      to at (inl b) = before at b
      to at (inr c) = here at (many_is blocks (block_at blocks k) l.counts l.counted at c)

      from : (at : ℕ) → Below blocks top (k + 1) at → Below blocks top k at ⊎ Contains (places_of l.counts 0 (objects (block_at blocks k))) at
      from at b =
          let less = b.less in
          by_order b.many.block k (λ lt. inl (record { many = b.many; less = lt }))
          (λ ge. let e : b.many.block ≡ k = omega arith in
          inr (many_there blocks (block_at blocks k) l.counts l.counted at
          (subst (λ (n : ℕ). Many blocks (block_at blocks n) at) e (many_in blocks top at b.many))))

pub one_more : (blocks : List Block) (top k : ℕ) (marks : List Bool) (known found : Option ℕ) (marked : Bool) (b : Block)
    → ((n : ℕ) → (get_or marks n false ≡ true) ↔ Reaches (graph_of blocks) n top) → marked ≡ get_or marks k false → b ≡ block_at blocks k
    → IsLeastOn marked blocks b known found → IsLeast (Below blocks top k) known → IsLeast (Below blocks top (k + 1)) found
one_more blocks top k marks known found true b reached m is h known_least =
    looked_at blocks top k marks reached known found (sym m) (subst (λ (x : Block). IsLeastIn blocks x known found) is h) known_least
one_more blocks top k marks known found false b reached m is h known_least =
    rw h (passed_over blocks top k marks reached known (sym m) known_least)

pub none_below : (blocks : List Block) (top : ℕ) → IsLeast (Below blocks top 0) None
none_below blocks top at b = let l = b.less in absurd (omega arith)

pub all_below : (blocks : List Block) (top n : ℕ) (o : Option ℕ) → length blocks ≤ n → IsLeast (Below blocks top n) o → IsLeast (HasManySources blocks top) o
all_below blocks top n o most h =
    said_otherwise (Below blocks top n) (HasManySources blocks top) o (λ at b. b.many) (λ at m. record { many = m; less = block_there at m }) h
  where
    nothing : (r place : ℕ) (p : Object) → length blocks ≤ r → slice_get (objects (block_at blocks r)) place ≡ Some p → ⊥
    nothing r place p past is =
        let e : block_at blocks r ≡ no_block = get_or_past blocks r no_block past in
        let none : slice_get (objects no_block) place ≡ None = slice_get_past (objects no_block) place (omega arith) in
        let some : slice_get (objects no_block) place ≡ Some p = subst (λ (b : Block). slice_get (objects b) place ≡ Some p) e is in
        cc

    block_there : (at : ℕ) (m : HasManySources blocks top at) → m.block < n
    block_there at m = by_order m.block n (λ lt. lt) (λ ge. absurd (nothing m.block m.place m.object (omega arith) m.is))
