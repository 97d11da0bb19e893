-- The nets of a flat design have the values of their source trees: occurrence by occurrence, no name of type std_ulogic in a tree has more than one
-- source, and for such a tree the flat sources resolve as the nested names.
use Rattle.std.proofs.Common.{◌≡◌, ℕ, zero, suc, ◌+◌, List, [], ◌∷◌, ◌++◌, Bool, true, false, Some, map, slice_get, All}
use Rattle.std.proofs.Common.{refl, ap, sym, ◌∙◌, subst, if◌then◌else◌}
use Rattle.std.specs.List.{AllZip}
use Rattle.sim_logic.specs.declared.logic.Logic.{Logic}
use Rattle.sim_logic.specs.Resolution.{resolved}
use Rattle.sim_logic.specs.Sources.{SourceTree, FlatSource, Driven, IsResolvable, flat_sources, flat_source_value}
use Rattle.sim_logic.specs.Sources as tree
use Rattle.sim_logic.proofs.SourceLaws.{resolved-flat_sources}
use Rattle.sim_flat_design.specs.declared.design.Source.{Source}
use Rattle.sim_flat_design.specs.Limits.{Limits}
use Rattle.sim_flat_design.specs.Designs.{Net, Design}
use Rattle.sim_flat_blocks.specs.declared.parts.Object.{Object}
use Rattle.sim_flat_blocks.specs.declared.parts.Instance.{Instance}
use Rattle.sim_flat_blocks.specs.declared.parts.Block.{Block}
use Rattle.sim_flat_blocks.specs.Blocks.{block_of, objects, levels}
use Rattle.sim_flat_expansion.specs.Hierarchy.{Path, Occurrence, PathStep, Own, is_own, link_of, own_from, own_at, inner, occurrences}
use Rattle.sim_flat_expansion.specs.Flat.{flat, gather, net, nets_at, occurrences_of, source_of}
use Rattle.sim_flat_expansion.proofs.Sound.{Each, each_append, each_map, all_of}
use Rattle.sim_flat_graph.specs.Graph.{block_at, Here}
use Rattle.sim_flat.specs.declared.top.Top.{Top}
use Rattle.sim_flat.specs.Hierarchies.{IsFlat, IsResolved}
use Rattle.sim_flat.specs.Laws.{HasValueOf, source_value, trees}
use Rattle.sim_flat.specs.Laws as laws
use Rattle.sim_flat.proofs.SourceTrees.{Placed, placed_all, placed_first, placed_rest, Reached, instances_reached, resolvable}

-- ---- the blocks of occurrences are reached
record IsReached (blocks : List Block) (top : ℕ) (s : Occurrence) : Type 0 where
  number : ℕ
  reached : Reached blocks top number
  is : s.block ≡ block_at blocks number

module _ (blocks : List Block) (top : ℕ) where
  inner_reached : (one : Path → Block → List Occurrence)
      → ((p : Path) (c : ℕ) → Reached blocks top c → Each (IsReached blocks top) (one p (block_at blocks c)))
      → (p : Path) (j : ℕ) (is : List Instance) → Each (λ (i : Instance). Reached blocks top i.block) is
      → Each (IsReached blocks top) (inner one blocks p j is)
  unfolding inner
  inner_reached one h p j [] each = tt
  inner_reached one h p j (i ∷ is) each =
      let s : PathStep = record { instance = i; place = j } in
      each_append (IsReached blocks top) (one (s ∷ p) (block_of blocks i)) (inner one blocks p (j + 1) is)
      (h (s ∷ p) i.block each.0) (inner_reached one h p (j + 1) is each.1)

  occurrences_reached : (k : ℕ) (p : Path) (c : ℕ) → Reached blocks top c → Each (IsReached blocks top) (occurrences blocks k p (block_at blocks c))
  unfolding occurrences
  occurrences_reached zero p c reached = tt
  occurrences_reached (suc k) p c reached = (
    record { number = c; reached = reached; is = refl },
    inner_reached (occurrences blocks k) (occurrences_reached k) p 0 (block_at blocks c).instances (instances_reached blocks top c reached),
  )

  all_reached : Each (IsReached blocks top) (occurrences_of blocks top)
  unfolding occurrences_of
  all_reached = occurrences_reached levels [] top Here

-- ---- nets are objects
abbrev IsObject : List Object → Own → Type 0
IsObject os x = slice_get os x.place ≡ Some x.object

own_placed : (P : Own → Type 0) (p : Path) (n : ℕ) (os : List Object) → Placed (λ k o. P (record { place = k; object = o })) n os
    → Each P (own_from p n os)
unfolding own_from
own_placed P p n [] h = tt
own_placed P p n (o ∷ os) h =
    by_bit (is_own (link_of p n)) (placed_first (λ k x. P (record { place = k; object = x })) n o os h)
    (own_placed P p (n + 1) os (placed_rest (λ k x. P (record { place = k; object = x })) n o os h))
  where
    by_bit : (b : Bool) → P (record { place = n; object = o }) → Each P (own_from p (n + 1) os)
        → Each P (if b then record { place = n; object = o } ∷ own_from p (n + 1) os else own_from p (n + 1) os)
    by_bit true x xs = (x, xs)
    by_bit false x xs = xs

own_objects : (p : Path) (os : List Object) → Each (IsObject os) (own_from p 0 os)
own_objects p os = own_placed (IsObject os) p 0 os (placed_all (λ k o. IsObject os (record { place = k; object = o })) os (λ i o is. is))

-- ---- the trees of all nets
module _ (blocks : List Block) (top : ℕ) (resolved : IsResolved blocks top) (all : List Occurrence) where
  own_resolvable : (s : Occurrence) → IsReached blocks top s → (x : Own) → IsObject (objects s.block) x → IsResolvable (laws.tree blocks all s x)
  own_resolvable s r x is = at_block s.path s.block s.levels r.number r.reached r.is x is
    where
      at_block : (p : Path) (b : Block) (k c : ℕ) → Reached blocks top c → b ≡ block_at blocks c → (x : Own) → IsObject (objects b) x
          → IsResolvable (laws.tree blocks all (record { path = p; block = b; levels = k }) x)
      at_block p b k c reached e x is = rw e (resolvable blocks all top resolved k p c reached x.place x.object
          (subst (λ (d : Block). slice_get (objects d) x.place ≡ Some x.object) e is))

  occurrence_resolvable : (s : Occurrence) → IsReached blocks top s → Each (λ (x : Own). IsResolvable (laws.tree blocks all s x)) (own_at s)
  occurrence_resolvable s r =
      each_map (IsObject (objects s.block)) (λ (x : Own). IsResolvable (laws.tree blocks all s x)) (own_resolvable s r) (own_at s)
      (own_objects s.path (objects s.block))

each_mapped : {X Y : Type 0} (P : Y → Type 0) (f : X → Y) (xs : List X) → Each (λ x. P (f x)) xs → Each P (map f xs)
each_mapped P f [] h = tt
each_mapped P f (x ∷ xs) h = (h.0, each_mapped P f xs h.1)

each_gathered : {X Y : Type 0} (P : Y → Type 0) (f : X → List Y) (xs : List X) → Each (λ x. Each P (f x)) xs → Each P (gather f xs)
each_gathered P f [] h = tt
each_gathered P f (x ∷ xs) h = each_append P (f x) (gather f xs) h.0 (each_gathered P f xs h.1)

pub trees_resolvable : (blocks : List Block) (top : ℕ) → IsResolved blocks top → Each IsResolvable (trees blocks top)
trees_resolvable blocks top resolved =
    let all = occurrences_of blocks top in
    each_gathered IsResolvable (λ (s : Occurrence). map (laws.tree blocks all s) (own_at s)) all
    (each_map (IsReached blocks top) (λ (s : Occurrence). Each IsResolvable (map (laws.tree blocks all s) (own_at s)))
    (λ s r. each_mapped IsResolvable (laws.tree blocks all s) (own_at s) (occurrence_resolvable blocks top resolved all s r)) all (all_reached blocks top))

-- ---- nets and trees, one by one
abbrev IsMadeOf : SourceTree → Net → Type 0
IsMadeOf t n = n.sources ≡ map source_of (flat_sources t)

zip_append : {X Y : Type 0} (R : X → Y → Type 0) (xs : List X) (ys : List Y) (vs : List X) (ws : List Y)
    → AllZip R xs ys → AllZip R vs ws → AllZip R (xs ++ vs) (ys ++ ws)
zip_append R [] [] vs ws h g = g
zip_append R [] (y ∷ ys) vs ws h g = absurd h
zip_append R (x ∷ xs) [] vs ws h g = absurd h
zip_append R (x ∷ xs) (y ∷ ys) vs ws h g = (h.0, zip_append R xs ys vs ws h.1 g)

zip_mapped : {X Y Z : Type 0} (R : Y → Z → Type 0) (f : X → Y) (g : X → Z) (xs : List X) → ((x : X) → R (f x) (g x))
    → AllZip R (map f xs) (map g xs)
zip_mapped R f g [] h = tt
zip_mapped R f g (x ∷ xs) h = (h x, zip_mapped R f g xs h)

zip_gathered : {X Y Z : Type 0} (R : Y → Z → Type 0) (f : X → List Y) (g : X → List Z) (xs : List X) → ((x : X) → AllZip R (f x) (g x))
    → AllZip R (gather f xs) (gather g xs)
zip_gathered R f g [] h = tt
zip_gathered R f g (x ∷ xs) h = zip_append R (f x) (g x) (gather f xs) (gather g xs) (h x) (zip_gathered R f g xs h)

nets_made : (blocks : List Block) (top : ℕ) → AllZip IsMadeOf (trees blocks top) (flat blocks top).nets
unfolding flat
nets_made blocks top =
    let all = occurrences_of blocks top in
    zip_gathered IsMadeOf (λ (s : Occurrence). map (laws.tree blocks all s) (own_at s)) (nets_at blocks all) all
    (λ s. zip_mapped IsMadeOf (laws.tree blocks all s) (net blocks all s) (own_at s) (λ x. refl))

-- ---- values
values_same : (driving : ℕ → Logic) (ls : List FlatSource) → map (source_value driving) (map source_of ls) ≡ map (flat_source_value driving) ls
values_same driving [] = refl
values_same driving (Driven n ∷ ls) = ap (λ (vs : List Logic). driving n ∷ vs) (values_same driving ls)
values_same driving (tree.Constant v ∷ ls) = ap (λ (vs : List Logic). v ∷ vs) (values_same driving ls)

has_value : (t : SourceTree) (n : Net) → IsResolvable t → IsMadeOf t n → HasValueOf t n
has_value t n may made driving =
    ap (λ (ss : List Source). resolved (map (source_value driving) ss)) made
    ∙ (ap (λ (vs : List Logic). resolved vs) (values_same driving (flat_sources t)) ∙ resolved-flat_sources driving t may)

all_values : (ts : List SourceTree) (ns : List Net) → Each IsResolvable ts → AllZip IsMadeOf ts ns → AllZip HasValueOf ts ns
all_values [] [] h z = tt
all_values [] (n ∷ ns) h z = absurd z
all_values (t ∷ ts) [] h z = absurd z
all_values (t ∷ ts) (n ∷ ns) h z = (has_value t n h.0 z.0, all_values ts ns h.1 z.1)

pub nets_nested : (limits : Limits) (blocks : List Block) (top : Top) (design : Design) → IsFlat limits blocks top design
    → AllZip HasValueOf (trees blocks top.block) design.nets
nets_nested limits blocks top design f =
    subst (λ (d : Design). AllZip HasValueOf (trees blocks top.block) d.nets) (sym f.is)
    (all_values (trees blocks top.block) (flat blocks top.block).nets (trees_resolvable blocks top.block f.resolved) (nets_made blocks top.block))

pub names_allowed : (limits : Limits) (blocks : List Block) (top : Top) (design : Design) → IsFlat limits blocks top design
    → All IsResolvable (trees blocks top.block)
names_allowed limits blocks top design f = all_of IsResolvable (trees blocks top.block) (trees_resolvable blocks top.block f.resolved)
