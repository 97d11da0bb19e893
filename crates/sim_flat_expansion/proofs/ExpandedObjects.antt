-- The walk passes the flat sources of a block's ports and signals to nets or to actuals.
use Rattle.std.proofs.Common.{◌≡◌, ℕ, suc, ◌+◌, ◌<◌, ◌≤◌, ◌&&◌, List, [], ◌∷◌, ◌++◌, Bool, true, false, if◌then◌else◌, map, length, get_or}
use Rattle.std.proofs.Common.{slice_index_or, refl, ap, sym, ◌∙◌, subst, arith, append-nil, append_assoc, eqb, eqb-true}
use Rattle.std.proofs.lemmas.Bool.{eqb-false}
use Rattle.std.proofs.lemmas.List.{map-append, get_or_past}
use Rattle.sim_text_tokens.proofs.Tests.{by_cases}
use Rattle.sim_logic.specs.Sources.{SourceTree}
use Rattle.sim_flat_design.specs.declared.design.Source.{Source}
use Rattle.sim_flat_design.specs.Designs.{Net}
use Rattle.sim_flat_blocks.specs.declared.links.Link.{Link}
use Rattle.sim_flat_blocks.specs.declared.links.Link.TheVariants.{To, Constant, Open}
use Rattle.sim_flat_blocks.specs.declared.parts.Object.{Object}
use Rattle.sim_flat_blocks.specs.declared.parts.Port.{Port}
use Rattle.sim_flat_blocks.specs.declared.parts.Block.{Block}
use Rattle.sim_flat_blocks.specs.Blocks.{link_at, size, constant_at}
use Rattle.sim_flat_expansion.specs.Hierarchy.{Path, Occurrence, link_of, is_own, Own, own_from}
use Rattle.sim_flat_expansion.specs.Flat.{drivers_of, of_instances, of_ports, leads_to, tree_of, port_trees, gather, prefix, net}
use Rattle.sim_flat_expansion.specs.Expanding.{FlatSources, added, finished, object_expanded, flat_sources_at, ports_expanded, signals_expanded}
use Rattle.sim_flat_expansion.proofs.Collected.{flat_sources_in, drivers_in, flat_sources_of_tree, added_length, added_same, added_other}
use Rattle.sim_flat_expansion.proofs.Numbers.{Linked}

pub own_append : (c : Path) (n : ℕ) (xs ys : List Object) → own_from c n (xs ++ ys) ≡ own_from c n xs ++ own_from c (n + length xs) ys
unfolding own_from
own_append c n [] ys = let z : n ≡ n + 0 = omega arith in ap (λ (i : ℕ). own_from c i ys) z
own_append c n (x ∷ xs) ys =
    let z : n + 1 + length xs ≡ n + suc (length xs) = omega arith in
    let more : own_from c (n + 1) (xs ++ ys) ≡ own_from c (n + 1) xs ++ own_from c (n + suc (length xs)) ys =
    own_append c (n + 1) xs ys ∙ ap (λ (i : ℕ). own_from c (n + 1) xs ++ own_from c i ys) z in
    by_cases (is_own (link_of c n)) (λ t. rw t (ap (λ (zs : List Own). record { place = n; object = x } ∷ zs) more)) (λ t. rw t more)

-- the object at position n, if it is a net
abbrev one_own : Link → ℕ → Object → List Own
one_own (To m) n o = []
one_own (Constant v) n o = record { place = n; object = o } ∷ []
one_own Open n o = record { place = n; object = o } ∷ []

pub own_more : (c : Path) (n : ℕ) (o : Object) (os : List Object) (l : Link) → link_of c n ≡ l
    → own_from c n (o ∷ os) ≡ one_own l n o ++ own_from c (n + 1) os
unfolding own_from
own_more c n o os (To m) e = let t : is_own (link_of c n) ≡ false = ap is_own e in rw t refl
own_more c n o os (Constant v) e = let t : is_own (link_of c n) ≡ true = ap is_own e in rw t refl
own_more c n o os Open e = let t : is_own (link_of c n) ≡ true = ap is_own e in rw t refl

-- ---- one port or signal
abbrev given_up : Link → Bool → ℕ → List Source → List Source
given_up l drives m flat_sources = if drives && leads_to m l then flat_sources else []

object_expanded_up : (prefix : List ℕ) (l : Link) (drives : Bool) (o : Object) (flat_sources : List Source) (nets : List Net) (outer : FlatSources)
    (m : ℕ) → m < length outer
    → get_or (object_expanded prefix l drives o flat_sources nets outer).1 m [] ≡ get_or outer m [] ++ given_up l drives m flat_sources
object_expanded_up prefix (To q) true o flat_sources nets outer m lt =
    by_cases (eqb q m)
    (λ t. let same : q ≡ m = eqb-true q m t in
    rw t (subst (λ (i : ℕ). get_or (added outer q flat_sources) i [] ≡ get_or outer i [] ++ flat_sources) same (added_same outer q flat_sources (omega arith))))
    (λ t. rw t (added_other outer q m flat_sources (eqb-false q m t) ∙ sym (append-nil (get_or outer m []))))
object_expanded_up prefix (To q) false o flat_sources nets outer m lt = sym (append-nil (get_or outer m []))
object_expanded_up prefix (Constant v) true o flat_sources nets outer m lt = sym (append-nil (get_or outer m []))
object_expanded_up prefix (Constant v) false o flat_sources nets outer m lt = sym (append-nil (get_or outer m []))
object_expanded_up prefix Open true o flat_sources nets outer m lt = sym (append-nil (get_or outer m []))
object_expanded_up prefix Open false o flat_sources nets outer m lt = sym (append-nil (get_or outer m []))

object_expanded_length : (prefix : List ℕ) (l : Link) (drives : Bool) (o : Object) (flat_sources : List Source) (nets : List Net) (outer : FlatSources)
    → length (object_expanded prefix l drives o flat_sources nets outer).1 ≡ length outer
object_expanded_length prefix (To q) true o flat_sources nets outer = added_length outer q flat_sources
object_expanded_length prefix (To q) false o flat_sources nets outer = refl
object_expanded_length prefix (Constant v) drives o flat_sources nets outer = refl
object_expanded_length prefix Open drives o flat_sources nets outer = refl

object_expanded_nets : (prefix : List ℕ) (l : Link) (drives : Bool) (n : ℕ) (o : Object) (flat_sources : List Source) (nets : List Net) (outer : FlatSources)
    (made : Own → Net)
    → made (record { place = n; object = o }) ≡ record { name = prefix ++ o.name.text; sources = flat_sources }
    → (object_expanded prefix l drives o flat_sources nets outer).0 ≡ nets ++ map made (one_own l n o)
object_expanded_nets prefix (To q) drives n o flat_sources nets outer made e = sym (append-nil nets)
object_expanded_nets prefix (Constant v) drives n o flat_sources nets outer made e = ap (λ (x : Net). nets ++ x ∷ []) (sym e)
object_expanded_nets prefix Open drives n o flat_sources nets outer made e = ap (λ (x : Net). nets ++ x ∷ []) (sym e)

ports_more : (one : ℕ → Object → SourceTree) (links : List Link) (m n : ℕ) (p : Port) (ps : List Port)
    → gather flat_sources_in (of_ports one links m n (p ∷ ps))
    ≡ given_up (link_at links n) p.drives m (flat_sources_in (one n p.object)) ++ gather flat_sources_in (of_ports one links m (n + 1) ps)
unfolding of_ports
ports_more one links m n p ps = by_cases (p.drives && leads_to m (link_at links n)) (λ t. rw t refl) (λ t. rw t refl)

-- ---- the objects of a block
module _ (blocks : List Block) (all : List Occurrence) (c : Path) (b : Block) (k : ℕ) (links : List Link) (outer : List ℕ)
    (linked : Linked all c links outer) (mine : FlatSources)
    (collected : (n : ℕ) → n < size b → get_or mine n [] ≡ drivers_in (drivers_of all c b n)
    ++ gather flat_sources_in (of_instances (port_trees blocks all k) blocks c n 0 b.instances)) where
  abbrev pub tree_at : ℕ → Object → SourceTree
  tree_at n o = tree_of blocks all (port_trees blocks all k) c b n o

  abbrev pub net_at : Own → Net
  net_at x = net blocks all (record { path = c; block = b; levels = k }) x

  flat_sources_are : (n : ℕ) (o : Object) → n < size b → flat_sources_at (link_at links n) o mine n ≡ flat_sources_in (tree_at n o)
  flat_sources_are n o lt =
      let xs = drivers_in (drivers_of all c b n) ++ gather flat_sources_in (of_instances (port_trees blocks all k) blocks c n 0 b.instances) in
      ap (finished (constant_at (link_at links n) o.default)) (collected n lt)
      ∙ (ap (λ (l : Link). finished (constant_at l o.default) xs) (sym (linked.same n))
      ∙ sym (flat_sources_of_tree blocks all (port_trees blocks all k) c b n o))

  made_net : (n : ℕ) (o : Object) (l : List Source) → l ≡ flat_sources_in (tree_at n o)
      → net_at (record { place = n; object = o }) ≡ record { name = prefix c ++ o.name.text; sources = l }
  made_net n o l e = ap (λ (xs : List Source). let x : Net = record { name = prefix c ++ o.name.text; sources = xs } in x) (sym e)

  pub ports_are : (n : ℕ) (ps : List Port) (nets : List Net) (around : FlatSources) → n + length ps ≤ size b
      → ((ports_expanded (prefix c) links mine n ps nets around).0 ≡ nets ++ map net_at (own_from c n (map (λ (p : Port). p.object) ps)))
      × (length (ports_expanded (prefix c) links mine n ps nets around).1 ≡ length around)
      × ((m : ℕ) → m < length around → get_or (ports_expanded (prefix c) links mine n ps nets around).1 m []
      ≡ get_or around m [] ++ gather flat_sources_in (of_ports tree_at links m n ps))
  unfolding ports_expanded own_from of_ports
  ports_are n [] nets around le = (sym (append-nil nets), refl, λ m lt. sym (append-nil (get_or around m [])))
  ports_are n (p ∷ ps) nets around le =
      let l = link_at links n in
      let o = p.object in
      let ls = flat_sources_at l o mine n in
      let e : ls ≡ flat_sources_in (tree_at n o) = flat_sources_are n o (omega arith) in
      let x = object_expanded (prefix c) l p.drives o ls nets around in
      let len : length x.1 ≡ length around = object_expanded_length (prefix c) l p.drives o ls nets around in
      let more = ports_are (n + 1) ps x.0 x.1 (omega arith) in
      let os = map (λ (q : Port). q.object) ps in
      let rest = own_from c (n + 1) os in
      let own = own_more c n o os l (linked.same n) in (
        more.0 ∙ (ap (λ (xs : List Net). xs ++ map net_at rest) (object_expanded_nets (prefix c) l p.drives n o ls nets around net_at (made_net n o ls e))
            ∙ (append_assoc nets (map net_at (one_own l n o)) (map net_at rest)
            ∙ (ap (λ (xs : List Net). nets ++ xs) (sym (map-append net_at (one_own l n o) rest))
            ∙ ap (λ (xs : List Own). nets ++ map net_at xs) (sym own)))),
        more.1 ∙ len,
        λ m lt.
            let tail = gather flat_sources_in (of_ports tree_at links m (n + 1) ps) in
            more.2 m (omega arith)
            ∙ (ap (λ (xs : List Source). xs ++ tail) (object_expanded_up (prefix c) l p.drives o ls nets around m lt)
            ∙ (append_assoc (get_or around m []) (given_up l p.drives m ls) tail
            ∙ (ap (λ (xs : List Source). get_or around m [] ++ (given_up l p.drives m xs ++ tail)) e
            ∙ ap (λ (xs : List Source). get_or around m [] ++ xs) (sym (ports_more tree_at links m n p ps))))),
      )

  pub signals_are : (n : ℕ) (os : List Object) (nets : List Net) → length links ≤ n → n + length os ≤ size b
      → signals_expanded (prefix c) mine n os nets ≡ nets ++ map net_at (own_from c n os)
  unfolding signals_expanded own_from
  signals_are n [] nets past le = sym (append-nil nets)
  signals_are n (o ∷ os) nets past le =
      let none : link_at links n ≡ Open = get_or_past links n Open past in
      let ls = finished o.default (slice_index_or mine n []) in
      let e : ls ≡ flat_sources_in (tree_at n o) =
      ap (λ (l : Link). finished (constant_at l o.default) (slice_index_or mine n [])) (sym none) ∙ flat_sources_are n o (omega arith) in
      let x : Net = record { name = prefix c ++ o.name.text; sources = ls } in
      let own : own_from c n (o ∷ os) ≡ record { place = n; object = o } ∷ own_from c (n + 1) os = own_more c n o os Open (linked.same n ∙ none) in
      signals_are (n + 1) os (nets ++ x ∷ []) (omega arith) (omega arith)
      ∙ (append_assoc nets (x ∷ []) (map net_at (own_from c (n + 1) os))
      ∙ (ap (λ (y : Net). nets ++ y ∷ map net_at (own_from c (n + 1) os)) (sym (made_net n o ls e))
      ∙ ap (λ (xs : List Own). nets ++ map net_at xs) (sym own)))
