-- Recursive instances: the first of them, block by block, and that one gives chains of instances of any length.
use Rattle.std.proofs.Common.{◌≡◌, ℕ, zero, suc, ◌+◌, ◌<◌, ◌≤◌, ◌↔◌, List, [], ◌∷◌, Bool, true, false, ◌||◌, Option, Some, None, length, get_or, ◌⊎◌, inl, inr}
use Rattle.std.proofs.Common.{refl, ap, sym, ◌∙◌, subst, arith, if◌then◌else◌}
use Rattle.std.specs.List.{Contains, list_any}
use Rattle.std.proofs.lemmas.Bool.{ltb-false}
use Rattle.std.proofs.lemmas.List.{get_or_past}
use Rattle.sim_flat_blocks.specs.declared.parts.Instance.{Instance}
use Rattle.sim_flat_blocks.specs.declared.parts.Block.{Block}
use Rattle.sim_flat_blocks.specs.Blocks.{no_block}
use Rattle.sim_flat_graph.specs.Graph.{Graph, blocks_of, graph_of, block_at, successors, Reaches}
use Rattle.sim_flat_graph.specs.Least.{IsLeast, lesser, least_of}
use Rattle.sim_flat_graph.specs.Recursion.{IsRecursive, IsLeastBack, IsLeastOn, is_before, is_earlier, places_of, marked}
use Rattle.sim_flat_graph.proofs.Lists.{by_cases, by_order, nothing_in, first_in, later_in, one_of}
use Rattle.sim_flat_graph.proofs.Leasts.{said_otherwise, with_more}

-- ---- edges are instances
pub successors_are : (bs : List Block) (n : ℕ) → successors (graph_of bs) n ≡ blocks_of (block_at bs n).instances
unfolding graph_of blocks_of
successors_are [] n = refl
successors_are (b ∷ bs) zero = refl
successors_are (b ∷ bs) (suc n) = successors_are bs n

pub record Edge (is : List Instance) (n : ℕ) : Type 0 where
  pub instance : Instance
  pub among : Contains is instance
  pub leads : instance.block ≡ n

edge_later : (i : Instance) (is : List Instance) (n : ℕ) → Edge is n → Edge (i ∷ is) n
edge_later i is n e = record { instance = e.instance; among = later_in i e.instance is e.among; leads = e.leads }

pub edge_of : (is : List Instance) (n : ℕ) → Contains (blocks_of is) n → Edge is n
unfolding blocks_of
edge_of [] n c = nothing_in n c
edge_of (i ∷ is) n c = by_one (one_of i.block n (blocks_of is) c) (edge_of is n)
  where
    by_one : (i.block ≡ n) ⊎ Contains (blocks_of is) n → (Contains (blocks_of is) n → Edge is n) → Edge (i ∷ is) n
    by_one (inl e) more = record { instance = i; among = first_in i is; leads = e }
    by_one (inr c) more = edge_later i is n (more c)

-- an instance is an edge
block_there : (is : List Instance) (i : Instance) → Contains is i → Contains (blocks_of is) i.block
unfolding blocks_of
block_there [] i c = nothing_in i c
block_there (j ∷ is) i c = by_one (one_of j i is c) (block_there is i)
  where
    by_one : (j ≡ i) ⊎ Contains is i → (Contains is i → Contains (blocks_of is) i.block) → Contains (j.block ∷ blocks_of is) i.block
    by_one (inl e) more = subst (λ (k : Instance). Contains (j.block ∷ blocks_of is) k.block) e (first_in j.block (blocks_of is))
    by_one (inr d) more = later_in j.block i.block (blocks_of is) (more d)

pub successor_there : (bs : List Block) (n : ℕ) (i : Instance) → Contains (block_at bs n).instances i → Contains (successors (graph_of bs) n) i.block
successor_there bs n i c = subst (λ (ns : List ℕ). Contains ns i.block) (sym (successors_are bs n)) (block_there (block_at bs n).instances i c)

-- ---- the places of instances whose blocks pass a test
record Place (test : ℕ → Bool) (is : List Instance) (at : ℕ) : Type 0 where
  instance : Instance
  among : Contains is instance
  passes : test instance.block ≡ true
  named : instance.at ≡ at

place_later : (test : ℕ → Bool) (i : Instance) (is : List Instance) (at : ℕ) → Place test is at → Place test (i ∷ is) at
place_later test i is at p = record { instance = p.instance; among = later_in i p.instance is p.among; passes = p.passes; named = p.named }

place_of : (test : ℕ → Bool) (is : List Instance) (at : ℕ) → Contains (places_of test is) at → Place test is at
unfolding places_of
place_of test [] at c = nothing_in at c
place_of test (i ∷ is) at c = by_test (test i.block) refl (place_of test is at) c
  where
    by_one : test i.block ≡ true → (i.at ≡ at) ⊎ Contains (places_of test is) at → (Contains (places_of test is) at → Place test is at)
        → Place test (i ∷ is) at
    by_one t (inl e) more = record { instance = i; among = first_in i is; passes = t; named = e }
    by_one t (inr c) more = place_later test i is at (more c)

    by_test : (b : Bool) → test i.block ≡ b → (Contains (places_of test is) at → Place test is at)
        → Contains (if b then i.at ∷ places_of test is else places_of test is) at → Place test (i ∷ is) at
    by_test true t more c = by_one t (one_of i.at at (places_of test is) c) more
    by_test false t more c = place_later test i is at (more c)

place_there : (test : ℕ → Bool) (is : List Instance) (i : Instance) → Contains is i → test i.block ≡ true → Contains (places_of test is) i.at
unfolding places_of
place_there test [] i c t = nothing_in i c
place_there test (j ∷ is) i c t =
    by_cases (test j.block)
    (λ y. rw y (now (one_of j i is c) (λ d. place_there test is i d t)))
    (λ n. rw n (place_there test is i (not_now n (one_of j i is c)) t))
  where
    now : (j ≡ i) ⊎ Contains is i → (Contains is i → Contains (places_of test is) i.at) → Contains (j.at ∷ places_of test is) i.at
    now (inl e) more = subst (λ (k : Instance). Contains (j.at ∷ places_of test is) k.at) e (first_in j.at (places_of test is))
    now (inr d) more = later_in j.at i.at (places_of test is) (more d)

    not_now : test j.block ≡ false → (j ≡ i) ⊎ Contains is i → Contains is i
    not_now n (inl e) = absurd (let a : test j.block ≡ true = ap (λ (k : Instance). test k.block) e ∙ t in cc)
    not_now n (inr d) = d

-- ---- instances after the known place
neither : (a b : Bool) → a || b ≡ false → (a ≡ false) × (b ≡ false)
neither true b e = cc
neither false b e = (refl, e)

not_before : (known : Option ℕ) (at : ℕ) → is_before known at ≡ false → known ≡ Some (lesser known at)
not_before None at e = cc
not_before (Some m) at e = ap Some (let le : m ≤ at = ltb-false at m e in omega arith)

pub none_earlier : (test : ℕ → Bool) (known : Option ℕ) (is : List Instance) → list_any (is_earlier known) is ≡ false
    → known ≡ least_of known (places_of test is)
unfolding places_of least_of
none_earlier test known [] e = refl
none_earlier test known (i ∷ is) e =
    let both = neither (is_before known i.at) (list_any (is_earlier known) is) e in
    by_test (test i.block) (not_before known i.at both.0) (none_earlier test known is both.1)
  where
    by_test : (b : Bool) → known ≡ Some (lesser known i.at) → known ≡ least_of known (places_of test is)
        → known ≡ least_of known (if b then i.at ∷ places_of test is else places_of test is)
    by_test true same more = more ∙ ap (λ (o : Option ℕ). least_of o (places_of test is)) same
    by_test false same more = more

-- ---- block by block: recursive instances in blocks with smaller numbers
pub record Below (blocks : List Block) (top below at : ℕ) : Type 0 where
  pub recursive : IsRecursive blocks top at
  pub less : recursive.block < below

module _ (blocks : List Block) (top k : ℕ) (marks : List Bool) (reached : (n : ℕ) → (get_or marks n false ≡ true) ↔ Reaches (graph_of blocks) n top) where
  before : (at : ℕ) → Below blocks top k at → Below blocks top (k + 1) at
  before at b = record { recursive = b.recursive; less = (let l = b.less in omega arith) }

  -- a block that is not reached
  pub passed_over : (known : Option ℕ) → get_or marks k false ≡ false → IsLeast (Below blocks top k) known → IsLeast (Below blocks top (k + 1)) known
  passed_over known off h = said_otherwise (Below blocks top k) (Below blocks top (k + 1)) known before back h
    where
      not_here : (r : ℕ) → Reaches (graph_of blocks) r top → k ≤ r → r < k + 1 → ⊥
      not_here r there ge lt =
          let e : r ≡ k = omega arith in
          let t : get_or marks r false ≡ true = (reached r).1 there in
          let u : get_or marks r false ≡ false = ap (λ (n : ℕ). get_or marks n false) e ∙ off in
          cc

      back : (at : ℕ) → Below blocks top (k + 1) at → Below blocks top k at
      back at b = record {
        recursive = b.recursive;
        less = by_order b.recursive.block k (λ lt. lt) (λ ge. absurd (not_here b.recursive.block b.recursive.reached ge b.less));
      }

  -- a block that is reached, with a test for the instances whose blocks lead back
  pub looked_at : (test : ℕ → Bool) (known found : Option ℕ)
      → ((i : Instance) → Contains (block_at blocks k).instances i → (test i.block ≡ true) ↔ Reaches (graph_of blocks) k i.block)
      → get_or marks k false ≡ true → found ≡ least_of known (places_of test (block_at blocks k).instances)
      → IsLeast (Below blocks top k) known → IsLeast (Below blocks top (k + 1)) found
  looked_at test known found tells on least h =
      subst (IsLeast (Below blocks top (k + 1))) (sym least)
      (said_otherwise (λ at. Below blocks top k at ⊎ Contains (places_of test is) at)
      (Below blocks top (k + 1)) (least_of known (places_of test is)) to from
      (with_more (Below blocks top k) known (places_of test is) h))
    where
      is : List Instance
      is = (block_at blocks k).instances

      here : (at : ℕ) → Place test (block_at blocks k).instances at → Below blocks top (k + 1) at
      here at p = record {
        recursive = record {
          block = k;
          reached = (reached k).0 on;
          instance = p.instance;
          among = p.among;
          back = (tells p.instance p.among).0 p.passes;
          named = p.named;
        };
        less = omega arith;
      }

      to : (at : ℕ) → Below blocks top k at ⊎ Contains (places_of test (block_at blocks k).instances) at → Below blocks top (k + 1) at
      to at (inl b) = before at b
      to at (inr c) = here at (place_of test (block_at blocks k).instances at c)

      now : (at r : ℕ) (i : Instance) → r ≡ k → Contains (block_at blocks r).instances i → Reaches (graph_of blocks) r i.block → i.at ≡ at
          → Contains (places_of test (block_at blocks k).instances) at
      now at r i e among leads named =
          let c : Contains (block_at blocks k).instances i = subst (λ (n : ℕ). Contains (block_at blocks n).instances i) e among in
          let t : Reaches (graph_of blocks) k i.block = subst (λ (n : ℕ). Reaches (graph_of blocks) n i.block) e leads in
          subst (Contains (places_of test (block_at blocks k).instances)) named
          (place_there test (block_at blocks k).instances i c ((tells i c).1 t))

      from : (at : ℕ) → Below blocks top (k + 1) at → Below blocks top k at ⊎ Contains (places_of test (block_at blocks k).instances) at
      from at b =
          let r = b.recursive in
          let less = b.less in
          by_order r.block k (λ lt. inl (record { recursive = r; less = lt }))
          (λ ge. inr (now at r.block r.instance (omega arith) r.among r.back r.named))

-- the same, by a search from each block
pub one_more : (blocks : List Block) (top k : ℕ) (marks : List Bool) (back : Graph) (known found : Option ℕ) (on : Bool) (b : Block)
    → ((n : ℕ) → (get_or marks n false ≡ true) ↔ Reaches (graph_of blocks) n top)
    → ((a c : ℕ) → Reaches back a c ↔ Reaches (graph_of blocks) c a) → on ≡ get_or marks k false → b ≡ block_at blocks k
    → IsLeastOn on back k b.instances known found → IsLeast (Below blocks top k) known → IsLeast (Below blocks top (k + 1)) found
one_more blocks top k marks back known found true b reached turned m is h known_least =
    by_search (subst (λ (x : Block). IsLeastBack back k x.instances known found) is h)
  where
    by_search : IsLeastBack back k (block_at blocks k).instances known found → IsLeast (Below blocks top (k + 1)) found
    by_search l =
        looked_at blocks top k marks reached (marked l.marks) known found
        (λ i among. (λ t. (turned i.block k).0 ((l.reached i.block).0 t), λ r. (l.reached i.block).1 ((turned i.block k).1 r)))
        (sym m) l.least known_least
one_more blocks top k marks back known found false b reached turned m is h known_least =
    rw h (passed_over blocks top k marks reached known (sym m) known_least)

pub none_below : (blocks : List Block) (top : ℕ) → IsLeast (Below blocks top 0) None
none_below blocks top at b = let l = b.less in absurd (omega arith)

-- each recursive instance is in a block that exists
pub all_below : (blocks : List Block) (top n : ℕ) (o : Option ℕ) → length blocks ≤ n → IsLeast (Below blocks top n) o → IsLeast (IsRecursive blocks top) o
all_below blocks top n o most h = said_otherwise (Below blocks top n) (IsRecursive blocks top) o (λ at b. b.recursive) (λ at r. record {
  recursive =
      r;
  less = there r;
}) h
  where
    nothing : (r : ℕ) (i : Instance) → length blocks ≤ r → Contains (block_at blocks r).instances i → ⊥
    nothing r i past c = nothing_in i (subst (λ (b : Block). Contains b.instances i) (get_or_past blocks r no_block past) c)

    there : {at : ℕ} (r : IsRecursive blocks top at) → r.block < n
    there r = by_order r.block n (λ lt. lt) (λ ge. absurd (nothing r.block r.instance (omega arith) r.among))
