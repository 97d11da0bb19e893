-- A recursive instance gives chains of any length, so there is none if some length is not reached.
use Rattle.std.proofs.Common.{◌≡◌, ℕ, zero, suc, ◌<◌, ◌||◌, List, [], ◌∷◌, Bool, true, false, None, length, refl, ap, sym, ◌∙◌, subst, arith, All}
use Rattle.std.specs.List.{Contains, list_any}
use Rattle.std.proofs.lemmas.List.Folds.{list_any_at}
use Rattle.sim_flat_blocks.specs.declared.parts.Instance.{Instance}
use Rattle.sim_flat_blocks.specs.declared.parts.Block.{Block}
use Rattle.sim_flat_blocks.specs.Blocks.{block_of, IsBlock}
use Rattle.sim_flat_expansion.specs.Depth.{has_chain}
use Rattle.sim_flat_graph.specs.Graph.{blocks_of, graph_of, block_at, successors, Reaches, Here, Along, IsWhole}
use Rattle.sim_flat_graph.specs.Least.{IsLeast}
use Rattle.sim_flat_graph.specs.Recursion.{IsRecursive}
use Rattle.sim_flat_graph.proofs.Recursions.{edge_of, successors_are}

-- ---- the graph of blocks
pub graph_length : (bs : List Block) → length (graph_of bs) ≡ length bs
unfolding graph_of
graph_length [] = refl
graph_length (b ∷ bs) = ap suc (graph_length bs)

blocks_within : (n : ℕ) (is : List Instance) → All (λ i. i.block < n) is → All (λ m. m < n) (blocks_of is)
unfolding blocks_of
blocks_within n [] h k d less = absurd (omega arith)
blocks_within n (i ∷ is) h zero d less = h 0 i (omega arith)
blocks_within n (i ∷ is) h (suc k) d less = blocks_within n is (λ j e below. h (suc j) e (omega arith)) k d (omega arith)

rows_within : (n : ℕ) (bs : List Block) → All (λ b. All (λ i. i.block < n) b.instances) bs → All (λ ns. All (λ m. m < n) ns) (graph_of bs)
unfolding graph_of
rows_within n [] h k d less = absurd (omega arith)
rows_within n (b ∷ bs) h zero d less = blocks_within n b.instances (h 0 b (omega arith))
rows_within n (b ∷ bs) h (suc k) d less = rows_within n bs (λ j e below. h (suc j) e (omega arith)) k d (omega arith)

pub graph_whole : (blocks : List Block) → All (IsBlock blocks) blocks → IsWhole (graph_of blocks)
graph_whole blocks known =
    subst (λ (n : ℕ). All (λ ns. All (λ m. m < n) ns) (graph_of blocks)) (sym (graph_length blocks))
    (rows_within (length blocks) blocks (λ k d less j e below. ((known k d less).instances j e below).known))

-- ---- chains
or_right : (a b : Bool) → b ≡ true → a || b ≡ true
or_right true b h = refl
or_right false b h = h

or_more : (a b c d : Bool) → (a ≡ true → c ≡ true) → (b ≡ true → d ≡ true) → a || b ≡ true → c || d ≡ true
or_more true b c d f g h = let e = f refl in rw e refl
or_more false b c d f g h = or_right c d (g h)

any_more : (f g : Instance → Bool) (is : List Instance) → ((i : Instance) → f i ≡ true → g i ≡ true) → list_any f is ≡ true → list_any g is ≡ true
any_more f g [] more h = h
any_more f g (i ∷ is) more h = or_more (f i) (list_any f is) (g i) (list_any g is) (more i) (any_more f g is more) h

any_among : (f : Instance → Bool) (is : List Instance) (i : Instance) → Contains is i → f i ≡ true → list_any f is ≡ true
any_among f is i c h = list_any_at f is c.0 i c.1 (ap f c.2 ∙ h)

module _ (blocks : List Block) where
  shorter : (k : ℕ) (b : Block) → has_chain blocks (suc k) b ≡ true → has_chain blocks k b ≡ true
  unfolding has_chain
  shorter zero b h = refl
  shorter (suc k) b h =
      any_more (λ i. has_chain blocks (suc k) (block_of blocks i)) (λ i. has_chain blocks k (block_of blocks i)) b.instances
      (λ i. shorter k (block_of blocks i)) h

  longer : (k a : ℕ) (i : Instance) → Contains (block_at blocks a).instances i → has_chain blocks k (block_at blocks i.block) ≡ true
      → has_chain blocks (suc k) (block_at blocks a) ≡ true
  unfolding has_chain
  longer k a i among h = any_among (λ j. has_chain blocks k (block_of blocks j)) (block_at blocks a).instances i among h

  along : (k a next : ℕ) → Contains (successors (graph_of blocks) a) next → has_chain blocks k (block_at blocks next) ≡ true
      → has_chain blocks k (block_at blocks a) ≡ true
  along k a next c h =
      let e = edge_of (block_at blocks a).instances next (subst (λ (ns : List ℕ). Contains ns next) (successors_are blocks a) c) in
      shorter k (block_at blocks a) (longer k a e.instance e.among (subst (λ (n : ℕ). has_chain blocks k (block_at blocks n) ≡ true) (sym e.leads) h))

  -- a block that leads to the start of a chain starts one of the same length
  led_on : (k c a : ℕ) → Reaches (graph_of blocks) c a → has_chain blocks k (block_at blocks c) ≡ true → has_chain blocks k (block_at blocks a) ≡ true
  led_on k c a Here h = h
  led_on k c a (Along x next among rest) h = along k a next among (led_on k c next rest h)

  round : {top at : ℕ} (r : IsRecursive blocks top at) (k : ℕ) → has_chain blocks k (block_at blocks r.block) ≡ true
  unfolding has_chain
  round r zero = refl
  round r (suc k) = longer k r.block r.instance r.among (led_on k r.block r.instance.block r.back (round r k))

  endless : (top at k : ℕ) → IsRecursive blocks top at → has_chain blocks k (block_at blocks top) ≡ true
  endless top at k r = led_on k r.block top r.reached (round r k)

  pub none_recursive : (top k : ℕ) → has_chain blocks k (block_at blocks top) ≡ false → IsLeast (IsRecursive blocks top) None
  none_recursive top k h at r = let e = endless top at k r in cc
