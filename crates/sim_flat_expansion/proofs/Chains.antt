-- The tables made level by level tell which blocks have a chain.
use Rattle.std.proofs.Common.{◌≡◌, ℕ, zero, suc, ◌<◌, ◌||◌, List, [], ◌∷◌, Bool, true, false, length, get_or, refl, ap, ◌∙◌, arith, All}
use Rattle.std.specs.List.{list_any}
use Rattle.sim_flat_blocks.specs.declared.parts.Instance.{Instance}
use Rattle.sim_flat_blocks.specs.declared.parts.Block.{Block}
use Rattle.sim_flat_blocks.specs.Blocks.{IsBlock, IsInstance, block_of, no_block}
use Rattle.sim_flat_expansion.specs.Depth.{has_chain, chain_at, any_at, first_table, next_table, table_at}
use Rattle.sim_flat_expansion.proofs.Sound.{Each, each_of}

first_is : (bs : List Block) (n : ℕ) → n < length bs → get_or (first_table bs) n false ≡ true
unfolding first_table
first_is [] n lt = absurd (omega arith)
first_is (b ∷ bs) zero lt = refl
first_is (b ∷ bs) (suc n) lt = first_is bs n (omega arith)

next_is : (table : List Bool) (bs : List Block) (n : ℕ) → n < length bs
    → get_or (next_table table bs) n false ≡ any_at table (get_or bs n no_block).instances
unfolding next_table
next_is table [] n lt = absurd (omega arith)
next_is table (b ∷ bs) zero lt = refl
next_is table (b ∷ bs) (suc n) lt = next_is table bs n (omega arith)

any_is : (blocks : List Block) (table : List Bool) (f : Block → Bool) → ((n : ℕ) → n < length blocks → get_or table n false ≡ f (get_or blocks n no_block))
    → (b : Block) (is : List Instance) → Each (IsInstance blocks b) is → any_at table is ≡ list_any (λ (i : Instance). f (block_of blocks i)) is
unfolding any_at
any_is blocks table f h b [] each = refl
any_is blocks table f h b (i ∷ is) each =
    let rest = any_at table is in
    ap (λ (x : Bool). x || rest) (h i.block each.0.known) ∙ ap (λ (x : Bool). f (block_of blocks i) || x) (any_is blocks table f h b is each.1)

pub chain_is : (blocks : List Block) → All (IsBlock blocks) blocks → (k n : ℕ) → n < length blocks
    → chain_at (table_at blocks k) n ≡ has_chain blocks k (get_or blocks n no_block)
unfolding table_at has_chain
chain_is blocks known zero n lt = first_is blocks n lt
chain_is blocks known (suc k) n lt =
    let b = get_or blocks n no_block in
    next_is (table_at blocks k) blocks n lt
    ∙ any_is blocks (table_at blocks k) (has_chain blocks k) (chain_is blocks known k) b b.instances
    (each_of (IsInstance blocks b) b.instances (known n no_block lt).instances)
