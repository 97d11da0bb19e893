-- Once a level changes nothing, no further level does.
use Rattle.std.proofs.Common.{◌≡◌, Bool, ℕ, zero, suc, ◌+◌, ◌-◌, ◌≤◌, List, [], ◌∷◌, ◌++◌, length, slice_index_or, refl, ap, sym, ◌∙◌, arith}
use Rattle.std.proofs.Common.{length-append, append_assoc}
use Rattle.std.proofs.Math.Seq.{get_or-append_seam}
use Rattle.sim_flat_expansion.specs.declared.counts.Kind.{Kind}
use Rattle.sim_flat_blocks.specs.declared.parts.Instance.{Instance}
use Rattle.sim_flat_blocks.specs.declared.parts.Block.{Block}
use Rattle.sim_flat_expansion.specs.Counts.{sum, own_counted, step_counted, instances_counted, steps_counted, blocks_counted, alone, level_counted, next_table}
use Rattle.sim_flat_expansion.specs.Counts.{table_at}
use Rattle.sim_flat_expansion.specs.Depth as depth

-- a step repeated, from where it changes nothing
steady : {X : Type 0} (f : ℕ → X) (g : X → X) → ((k : ℕ) → f (suc k) ≡ g (f k)) → (k : ℕ) → g (f k) ≡ f k → (d n : ℕ) → n ≡ k + d → f n ≡ f k
steady f g step k e zero n is = let same : n ≡ k = omega arith in ap f same
steady f g step k e (suc d) n is =
    let more : n ≡ suc (k + d) = omega arith in
    ap f more ∙ (step (k + d) ∙ (ap g (steady f g step k e d (k + d) refl) ∙ e))

stays : {X : Type 0} (f : ℕ → X) (g : X → X) → ((k : ℕ) → f (suc k) ≡ g (f k)) → (k n : ℕ) → k ≤ n → g (f k) ≡ f k → f k ≡ f n
stays f g step k n le e = sym (steady f g step k e (n - k) n (omega arith))

-- ---- a row in two parts
sum_apart : (n s t : ℕ) → sum (sum n t) s ≡ sum (sum n s) t
sum_apart n s t = omega arith

steps_apart : (kind : Kind) (is : List Instance) (n t : ℕ) → steps_counted kind is (sum n t) ≡ sum (steps_counted kind is n) t
unfolding steps_counted
steps_apart kind [] n t = refl
steps_apart kind (i ∷ is) n t =
    let s = step_counted kind i in
    ap (steps_counted kind is) (sum_apart n s t) ∙ steps_apart kind is (sum n s) t

both_parts : (kind : Kind) (table : List ℕ) (is : List Instance) (n : ℕ)
    → blocks_counted table is (steps_counted kind is n) ≡ instances_counted kind table is n
unfolding blocks_counted steps_counted instances_counted
both_parts kind table [] n = refl
both_parts kind table (i ∷ is) n =
    let s = step_counted kind i in
    let t = slice_index_or table i.block 0 in
    ap (blocks_counted table is) (sym (steps_apart kind is (sum n s) t)) ∙ both_parts kind table is (sum (sum n s) t)

level_from : (kind : Kind) (table before : List ℕ) (bs : List Block) (n : ℕ) → n ≡ length before
    → level_counted table (before ++ alone kind bs) n bs ≡ next_table kind table bs
unfolding level_counted alone next_table
level_from kind table before [] n e = refl
level_from kind table before (b ∷ bs) n e =
    let x = steps_counted kind b.instances (own_counted kind b) in
    let rest = alone kind bs in
    let here : slice_index_or (before ++ x ∷ rest) n 0 ≡ x =
    ap (λ (k : ℕ). slice_index_or (before ++ x ∷ rest) k 0) e ∙ get_or-append_seam before x rest 0 in
    let split : before ++ x ∷ rest ≡ (before ++ x ∷ []) ++ rest = sym (append_assoc before (x ∷ []) rest) in
    let long = length-append before (x ∷ []) in
    let one : blocks_counted table b.instances (slice_index_or (before ++ x ∷ rest) n 0) ≡ instances_counted kind table b.instances (own_counted kind b) =
    ap (blocks_counted table b.instances) here ∙ both_parts kind table b.instances (own_counted kind b) in
    let more : level_counted table (before ++ x ∷ rest) (n + 1) bs ≡ next_table kind table bs =
    ap (λ (xs : List ℕ). level_counted table xs (n + 1) bs) split ∙ level_from kind table (before ++ x ∷ []) bs (n + 1) (omega arith) in
    cc

level_is : (kind : Kind) (table : List ℕ) (bs : List Block) → level_counted table (alone kind bs) 0 bs ≡ next_table kind table bs
level_is kind table bs = level_from kind table [] bs 0 refl

-- ---- the tables of numbers, one level after another
pub level_up : (kind : Kind) (blocks : List Block) (table numbers : List ℕ) (k : ℕ) → table ≡ table_at kind blocks k → numbers ≡ alone kind blocks
    → level_counted table numbers 0 blocks ≡ table_at kind blocks (k + 1)
unfolding table_at
level_up kind blocks table numbers k e a =
    let more : k + 1 ≡ suc k = omega arith in
    ap (λ (xs : List ℕ). level_counted table xs 0 blocks) a
    ∙ (level_is kind table blocks ∙ (ap (λ (xs : List ℕ). next_table kind xs blocks) e ∙ ap (table_at kind blocks) (sym more)))

pub last_level : (kind : Kind) (blocks : List Block) (table rows : List ℕ) (k n : ℕ) → k ≤ n → table ≡ table_at kind blocks k
    → rows ≡ table_at kind blocks (k + 1) → rows ≡ table → table ≡ table_at kind blocks n
unfolding table_at
last_level kind blocks table rows k n le e more same =
    let one : k + 1 ≡ suc k = omega arith in
    e ∙ stays (table_at kind blocks) (λ (xs : List ℕ). next_table kind xs blocks) (λ i. refl) k n le
    (ap (table_at kind blocks) (sym one) ∙ (sym more ∙ (same ∙ e)))

-- ---- the tables of chains
pub chains_up : (blocks : List Block) (table : List Bool) (k : ℕ) → table ≡ depth.table_at blocks k
    → depth.next_table table blocks ≡ depth.table_at blocks (k + 1)
unfolding depth.table_at
chains_up blocks table k e =
    let more : k + 1 ≡ suc k = omega arith in
    ap (λ (xs : List Bool). depth.next_table xs blocks) e ∙ ap (depth.table_at blocks) (sym more)

pub last_chains : (blocks : List Block) (table rows : List Bool) (k n : ℕ) → k ≤ n → table ≡ depth.table_at blocks k
    → rows ≡ depth.table_at blocks (k + 1) → rows ≡ table → table ≡ depth.table_at blocks n
unfolding depth.table_at
last_chains blocks table rows k n le e more same =
    let one : k + 1 ≡ suc k = omega arith in
    e ∙ stays (depth.table_at blocks) (λ (xs : List Bool). depth.next_table xs blocks) (λ i. refl) k n le
    (ap (depth.table_at blocks) (sym one) ∙ (sym more ∙ (same ∙ e)))
