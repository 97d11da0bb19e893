-- Counting level by level gives the numbers of the flat design, up to the limit.
use Rattle.std.proofs.Common.{◌≡◌, ℕ, zero, suc, ◌+◌, ◌<◌, ◌≤◌, List, [], ◌∷◌, ◌++◌, true, map, length, get_or}
use Rattle.std.proofs.Common.{refl, ap, sym, ◌∙◌, arith, length-append, append_assoc, All}
use Rattle.std.proofs.Math.Seq.{get_or-append_seam}
use Rattle.std.proofs.lemmas.List.{length-map, get_or_past, get_or_read}
use Rattle.sim_flat_expansion.specs.declared.counts.Kind.{Kind}
use Rattle.sim_flat_expansion.specs.declared.counts.Kind.TheVariants.{Nets, Processes, Drivers, Instances}
use Rattle.sim_flat_blocks.specs.declared.links.Link.{Link}
use Rattle.sim_flat_blocks.specs.declared.links.Link.TheVariants.{To, Constant, Open}
use Rattle.sim_flat_blocks.specs.declared.parts.Object.{Object}
use Rattle.sim_flat_blocks.specs.declared.parts.Port.{Port}
use Rattle.sim_flat_blocks.specs.declared.parts.BlockProcess.{BlockProcess}
use Rattle.sim_flat_blocks.specs.declared.parts.Instance.{Instance}
use Rattle.sim_flat_blocks.specs.declared.parts.Block.{Block}
use Rattle.sim_flat_blocks.specs.Blocks.{IsBlock, IsInstance, block_of, no_block, link_at, objects, size, targets_of}
use Rattle.sim_flat_blocks.specs.Links.{unlinked}
use Rattle.sim_flat_expansion.specs.Hierarchy.{PathStep, Path, Occurrence, link_of, is_own, Own, own_from, inner, occurrences, net_count, process_count}
use Rattle.sim_flat_expansion.specs.Hierarchy.{driver_count, before}
use Rattle.sim_flat_expansion.specs.Flat.{object_nets_from, net, nets_at, processes_at, drivers_at, occurrences_of, flat}
use Rattle.sim_flat_expansion.specs.Counts.{number, capped, sum, own_number, step_number, targets_counted}
use Rattle.sim_flat_expansion.specs.Counts.{own_counted, step_counted, instances_counted, first_table, next_table, table_at, top_added, top_counted}
use Rattle.sim_flat_expansion.proofs.Sound.{Each, each_of}
use Rattle.sim_flat_expansion.proofs.Occurrences.{counted, counted_append}
use Rattle.sim_flat_expansion.proofs.ExpandedObjects.{own_append, own_more}
use Rattle.sim_flat_expansion.proofs.Law.{gathered, processes_count, drivers_count}

-- ---- the cap
sum_capped : (a b : ℕ) → sum (capped a) b ≡ capped (a + b)
sum_capped a b = omega arith

targets_are : (ts : List BlockProcess) (n : ℕ) → targets_counted ts (capped n) ≡ capped (n + length (targets_of ts))
unfolding targets_counted targets_of
targets_are [] n = let e : n ≡ n + 0 = omega arith in ap capped e
targets_are (t ∷ ts) n =
    let a = length-append t.targets (targets_of ts) in
    let e : n + length t.targets + length (targets_of ts) ≡ n + length (t.targets ++ targets_of ts) = omega arith in
    ap (targets_counted ts) (sum_capped n (length t.targets)) ∙ (targets_are ts (n + length t.targets) ∙ ap capped e)

own_is : (kind : Kind) (b : Block) → own_counted kind b ≡ capped (own_number kind b)
own_is Nets b = refl
own_is Processes b = refl
own_is Drivers b = targets_are b.processes 0 ∙ (let e : 0 + length (targets_of b.processes) ≡ length (targets_of b.processes) = omega arith in ap capped e)
own_is Instances b = refl

step_is : (kind : Kind) (i : Instance) → step_counted kind i ≡ capped (step_number kind i)
step_is Nets i = refl
step_is Processes i = refl
step_is Drivers i = refl
step_is Instances i = refl

-- ---- without the cap: the contents of a block with a number of levels below it
steps : (Instance → ℕ) → List Instance → ℕ
steps f [] = 0
steps f (i ∷ is) = f i + steps f is

pub total : Kind → List Block → ℕ → Block → ℕ
total kind blocks zero b = own_number kind b
total kind blocks (suc k) b = own_number kind b + steps (λ i. step_number kind i + total kind blocks k (block_of blocks i)) b.instances

first_at : (kind : Kind) (bs : List Block) (n : ℕ) → n < length bs → get_or (first_table kind bs) n 0 ≡ capped (own_number kind (get_or bs n no_block))
unfolding first_table
first_at kind [] n lt = absurd (omega arith)
first_at kind (b ∷ bs) zero lt = own_is kind b
first_at kind (b ∷ bs) (suc n) lt = first_at kind bs n (omega arith)

next_at : (kind : Kind) (table : List ℕ) (bs : List Block) (n : ℕ) → n < length bs
    → get_or (next_table kind table bs) n 0 ≡ instances_counted kind table (get_or bs n no_block).instances (own_counted kind (get_or bs n no_block))
unfolding next_table
next_at kind table [] n lt = absurd (omega arith)
next_at kind table (b ∷ bs) zero lt = refl
next_at kind table (b ∷ bs) (suc n) lt = next_at kind table bs n (omega arith)

sum_twice : (n s t : ℕ) → sum (sum (capped n) (capped s)) (capped t) ≡ capped (n + (s + t))
sum_twice n s t = omega arith

instances_are : (kind : Kind) (blocks : List Block) (table : List ℕ) (f : Block → ℕ)
    → ((n : ℕ) → n < length blocks → get_or table n 0 ≡ capped (f (get_or blocks n no_block)))
    → (is : List Instance) → Each (λ (i : Instance). i.block < length blocks) is → (n : ℕ)
    → instances_counted kind table is (capped n) ≡ capped (n + steps (λ i. step_number kind i + f (block_of blocks i)) is)
unfolding instances_counted steps
instances_are kind blocks table f h [] each n = let e : n ≡ n + 0 = omega arith in ap capped e
instances_are kind blocks table f h (i ∷ is) each n =
    let s = step_number kind i in
    let t = f (block_of blocks i) in
    let one : sum (sum (capped n) (step_counted kind i)) (get_or table i.block 0) ≡ capped (n + (s + t)) =
    ap (λ (x : ℕ). sum (sum (capped n) x) (get_or table i.block 0)) (step_is kind i)
    ∙ (ap (λ (x : ℕ). sum (sum (capped n) (capped s)) x) (h i.block each.0) ∙ sum_twice n s t) in
    let rest = steps (λ j. step_number kind j + f (block_of blocks j)) is in
    let e : n + (s + t) + rest ≡ n + (s + t + rest) = omega arith in
    ap (instances_counted kind table is) one ∙ (instances_are kind blocks table f h is each.1 (n + (s + t)) ∙ ap capped e)

known_blocks : (blocks : List Block) (b : Block) (is : List Instance) → Each (IsInstance blocks b) is → Each (λ (i : Instance). i.block < length blocks) is
known_blocks blocks b [] h = tt
known_blocks blocks b (i ∷ is) h = (h.0.known, known_blocks blocks b is h.1)

pub table_is : (kind : Kind) (blocks : List Block) → All (IsBlock blocks) blocks → (k n : ℕ) → n < length blocks
    → get_or (table_at kind blocks k) n 0 ≡ capped (total kind blocks k (get_or blocks n no_block))
unfolding table_at total
table_is kind blocks known zero n lt = first_at kind blocks n lt
table_is kind blocks known (suc k) n lt =
    let b = get_or blocks n no_block in
    let table = table_at kind blocks k in
    next_at kind table blocks n lt
    ∙ (ap (instances_counted kind table b.instances) (own_is kind b)
    ∙ instances_are kind blocks table (total kind blocks k) (table_is kind blocks known k) b.instances
    (known_blocks blocks b b.instances (each_of (IsInstance blocks b) b.instances (known n no_block lt).instances)) (own_number kind b))

-- ---- the occurrences
abbrev measure : Kind → Occurrence → ℕ
measure Nets = net_count
measure Processes = process_count
measure Drivers = driver_count
measure Instances = λ s. 1

one_port : (c : Path) (n : ℕ) (o : Object) (os : List Object) (l : Link) (ls : List Link) → link_of c n ≡ l
    → length (own_from c (n + 1) os) ≡ unlinked ls → length (own_from c n (o ∷ os)) ≡ unlinked (l ∷ ls)
unfolding unlinked
one_port c n o os (To m) ls at more =
    let k : length (own_from c (n + 1) os) ≡ 0 + unlinked ls = omega arith in
    ap (λ (xs : List Own). length xs) (own_more c n o os (To m) at) ∙ k
one_port c n o os (Constant v) ls at more =
    let k : suc (length (own_from c (n + 1) os)) ≡ 1 + unlinked ls = omega arith in
    ap (λ (xs : List Own). length xs) (own_more c n o os (Constant v) at) ∙ k
one_port c n o os Open ls at more =
    let k : suc (length (own_from c (n + 1) os)) ≡ 1 + unlinked ls = omega arith in
    ap (λ (xs : List Own). length xs) (own_more c n o os Open at) ∙ k

-- the ports of a path's occurrence that are nets
ports_own : (c : Path) (before after : List Link) (os : List Object) → ((n : ℕ) → link_of c n ≡ link_at (before ++ after) n) → length os ≡ length after
    → length (own_from c (length before) os) ≡ unlinked after
unfolding own_from unlinked
ports_own c before [] [] h e = refl
ports_own c before [] (o ∷ os) h e = absurd (omega arith)
ports_own c before (l ∷ ls) [] h e = absurd (omega arith)
ports_own c before (l ∷ ls) (o ∷ os) h e =
    let here : link_of c (length before) ≡ l = h (length before) ∙ get_or-append_seam before l ls Open in
    let longer : length (before ++ l ∷ []) ≡ length before + 1 = length-append before (l ∷ []) in
    let more : length (own_from c (length before + 1) os) ≡ unlinked ls =
    ap (λ (n : ℕ). length (own_from c n os)) (sym longer)
    ∙ ports_own c (before ++ l ∷ []) ls os (λ n. h n ∙ ap (λ (xs : List Link). link_at xs n) (sym (append_assoc before (l ∷ []) ls))) (omega arith) in
    one_port c (length before) o os l ls here more

signals_own : (c : Path) (n : ℕ) (os : List Object) → ((i : ℕ) → n ≤ i → link_of c i ≡ Open) → length (own_from c n os) ≡ length os
unfolding own_from
signals_own c n [] h = refl
signals_own c n (o ∷ os) h =
    let t : is_own (link_of c n) ≡ true = ap is_own (h n (omega arith)) in
    rw t (ap suc (signals_own c (n + 1) os (λ i le. h i (omega arith))))

-- the number of an occurrence itself, and what its path adds
abbrev Stands : Kind → Path → Block → ℕ → Type 0
Stands kind c b at = (k : ℕ) → measure kind (record { path = c; block = b; levels = k }) ≡ at + own_number kind b

stands_below : (kind : Kind) (blocks : List Block) (s : PathStep) (p : Path) → length s.instance.links ≡ length (block_of blocks s.instance).ports
    → Stands kind (s ∷ p) (block_of blocks s.instance) (step_number kind s.instance)
stands_below Nets blocks s p e k =
    let b = block_of blocks s.instance in
    let c : Path = s ∷ p in
    let pos = map (λ (q : Port). q.object) b.ports in
    let n : length pos ≡ length b.ports = length-map b.ports (λ (q : Port). q.object) in
    let split = ap (λ (xs : List Own). length xs) (own_append c 0 pos b.signals)
    ∙ length-append (own_from c 0 pos) (own_from c (0 + length pos) b.signals) in
    let one = ports_own c [] s.instance.links pos (λ i. refl) (n ∙ sym e) in
    let two = signals_own c (0 + length pos) b.signals (λ i le. get_or_past s.instance.links i Open (omega arith)) in
    omega arith
stands_below Processes blocks s p e k = omega arith
stands_below Drivers blocks s p e k = omega arith
stands_below Instances blocks s p e k = omega arith

below_is : (kind : Kind) (blocks : List Block) (k : ℕ) (p : Path) → ((c : Path) (b : Block) (at : ℕ) → All (IsInstance blocks b) b.instances
    → Stands kind c b at
    → counted (measure kind) (occurrences blocks (suc k) c b) ≡ at + total kind blocks k b)
    → All (IsBlock blocks) blocks → (b : Block) (is : List Instance) → Each (IsInstance blocks b) is → (j : ℕ)
    → counted (measure kind) (inner (occurrences blocks (suc k)) blocks p j is) ≡ steps (λ i. step_number kind i + total kind blocks k (block_of blocks i)) is
unfolding inner steps
below_is kind blocks k p h known b [] each j = refl
below_is kind blocks k p h known b (i ∷ is) each j =
    let s : PathStep = record { instance = i; place = j } in
    let inside = block_of blocks i in
    let lt = each.0.known in
    let one = h (s ∷ p) inside (step_number kind i) (known i.block no_block lt).instances (stands_below kind blocks s p each.0.links) in
    let two = below_is kind blocks k p h known b is each.1 (j + 1) in
    let both = counted_append (measure kind) (occurrences blocks (suc k) (s ∷ p) inside) (inner (occurrences blocks (suc k)) blocks p (j + 1) is) in
    omega arith

nothing_below : (kind : Kind) (blocks : List Block) (p : Path) (j : ℕ) (is : List Instance)
    → counted (measure kind) (inner (occurrences blocks zero) blocks p j is) ≡ 0
unfolding inner occurrences
nothing_below kind blocks p j [] = refl
nothing_below kind blocks p j (i ∷ is) = nothing_below kind blocks p (j + 1) is

occurrences_are : (kind : Kind) (blocks : List Block) → All (IsBlock blocks) blocks → (k : ℕ) (c : Path) (b : Block) (at : ℕ)
    → All (IsInstance blocks b) b.instances
    → Stands kind c b at → counted (measure kind) (occurrences blocks (suc k) c b) ≡ at + total kind blocks k b
unfolding occurrences total
occurrences_are kind blocks known zero c b at is h = let e = h zero in let n = nothing_below kind blocks c 0 b.instances in omega arith
occurrences_are kind blocks known (suc k) c b at is h =
    let e = h (suc k) in
    let n = below_is kind blocks k c (occurrences_are kind blocks known k) known b b.instances (each_of (IsInstance blocks b) b.instances is) 0 in
    omega arith

-- ---- the top

-- how much the count over all occurrences exceeds the number: by one for instances, as the top is an occurrence but not an instance
abbrev one_if : Kind → ℕ
one_if Nets = 0
one_if Processes = 0
one_if Drivers = 0
one_if Instances = 1

abbrev top_number : Kind → Block → ℕ
top_number Nets b = length b.ports
top_number Processes b = 0
top_number Drivers b = 0
top_number Instances b = 1

top_parts : (kind : Kind) (b : Block) → top_number kind b ≡ top_added kind b + one_if kind
top_parts Nets b = omega arith
top_parts Processes b = refl
top_parts Drivers b = refl
top_parts Instances b = refl

top_stands : (kind : Kind) (b : Block) → Stands kind [] b (top_number kind b)
top_stands Nets b k =
    let n = signals_own [] 0 (objects b) (λ i le. refl) in
    let m = length-append (map (λ (q : Port). q.object) b.ports) b.signals in
    let p = length-map b.ports (λ (q : Port). q.object) in
    omega arith
top_stands Processes b k = omega arith
top_stands Drivers b k = omega arith
top_stands Instances b k = omega arith

ones : (ss : List Occurrence) → counted (λ s. 1) ss ≡ length ss
ones [] = refl
ones (s ∷ ss) = let e = ones ss in omega arith

measured : (kind : Kind) (blocks : List Block) (top : ℕ) → 0 < length (occurrences_of blocks top)
    → counted (measure kind) (occurrences_of blocks top) ≡ number kind blocks top + one_if kind
unfolding number flat
measured Nets blocks top some =
    let all = occurrences_of blocks top in
    let e = gathered (nets_at blocks all) net_count (λ s. length-map (own_from s.path 0 (objects s.block)) (net blocks all s)) all in
    omega arith
measured Processes blocks top some =
    let all = occurrences_of blocks top in
    let e = gathered (processes_at all) process_count
    (λ s. processes_count (object_nets_from all s.path 0 (size s.block)) (before driver_count all s.path) s.block.processes) all in
    omega arith
measured Drivers blocks top some =
    let all = occurrences_of blocks top in
    let e = gathered (drivers_at all) driver_count
    (λ s. drivers_count (object_nets_from all s.path 0 (size s.block)) s.block (before process_count all s.path) s.block.processes) all in
    omega arith
measured Instances blocks top some = let e = ones (occurrences_of blocks top) in omega arith

there : (blocks : List Block) (top : ℕ) → 0 < length (occurrences_of blocks top)
unfolding occurrences_of occurrences
there blocks top = omega arith

total_is : (kind : Kind) (blocks : List Block) (top : ℕ) → All (IsBlock blocks) blocks → top < length blocks
    → number kind blocks top ≡ top_added kind (get_or blocks top no_block) + total kind blocks 32 (get_or blocks top no_block)
unfolding occurrences_of
total_is kind blocks top known lt =
    let b = get_or blocks top no_block in
    let e = occurrences_are kind blocks known 32 [] b (top_number kind b) (known top no_block lt).instances (top_stands kind b) in
    let m = measured kind blocks top (there blocks top) in
    let a = top_parts kind b in
    omega arith

added_is : (kind : Kind) (b : Block) → top_counted kind b ≡ capped (top_added kind b)
added_is Nets b = refl
added_is Processes b = refl
added_is Drivers b = refl
added_is Instances b = refl

sum_both : (a b : ℕ) → sum (capped a) (capped b) ≡ capped (b + a)
sum_both a b = omega arith

-- the count from the top
pub count_is : (kind : Kind) (blocks : List Block) (top : ℕ) → All (IsBlock blocks) blocks → top < length blocks → (b : Block) → b ≡ get_or blocks top b
    → (n : ℕ) → n ≡ get_or (table_at kind blocks 32) top 0 → sum n (top_counted kind b) ≡ capped (number kind blocks top)
count_is kind blocks top known lt b eb n en =
    let c = get_or blocks top no_block in
    let same : b ≡ c = get_or_read blocks top b lt eb no_block in
    let one : n ≡ capped (total kind blocks 32 c) = en ∙ table_is kind blocks known 32 top lt in
    let two : top_counted kind b ≡ capped (top_added kind c) = ap (top_counted kind) same ∙ added_is kind c in
    let all : top_added kind c + total kind blocks 32 c ≡ number kind blocks top = sym (total_is kind blocks top known lt) in
    ap (λ (x : ℕ). sum x (top_counted kind b)) one
    ∙ (ap (λ (x : ℕ). sum (capped (total kind blocks 32 c)) x) two
    ∙ (sum_both (total kind blocks 32 c) (top_added kind c) ∙ ap capped all))
