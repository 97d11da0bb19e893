-- Counting up to two gives the number of sources, up to two.
use Rattle.std.proofs.Common.{◌≡◌, ℕ, suc, ◌+◌, ◌==◌, ◌<◌, List, [], ◌∷◌, ◌++◌, Bool, true, false, Option, min, length, get_or, map}
use Rattle.std.proofs.Common.{refl, ap, sym, ◌∙◌, subst, arith, if◌then◌else◌, append_assoc}
use Rattle.std.proofs.lemmas.Bool.{eqb-true, eq-eqb}
use Rattle.std.proofs.lemmas.List.{get_or-set_same, get_or-set_other, length-set, length-map}
use Rattle.sim_flat_blocks.specs.declared.parts.Object.{Object}
use Rattle.sim_flat_blocks.specs.declared.parts.Port.{Port}
use Rattle.sim_flat_blocks.specs.declared.parts.Block.{Block}
use Rattle.sim_flat_blocks.specs.Blocks.{objects, size, targets_of}
use Rattle.sim_flat_graph.specs.Least.{least_of}
use Rattle.sim_flat_graph.specs.Sources.{noted, all_noted, times, source_targets, targets_of_instances, source_count, places_of, declared_place}
use Rattle.sim_flat_graph.proofs.Noted.{noted_both, least_both}

pub noted_length : (counts : List ℕ) (p : ℕ) → length (noted counts p) ≡ length counts
unfolding noted
noted_length counts p = length-set counts p (min 1 (get_or counts p 0) + 1)

pub all_noted_length : (counts ps : List ℕ) → length (all_noted counts ps) ≡ length counts
unfolding all_noted
all_noted_length counts [] = refl
all_noted_length counts (p ∷ ps) = all_noted_length (noted counts p) ps ∙ noted_length counts p

noted_same : (counts : List ℕ) (n : ℕ) → n < length counts → get_or (noted counts n) n 0 ≡ min 1 (get_or counts n 0) + 1
unfolding noted
noted_same counts n lt = get_or-set_same counts n (min 1 (get_or counts n 0) + 1) 0 lt

noted_other : (counts : List ℕ) (p n : ℕ) → p == n ≡ false → get_or (noted counts p) n 0 ≡ get_or counts n 0
unfolding noted
noted_other counts p n e = get_or-set_other counts p n (min 1 (get_or counts p 0) + 1) 0 (λ same. let t = eq-eqb p n (sym same) in cc)

all_noted_at : (counts ps : List ℕ) (n x : ℕ) → n < length counts → get_or counts n 0 ≡ min 2 x → get_or (all_noted counts ps) n 0 ≡ min 2 (times n ps + x)
unfolding all_noted times
all_noted_at counts [] n x lt h = h ∙ (let e : min 2 x ≡ min 2 (0 + x) = omega arith in e)
all_noted_at counts (p ∷ ps) n x lt h = by_bit (p == n) refl (λ y. all_noted_at (noted counts p) ps n y (let e = noted_length counts p in omega arith))
  where
    by_bit : (b : Bool) → p == n ≡ b → ((y : ℕ) → get_or (noted counts p) n 0 ≡ min 2 y → get_or (all_noted (noted counts p) ps) n 0 ≡ min 2 (times n ps + y))
        → get_or (all_noted (noted counts p) ps) n 0 ≡ min 2 ((if b then 1 + times n ps else times n ps) + x)
    by_bit true t on =
        let e : p ≡ n = eqb-true p n t in
        let s : get_or (noted counts p) n 0 ≡ min 2 (1 + x) =
        subst (λ (q : ℕ). get_or (noted counts q) n 0 ≡ min 2 (1 + x)) (sym e) (noted_same counts n lt
        ∙ (let u : min 1 (get_or counts n 0) + 1 ≡ min 2 (1 + x) = omega arith in u)) in
        on (1 + x) s ∙ (let u : min 2 (times n ps + (1 + x)) ≡ min 2 (1 + times n ps + x) = omega arith in u)
    by_bit false t on = on x (noted_other counts p n t ∙ h)

pub counted : (blocks : List Block) (b : Block) (first drivers counts : List ℕ) → length first ≡ size b → ((n : ℕ) → get_or first n 0 ≡ 0)
    → drivers ≡ all_noted first (targets_of b.processes) → counts ≡ all_noted drivers (targets_of_instances blocks b.instances)
    → (n : ℕ) → n < size b → get_or counts n 0 ≡ min 2 (source_count blocks b n)
unfolding source_targets
counted blocks b first drivers counts same none of_drivers of_instances n lt =
    let all : counts ≡ all_noted first (source_targets blocks b) =
    of_instances ∙ (ap (λ (c : List ℕ). all_noted c (targets_of_instances blocks b.instances)) of_drivers
    ∙ sym (noted_both first (targets_of b.processes) (targets_of_instances blocks b.instances))) in
    let zero_at : get_or first n 0 ≡ min 2 0 = none n ∙ (let e : 0 ≡ min 2 0 = omega arith in e) in
    ap (λ (c : List ℕ). get_or c n 0) all
    ∙ (all_noted_at first (source_targets blocks b) n 0 (omega arith) zero_at
    ∙ (let e : min 2 (times n (source_targets blocks b) + 0) ≡ min 2 (times n (source_targets blocks b)) = omega arith in e))

pub counted_length : (blocks : List Block) (b : Block) (first drivers counts : List ℕ) → length first ≡ size b
    → drivers ≡ all_noted first (targets_of b.processes) → counts ≡ all_noted drivers (targets_of_instances blocks b.instances) → length counts ≡ size b
counted_length blocks b first drivers counts same of_drivers of_instances =
    ap (λ (c : List ℕ). length c) of_instances
    ∙ (all_noted_length drivers (targets_of_instances blocks b.instances)
    ∙ (ap (λ (c : List ℕ). length c) of_drivers ∙ (all_noted_length first (targets_of b.processes) ∙ same)))

-- ---- ports, then signals
places_both : (counts : List ℕ) (k : ℕ) (xs ys : List Object) → places_of counts k (xs ++ ys) ≡ places_of counts k xs ++ places_of counts (k + length xs) ys
unfolding places_of
places_both counts k [] ys = ap (λ (n : ℕ). places_of counts n ys) (let e : k ≡ k + 0 = omega arith in e)
places_both counts k (o ∷ xs) ys =
    let here = declared_place o (get_or counts k 0) in
    let e : k + 1 + length xs ≡ k + suc (length xs) = omega arith in
    ap (λ (rest : List ℕ). here ++ rest) (places_both counts (k + 1) xs ys ∙ ap (λ (n : ℕ). places_of counts (k + 1) xs ++ places_of counts n ys) e)
    ∙ sym (append_assoc here (places_of counts (k + 1) xs) (places_of counts (k + suc (length xs)) ys))

pub least_of_both : (counts : List ℕ) (b : Block) (known of_ports found : Option ℕ)
    → of_ports ≡ least_of known (places_of counts 0 (map (λ (p : Port). p.object) b.ports))
    → found ≡ least_of of_ports (places_of counts (length b.ports) b.signals) → found ≡ least_of known (places_of counts 0 (objects b))
least_of_both counts b known of_ports found first second =
    let ports = map (λ (p : Port). p.object) b.ports in
    let e : length b.ports ≡ 0 + length ports = (let l : length ports ≡ length b.ports = length-map b.ports (λ (p : Port). p.object) in omega arith) in
    second ∙ (ap (λ (o : Option ℕ). least_of o (places_of counts (length b.ports) b.signals)) first
    ∙ (sym (least_both known (places_of counts 0 ports) (places_of counts (length b.ports) b.signals))
    ∙ ap (least_of known) (ap (λ (n : ℕ). places_of counts 0 ports ++ places_of counts n b.signals) e ∙ sym (places_both counts 0 ports b.signals))))
