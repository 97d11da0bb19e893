-- Each occurrence has its own path, so the occurrences before a path are those expanded before it.
use Rattle.std.proofs.Common.{◌≡◌, ℕ, zero, suc, ◌+◌, ◌<◌, ◌≤◌, List, [], ◌∷◌, ◌++◌, true, false, length, refl, ap, sym, ◌∙◌, arith, append_assoc}
use Rattle.std.proofs.Common.{length-append, bytes_eq}
use Rattle.std.proofs.lemmas.Slice.Eq.{bytes_eq-Decides}
use Rattle.sim_text_tokens.proofs.Tests.{by_cases}
use Rattle.sim_flat_blocks.specs.declared.parts.Instance.{Instance}
use Rattle.sim_flat_blocks.specs.declared.parts.Block.{Block}
use Rattle.sim_flat_blocks.specs.Blocks.{block_of}
use Rattle.sim_flat_expansion.specs.Hierarchy.{Path, places_of, Occurrence, inner, occurrences, before}
use Rattle.sim_flat_expansion.proofs.Sound.{Each, each_append, each_map}

-- no occurrence's path is this one or extends it
abbrev pub Clear : List Occurrence → List ℕ → Type 0
Clear made sp = (front : List ℕ) → Each (λ (s : Occurrence). places_of s.path ≡ front ++ sp → ⊥) made

-- a count over occurrences
abbrev pub counted : (Occurrence → ℕ) → List Occurrence → ℕ
counted count [] = 0
counted count (s ∷ ss) = count s + counted count ss

pub counted_append : (count : Occurrence → ℕ) (xs ys : List Occurrence) → counted count (xs ++ ys) ≡ counted count xs + counted count ys
counted_append count [] ys = omega arith
counted_append count (x ∷ xs) ys = let m = counted_append count xs ys in omega arith

-- the count before an occurrence whose path differs from all earlier ones
pub before_is : (count : Occurrence → ℕ) (made rest : List Occurrence) (s : Occurrence)
    → Each (λ (x : Occurrence). places_of x.path ≡ places_of s.path → ⊥) made
    → before count (made ++ s ∷ rest) s.path ≡ counted count made
unfolding before
before_is count [] rest s h =
    let e : bytes_eq (places_of s.path) (places_of s.path) ≡ true = (bytes_eq-Decides (places_of s.path) (places_of s.path)).1 refl in rw e refl
before_is count (x ∷ xs) rest s h =
    let e : bytes_eq (places_of x.path) (places_of s.path) ≡ false =
    by_cases (bytes_eq (places_of x.path) (places_of s.path)) (λ t. absurd (h.0 ((bytes_eq-Decides (places_of x.path) (places_of s.path)).0 t))) (λ t. t) in
    rw e (ap (λ (n : ℕ). count x + n) (before_is count xs rest s h.1))

-- a list does not extend itself
no_longer : (front x : List ℕ) (i : ℕ) → x ≡ front ++ i ∷ x → ⊥
no_longer front x i e = let k : length x ≡ length (front ++ i ∷ x) = ap (λ (ys : List ℕ). length ys) e in let m = length-append front (i ∷ x) in omega arith

one_place : (a b x : List ℕ) (i j : ℕ) → a ++ i ∷ x ≡ b ++ j ∷ x → i ≡ j
one_place [] [] x i j e = cc
one_place [] (y ∷ b) x i j e = let t : x ≡ b ++ j ∷ x = cc in absurd (no_longer b x j t)
one_place (y ∷ a) [] x i j e = let t : a ++ i ∷ x ≡ x = cc in absurd (no_longer a x i (sym t))
one_place (y ∷ a) (z ∷ b) x i j e = let t : a ++ i ∷ x ≡ b ++ j ∷ x = cc in one_place a b x i j t

-- the paths of the occurrences extend this one
abbrev Under : List ℕ → List Occurrence → Type 0
Under sp ss = Each (λ (s : Occurrence). (front : List ℕ) × (places_of s.path ≡ front ++ sp)) ss

inner_under : (one : Path → Block → List Occurrence) → ((p : Path) (b : Block) → Under (places_of p) (one p b)) → (blocks : List Block) (p : Path) (j : ℕ)
    (is : List Instance)
    → Each (λ (s : Occurrence). (front : List ℕ) × (k : ℕ) × (j ≤ k) × (places_of s.path ≡ front ++ k ∷ places_of p)) (inner one blocks p j is)
unfolding inner
inner_under one h blocks p j [] = tt
inner_under one h blocks p j (i ∷ is) =
    let c : Path = record { instance = i; place = j } ∷ p in
    each_append (λ (s : Occurrence). (front : List ℕ) × (k : ℕ) × (j ≤ k) × (places_of s.path ≡ front ++ k ∷ places_of p)) (one c (block_of blocks i))
    (inner one blocks p (j + 1) is)
    (each_map (λ (s : Occurrence). (front : List ℕ) × (places_of s.path ≡ front ++ places_of c)) (λ (s : Occurrence). (front : List ℕ) × (k : ℕ) × (j ≤ k) ×
    (places_of s.path ≡ front ++ k ∷ places_of p))
    (λ s u. (u.0, j, omega arith, u.1)) (one c (block_of blocks i)) (h c (block_of blocks i)))
    (each_map (λ (s : Occurrence). (front : List ℕ) × (k : ℕ) × (j + 1 ≤ k) × (places_of s.path ≡ front ++ k ∷ places_of p))
    (λ (s : Occurrence). (front : List ℕ) × (k : ℕ) × (j ≤ k) × (places_of s.path ≡ front ++ k ∷ places_of p))
    (λ s u. (u.0, u.1, omega arith, u.3)) (inner one blocks p (j + 1) is) (inner_under one h blocks p (j + 1) is))

pub occurrences_under : (blocks : List Block) (k : ℕ) (p : Path) (b : Block) → Under (places_of p) (occurrences blocks k p b)
unfolding occurrences
occurrences_under blocks zero p b = tt
occurrences_under blocks (suc k) p b = (
  ([], refl),
  each_map (λ (s : Occurrence). (front : List ℕ) × (m : ℕ) × (0 ≤ m) × (places_of s.path ≡ front ++ m ∷ places_of p)) (λ (s : Occurrence). (front : List ℕ) ×
      (places_of s.path ≡ front ++ places_of p))
      (λ s u. (u.0 ++ u.1 ∷ [], u.3 ∙ sym (append_assoc u.0 (u.1 ∷ []) (places_of p)))) (inner (occurrences blocks k) blocks p 0 b.instances)
      (inner_under (occurrences blocks k) (occurrences_under blocks k) blocks p 0 b.instances),
)

-- occurrences clear of a path are clear of its extensions
pub clear_below : (made : List Occurrence) (sp : List ℕ) (j : ℕ) → Clear made sp → Clear made (j ∷ sp)
clear_below made sp j h front =
    each_map (λ (s : Occurrence). places_of s.path ≡ (front ++ j ∷ []) ++ sp → ⊥) (λ (s : Occurrence). places_of s.path ≡ front ++ j ∷ sp → ⊥)
    (λ s u e. u (e ∙ sym (append_assoc front (j ∷ []) sp))) made (h (front ++ j ∷ []))

-- an occurrence is clear of the paths that extend its own
pub clear_self : (s : Occurrence) (j : ℕ) → Clear (s ∷ []) (j ∷ places_of s.path)
clear_self s j front = ((λ e. no_longer front (places_of s.path) j e), tt)

-- the occurrences of an instance are clear of a later instance
pub clear_sister : (blocks : List Block) (k : ℕ) (p : Path) (i : Instance) (b : Block) (j m : ℕ) → j < m
    → Clear (occurrences blocks k (record { instance = i; place = j } ∷ p) b) (m ∷ places_of p)
clear_sister blocks k p i b j m lt front =
    let c : Path = record { instance = i; place = j } ∷ p in
    each_map (λ (s : Occurrence). (f : List ℕ) × (places_of s.path ≡ f ++ places_of c)) (λ (s : Occurrence). places_of s.path ≡ front ++ m ∷ places_of p → ⊥)
    (λ s u e. let d : j ≡ m = one_place u.0 front (places_of p) j m (sym u.1 ∙ e) in omega arith) (occurrences blocks k c b) (occurrences_under blocks k c b)

pub clear_both : (xs ys : List Occurrence) (sp : List ℕ) → Clear xs sp → Clear ys sp → Clear (xs ++ ys) sp
clear_both xs ys sp h k front = each_append (λ (s : Occurrence). places_of s.path ≡ front ++ sp → ⊥) xs ys (h front) (k front)
