-- Stamps, and the set of the numbers with the current stamp.
use Rattle.std.proofs.Common.{ℕ, ◌<◌, ◌≤◌, ◌≡◌, ◌∙◌, All, Bool, true, false, List, [], ◌∷◌, eqb, length, replicate, set, ap, arith, refl, zero, suc}
use Rattle.std.proofs.lemmas.Bool.Decides.{nat_tests}
use Rattle.std.proofs.lemmas.List.{map-set, length-map}
use Rattle.std.proofs.lemmas.List.Elements.{All-head, All-tail}
use Rattle.sim_containers.specs.Numbers.{stamped}

same : (n : ℕ) → eqb n n ≡ true
same n = grind (arith, nat_tests)

pub marked : (now : ℕ) (stamps : List ℕ) (n : ℕ) → stamped now (set stamps n now) ≡ set (stamped now stamps) n true
marked now stamps n = map-set (λ (s : ℕ). eqb s now) stamps n now ∙ ap (set (stamped now stamps) n) (same now)

pub unmarked : (now : ℕ) (stamps : List ℕ) (n : ℕ) → 0 < now → stamped now (set stamps n 0) ≡ set (stamped now stamps) n false
unmarked now stamps n l =
    let other : eqb 0 now ≡ false = grind (arith, nat_tests) in
    map-set (λ (s : ℕ). eqb s now) stamps n 0 ∙ ap (set (stamped now stamps) n) other

pub none_stamped : (n now : ℕ) → 0 < now → stamped now (replicate n 0) ≡ replicate n false
none_stamped zero now l = refl
none_stamped (suc n) now l =
    let other : eqb 0 now ≡ false = grind (arith, nat_tests) in
    ap (λ (b : Bool). b ∷ stamped now (replicate n 0)) other ∙ ap (λ (xs : List Bool). false ∷ xs) (none_stamped n now l)

-- none has a stamp that is later than all
pub none_later : (now later : ℕ) (stamps : List ℕ) → now < later → All (λ (s : ℕ). s ≤ now) stamps → stamped later stamps ≡ replicate (length stamps) false
none_later now later [] l past = refl
none_later now later (s ∷ stamps) l past =
    let least : s ≤ now = All-head (λ (t : ℕ). t ≤ now) s stamps past in
    let other : eqb s later ≡ false = grind (arith, nat_tests) in
    ap (λ (b : Bool). b ∷ stamped later stamps) other
    ∙ ap (λ (xs : List Bool). false ∷ xs) (none_later now later stamps l (All-tail (λ (t : ℕ). t ≤ now) s stamps past))

pub count : (now : ℕ) (stamps : List ℕ) → length (stamped now stamps) ≡ length stamps
count now stamps = length-map stamps (λ (s : ℕ). eqb s now)
