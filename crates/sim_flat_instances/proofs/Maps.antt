-- Lookups in a map from names or numbers to positions, after an insertion.
use Rattle.std.proofs.Common.{ℕ, ◌≡◌, ◌==◌, ◌&&◌, List, [], ◌∷◌, map, Bool, true, false, cond, Option, Some, refl, ap, sym, ◌∙◌, Bor}
use Rattle.std.specs.Str.{bytes_eq}
use Rattle.std.specs.Map.{lookup}
use Rattle.std.specs.Option.{option_or}
use Rattle.std.proofs.lemmas.Slice.Eq.{bytes_eq-Decides}
use Rattle.sim_flat_instances.specs.Places.{where_at, place_of, place_of_both, place_of_number}

chosen : (b : Bool) (place : ℕ) (o : Option ℕ) → cond b (Some place) o ≡ option_or (where_at b place) o
chosen true place o = refl
chosen false place o = refl

either_way : (a b : Bool) → (a ≡ true → b ≡ true) → (b ≡ true → a ≡ true) → a ≡ b
either_way true true f g = refl
either_way true false f g = sym (f refl)
either_way false true f g = g refl
either_way false false f g = refl

-- the lookup `now` after an insertion, compared with the lookup `before`
put_at : (same turned : Bool) (place : ℕ) (now before was : Option ℕ) → now ≡ cond same (Some place) before → same ≡ turned → before ≡ was
    → now ≡ option_or (where_at turned place) was
put_at same turned place now before was made turn view =
    made ∙ (chosen same place before ∙ (ap (λ (b : Bool). option_or (where_at b place) before) turn ∙ ap (option_or (where_at turned place)) view))

-- ---- names

turned_names : (a b : List ℕ) → bytes_eq a b ≡ bytes_eq b a
turned_names a b = either_way (bytes_eq a b) (bytes_eq b a)
    (λ h. (bytes_eq-Decides b a).1 (sym ((bytes_eq-Decides a b).0 h))) (λ h. (bytes_eq-Decides a b).1 (sym ((bytes_eq-Decides b a).0 h)))

-- a key of this name
abbrev key_of : List ℕ → Bor (List ℕ)
key_of n = record { ref_ptr = (0, 0); now = n }

abbrev pub Entry : Type 0
Entry = Bor (List ℕ) × ℕ

abbrev pub places_in : List Entry → List (List ℕ × ℕ)
places_in es = map (λ (e : Entry). (e.0.now, e.1)) es

abbrev pub same_name : Bor (List ℕ) → Bor (List ℕ) → Bool
same_name a b = bytes_eq a.now b.now

pub found : (n : List ℕ) (es : List Entry) → lookup (λ (k : Bor (List ℕ)). bytes_eq n k.now) es ≡ place_of (places_in es) n
unfolding place_of
found n [] = refl
found n (e ∷ es) = ap (cond (bytes_eq n e.0.now) (Some e.1)) (found n es)

-- after an insertion, the name has its new position, and other names keep theirs
pub put : (k : Bor (List ℕ)) (place : ℕ) (es more : List Entry) (was : List (List ℕ × ℕ))
    → ((q : Bor (List ℕ)) → lookup (same_name q) more ≡ cond (same_name k q) (Some place) (lookup (same_name q) es)) → places_in es ≡ was
    → (n : List ℕ) → place_of (places_in more) n ≡ option_or (where_at (bytes_eq n k.now) place) (place_of was n)
put k place es more was made view n =
    sym (found n more)
    ∙ put_at (bytes_eq k.now n) (bytes_eq n k.now) place (lookup (same_name (key_of n)) more) (lookup (same_name (key_of n)) es) (place_of was n)
    (made (key_of n)) (turned_names k.now n) (found n es ∙ ap (λ (x : List (List ℕ × ℕ)). place_of x n) view)

-- ---- pairs of names

abbrev pub PairEntry : Type 0
PairEntry = (Bor (List ℕ) × Bor (List ℕ)) × ℕ

abbrev pub pair_places_in : List PairEntry → List ((List ℕ × List ℕ) × ℕ)
pair_places_in es = map (λ (e : PairEntry). ((e.0.0.now, e.0.1.now), e.1)) es

abbrev pub same_pair : Bor (List ℕ) × Bor (List ℕ) → Bor (List ℕ) × Bor (List ℕ) → Bool
same_pair a b = bytes_eq a.0.now b.0.now && bytes_eq a.1.now b.1.now

abbrev pub is_pair : List ℕ → List ℕ → Bor (List ℕ) × Bor (List ℕ) → Bool
is_pair n m k = bytes_eq n k.0.now && bytes_eq m k.1.now

pub pair_found : (n m : List ℕ) (es : List PairEntry) → lookup (is_pair n m) es ≡ place_of_both (pair_places_in es) n m
unfolding place_of_both
pair_found n m [] = refl
pair_found n m (e ∷ es) = ap (cond (is_pair n m e.0) (Some e.1)) (pair_found n m es)

turned_pairs : (a b n m : List ℕ) → (bytes_eq a n && bytes_eq b m) ≡ (bytes_eq n a && bytes_eq m b)
turned_pairs a b n m = ap (λ (x : Bool). x && bytes_eq b m) (turned_names a n) ∙ ap (λ (x : Bool). bytes_eq n a && x) (turned_names b m)

-- after an insertion, the pair has its new position, and other pairs keep theirs
pub pair_put : (k : Bor (List ℕ) × Bor (List ℕ)) (place : ℕ) (es more : List PairEntry) (was : List ((List ℕ × List ℕ) × ℕ))
    → ((q : Bor (List ℕ) × Bor (List ℕ)) → lookup (same_pair q) more ≡ cond (same_pair k q) (Some place) (lookup (same_pair q) es))
    → pair_places_in es ≡ was → (n m : List ℕ)
    → place_of_both (pair_places_in more) n m ≡ option_or (where_at (is_pair n m k) place) (place_of_both was n m)
pair_put k place es more was made view n m =
    let q : Bor (List ℕ) × Bor (List ℕ) = (key_of n, key_of m) in
    sym (pair_found n m more)
    ∙ put_at (same_pair k q) (is_pair n m k) place (lookup (same_pair q) more) (lookup (same_pair q) es) (place_of_both was n m)
    (made q) (turned_pairs k.0.now k.1.now n m) (pair_found n m es ∙ ap (λ (x : List ((List ℕ × List ℕ) × ℕ)). place_of_both x n m) view)

-- ---- numbers

pub number_found : (n : ℕ) (es : List (ℕ × ℕ)) → lookup (λ (k : ℕ). n == k) es ≡ place_of_number es n
unfolding place_of_number
number_found n [] = refl
number_found n (e ∷ es) = ap (cond (n == e.0) (Some e.1)) (number_found n es)

-- after an insertion, the number has its new position, and other numbers keep theirs
pub number_put : (k place : ℕ) (es more was : List (ℕ × ℕ))
    → ((n : ℕ) → lookup (λ (m : ℕ). n == m) more ≡ cond (k == n) (Some place) (lookup (λ (m : ℕ). n == m) es)) → es ≡ was
    → (n : ℕ) → place_of_number more n ≡ option_or (where_at (k == n) place) (place_of_number was n)
number_put k place es more was made view n =
    sym (number_found n more)
    ∙ put_at (k == n) (k == n) place (lookup (λ (m : ℕ). n == m) more) (lookup (λ (m : ℕ). n == m) es) (place_of_number was n)
    (made n) refl (number_found n es ∙ ap (λ (x : List (ℕ × ℕ)). place_of_number x n) view)
