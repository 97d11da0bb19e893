-- The known names of architectures: as a set, and in a loop over architectures.
use Rattle.std.proofs.Common.{◌≡◌, ℕ, ◌+◌, ◌<◌, ◌&&◌, ◌||◌, List, [], ◌∷◌, ◌++◌, length, drop, get_or}
use Rattle.std.proofs.Common.{map, Bool, true, false, cond, not, Option, Bor}
use Rattle.std.proofs.Common.{refl, ap, sym, ◌∙◌}
use Rattle.std.specs.List.{list_any}
use Rattle.std.specs.Str.{bytes_eq}
use Rattle.std.proofs.lemmas.List.{map-append}
use Rattle.indexmap.specs.IndexSet.{insert_key}
use Rattle.sim_text_tree.specs.declared.unit.Architecture.{Architecture}
use Rattle.sim_flat_scope.specs.declared.fault.Fault.{Fault}
use Rattle.sim_flat_scope.specs.Faults.{earliest}
use Rattle.sim_flat_scope.proofs.Faults.{of_both}
use Rattle.sim_flat_instances.specs.Libraries.{Library, bodies_at}
use Rattle.sim_flat_check.specs.BodyNames.{BodyNames, is_known, with_name}
use Rattle.sim_flat_check.specs.Architectures.{name_faults, names_faults}
use Rattle.sim_flat_check.proofs.UnitTurns.{opened}

-- ---- a set of pairs

abbrev pub Pair : Type 0
Pair = Bor (List ℕ) × Bor (List ℕ)

abbrev pub names_in : List Pair → BodyNames
names_in ks = map (λ (k : Pair). (k.0.now, k.1.now)) ks

abbrev pub same_pair : Pair → Pair → Bool
same_pair a b = bytes_eq a.0.now b.0.now && bytes_eq a.1.now b.1.now

-- a pair is in the set if and only if its name is known
pub known_in : (k : Pair) (ks : List Pair) → list_any (same_pair k) ks ≡ is_known (names_in ks) k.0.now k.1.now
unfolding is_known
known_in k [] = refl
known_in k (x ∷ ks) = ap (λ (b : Bool). same_pair k x || b) (known_in k ks)

added : (b : Bool) (k : Pair) (ks : List Pair) →
    names_in (cond b ks (ks ++ k ∷ [])) ≡ cond b (names_in ks) (names_in ks ++ (k.0.now, k.1.now) ∷ [])
added true k ks = refl
added false k ks = map-append (λ (x : Pair). (x.0.now, x.1.now)) ks (k ∷ [])

-- the names of a set after an insertion
pub inserted : (k : Pair) (ks more : List Pair) (was : BodyNames) → more ≡ insert_key same_pair ks k → names_in ks ≡ was
    → names_in more ≡ with_name was k.0.now k.1.now
unfolding with_name
inserted k ks more was made view =
    ap names_in made
    ∙ (added (list_any (same_pair k) ks) k ks
    ∙ (ap (λ (b : Bool). cond b (names_in ks) (names_in ks ++ (k.0.now, k.1.now) ∷ [])) (known_in k ks)
    ∙ ap (λ (ns : BodyNames). cond (is_known ns k.0.now k.1.now) ns (ns ++ (k.0.now, k.1.now) ∷ [])) view))

-- whether the name was new
pub is_new : (k : Pair) (ks : List Pair) (was : BodyNames) → names_in ks ≡ was
    → not (list_any (same_pair k) ks) ≡ not (is_known was k.0.now k.1.now)
is_new k ks was view = ap not (known_in k ks ∙ ap (λ (ns : BodyNames). is_known ns k.0.now k.1.now) view)

-- ---- a loop over architectures

-- one iteration
pub names_step : (l : Library) (known more : BodyNames) (first after all : Option Fault) (xs : List (Bor Architecture)) (i : ℕ) (a : Bor Architecture)
    → i < length xs → a ≡ get_or xs i a → earliest first (names_faults l known (bodies_at (drop i xs))) ≡ all
    → after ≡ earliest first (name_faults l known a.now) → more ≡ with_name known a.now.entity.text a.now.name.text
    → earliest after (names_faults l more (bodies_at (drop (i + 1) xs))) ≡ all
unfolding names_faults bodies_at
names_step l known more first after all xs i a below is so_far noted made = rw (noted, made)
    (sym (of_both first (name_faults l known a.now)
    (names_faults l (with_name known a.now.entity.text a.now.name.text) (bodies_at (drop (i + 1) xs))))
    ∙ (ap (λ (rest : List (Bor Architecture)). earliest first (names_faults l known (bodies_at rest))) (opened xs i a below is) ∙ so_far))
