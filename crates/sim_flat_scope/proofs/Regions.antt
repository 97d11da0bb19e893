-- A region as a map from names, and the declarations in it.
use Rattle.std.proofs.Common.{ℕ, ◌≡◌, List, [], ◌∷◌, ◌++◌, map, Bool, true, false, cond, Option, Some, None, is_some, is_none, length, refl, ap, sym, ◌∙◌, Bor}
use Rattle.std.specs.Str.{bytes_eq}
use Rattle.std.specs.Map.{lookup}
use Rattle.indexmap.specs.IndexMap.{insert_entry}
use Rattle.std.proofs.lemmas.List.{append_assoc, map-append}
use Rattle.sim_flat_scope.specs.declared.scope.Meaning.{Meaning}
use Rattle.sim_flat_scope.specs.Scopes.{Region, found, or_else, with_first}

abbrev pub Entry : Type 0
Entry = Bor (List ℕ) × Meaning

abbrev pub declared_of : List Entry → Region
declared_of es = map (λ (e : Entry). (e.0.now, e.1)) es

pub found-lookup : (n : List ℕ) (es : List Entry) → lookup (λ (k : Bor (List ℕ)). bytes_eq n k.now) es ≡ found (declared_of es) n
unfolding found
found-lookup n [] = refl
found-lookup n (e ∷ es) = ap (cond (bytes_eq n e.0.now) (Some e.1)) (found-lookup n es)

pub in_none : (n : List ℕ) (es : List Entry) → length es ≡ 0 → None ≡ found (declared_of es) n
unfolding found
in_none n [] h = refl
in_none n (e ∷ es) h = cc

pub there : (n : List ℕ) (m : Meaning) (ds : Region) → is_some (found ds n) ≡ true → ds ≡ with_first ds n m
unfolding with_first
there n m ds h = rw h refl

pub absent : (n : List ℕ) (m : Meaning) (ds : Region) → is_some (found ds n) ≡ false → ds ++ (n, m) ∷ [] ≡ with_first ds n m
unfolding with_first
absent n m ds h = rw h refl

abbrev pub same_key : Bor (List ℕ) → Bor (List ℕ) → Bool
same_key x y = bytes_eq x.now y.now

step : (b : Bool) (e : Entry) (m : Meaning) (es more less : List Entry) (o : Option Meaning) → is_some (cond b (Some e.1) o) ≡ false → (is_some o
    ≡ false → more ≡ less) → cond b ((e.0, m) ∷ es) (e ∷ more) ≡ e ∷ less
step true e m es more less o h f = cc
step false e m es more less o h f = ap (λ (x : List Entry). e ∷ x) (f h)

pub entry-new : (k : Bor (List ℕ)) (m : Meaning) (es : List Entry) → is_some (lookup (same_key k) es) ≡ false → insert_entry same_key es k m
    ≡ es ++ (k, m) ∷ []
entry-new k m [] h = refl
entry-new k m (e ∷ es) h = step (bytes_eq k.now e.0.now) e m es _ _ (lookup (same_key k) es) h (entry-new k m es)

pub added : (k : Bor (List ℕ)) (m : Meaning) (es es' : List Entry) → es' ≡ insert_entry same_key es k m → is_some (lookup (same_key k) es) ≡ false
    → declared_of es' ≡ with_first (declared_of es) k.now m
added k m es es' made h =
    ap declared_of (made ∙ entry-new k m es h)
    ∙ (map-append (λ (e : Entry). (e.0.now, e.1)) es ((k, m) ∷ [])
    ∙ absent k.now m (declared_of es) (ap is_some (sym (found-lookup k.now es)) ∙ h))

pub some : {X : Type 0} (o : Option X) → is_some o ≡ true → false ≡ is_none o
some None h = cc
some (Some x) h = refl

pub none : {X : Type 0} (o : Option X) → is_some o ≡ false → true ≡ is_none o
none None h = refl
none (Some x) h = cc

-- ---- a region of two parts

choose : (b : Bool) (x o o' : Option Meaning) (y : Meaning) → o ≡ or_else x o' → cond b (Some y) o ≡ or_else (cond b (Some y) x) o'
choose true x o o' y h = refl
choose false x o o' y h = h

-- the meaning of a name in two parts: the first part takes precedence
pub found_both : (xs ys : Region) (n : List ℕ) → found (xs ++ ys) n ≡ or_else (found xs n) (found ys n)
unfolding found
found_both [] ys n = refl
found_both (x ∷ xs) ys n = choose (bytes_eq n x.0) (found xs n) (found (xs ++ ys) n) (found ys n) x.1 (found_both xs ys n)

or_else_none : (a b : Option Meaning) → is_some a ≡ false → or_else a b ≡ b
or_else_none None b h = refl
or_else_none (Some x) b h = cc

or_else_some : (a b : Option Meaning) → is_some a ≡ true → is_some (or_else a b) ≡ true
or_else_some None b h = cc
or_else_some (Some x) b h = refl

either : (b : Bool) (n : List ℕ) (m : Meaning) (xs ys : Region)
    → xs ++ cond b ys (ys ++ (n, m) ∷ []) ≡ cond b (xs ++ ys) ((xs ++ ys) ++ (n, m) ∷ [])
either true n m xs ys = refl
either false n m xs ys = sym (append_assoc xs ys ((n, m) ∷ []))

-- a name that the first part does not declare is looked up in the second
pub found_later : (xs ys : Region) (n : List ℕ) → is_some (found xs n) ≡ false → found (xs ++ ys) n ≡ found ys n
found_later xs ys n h = found_both xs ys n ∙ or_else_none (found xs n) (found ys n) h

-- a name of the first part is declared in both together
pub there_first : (xs ys : Region) (n : List ℕ) → is_some (found xs n) ≡ true → is_some (found (xs ++ ys) n) ≡ true
there_first xs ys n h = ap is_some (found_both xs ys n) ∙ or_else_some (found xs n) (found ys n) h

-- such a name is not declared again
pub there_both : (n : List ℕ) (m : Meaning) (xs ys : Region) → is_some (found xs n) ≡ true → xs ++ ys ≡ with_first (xs ++ ys) n m
there_both n m xs ys h = there n m (xs ++ ys) (there_first xs ys n h)

-- a name that the first part does not declare is declared in the second
pub with_first_later : (n : List ℕ) (m : Meaning) (xs ys : Region) → is_some (found xs n) ≡ false
    → xs ++ with_first ys n m ≡ with_first (xs ++ ys) n m
unfolding with_first
with_first_later n m xs ys h = rw (found_later xs ys n h) (either (is_some (found ys n)) n m xs ys)

-- a meaning in the first part takes precedence
pub found_first : (xs ys : Region) (n : List ℕ) (m : Meaning) → found xs n ≡ Some m → Some m ≡ found (xs ++ ys) n
found_first xs ys n m h = sym (found_both xs ys n ∙ ap (λ (o : Option Meaning). or_else o (found ys n)) h)

-- without one, the second part is searched
pub found_next : (xs ys : Region) (n : List ℕ) → found xs n ≡ None → found ys n ≡ found (xs ++ ys) n
found_next xs ys n h = sym (found_both xs ys n ∙ ap (λ (o : Option Meaning). or_else o (found ys n)) h)
