-- Lists of items, with or without a separator. If each item is spelled by the tokens from which it is read, so is a list (`many_gives` and
-- `separated_gives`); if each is read from the tokens that spell it, so is a list (`many_again` and `separated_again`); by induction on the number of
-- remaining tokens, or on the list. A list is read to its end because each item begins with a token that continues the list, and the token after it
-- does not.
use Rattle.std.proofs.Common.{◌≡◌, ℕ, zero, suc, ◌≤◌, Bool, true, false, cond, List, [], ◌∷◌, ◌++◌, length, map, Ok, refl, sym, subst, ◌∙◌, append_assoc, arith}
use Rattle.std.proofs.lemmas.List.{append-nil}
use Rattle.sim_text_tokens.specs.declared.kind.Kind.{Kind}
use Rattle.sim_text_tokens.specs.declared.kind.Kind.TheVariants as k
use Rattle.sim_text_tree.specs.Input.{Input, kind, place, next}
use Rattle.sim_text_grammar.specs.Readers.{Parser, and_then, ◌>>◌, take_token, left, same_kind, many_from, many, separated}
use Rattle.sim_text_tree.specs.Writing.{Writing, Mark, nothing, mark, ◌▸◌, all_of, each_after, separated_by, Fits}
use Rattle.sim_text_tree.proofs.Writings.{◌&◌, split, none, none_read, never_fits, marks, mark_read, less}
use Rattle.sim_text_grammar.proofs.Gives.{Gives, then_, map_, done}
use Rattle.sim_text_grammar.proofs.Tokens.{same_is, is_same, not_same}

-- the items found so far, and more that are spelled here
pub record More {A : Type 0} (p n : ℕ) (W : List A → Writing) (found : List A) (i : Input) (xs : List A) (j : Input) : Type 0 where
  pub more : List A
  pub whole : xs ≡ found ++ more
  pub fits : Fits p n (W more) i j

pub no_more : {A : Type 0} (p n : ℕ) (W : List A → Writing) → W [] ≡ nothing → (found : List A) (i : Input) → More p n W found i found i
no_more p n W nil found i = record { more = []; whole = sym (append-nil found); fits = rw nil none }

pub one_more : {A : Type 0} (p n : ℕ) (w : A → Writing) (W : List A → Writing) → ((a : A) (rest : List A) → W (a ∷ rest) ≡ w a ▸ W rest)
    → (found : List A) (a : A) (i j : Input) → Fits p n (w a) i j → (xs : List A) (m : Input) → More p n W (found ++ a ∷ []) j xs m
    → More p n W found i xs m
one_more p n w W cons found a i j h xs m r = record { more = a ∷ r.more; whole = r.whole ∙ append_assoc found (a ∷ []) r.more; fits = rw cons (h & r.fits) }

pub many_gives : {A : Type 0} (p n : ℕ) (goes_on : Kind → Bool) (item : Parser A) (w : A → Writing) (W : List A → Writing) → W [] ≡ nothing
    → ((a : A) (rest : List A) → W (a ∷ rest) ≡ w a ▸ W rest)
    → ((i : Input) → goes_on (kind i) ≡ true → Gives (λ a j. Fits p n (w a) i j) (item i))
    → (m : ℕ) (found : List A) (i : Input) → Gives (More p n W found i) (many_from goes_on item m found i)
unfolding many_from
many_gives p n go item w W nil cons ok zero found i = done (no_more p n W nil found i)
many_gives {A} p n go item w W nil cons ok (suc m) found i =
    let turn : (b : Bool) → go (kind i) ≡ b → Gives (More p n W found i)
    (cond b (and_then (item i) (λ a. many_from go item m (found ++ a ∷ []))) (Ok (found, i))) = λ b.
    elim b as (λ b. go (kind i) ≡ b → Gives (More p n W found i) (cond b (and_then (item i) (λ a. many_from go item m (found ++ a ∷ [])))
    (Ok (found, i)))) [
      | true ↦ λ e. then_ (ok i e) (λ a j h. map_ (many_gives p n go item w W nil cons ok m (found ++ a ∷ []) j)
          (λ xs q r. one_more p n w W cons found a i j h xs q r))
      | false ↦ λ e. done (no_more p n W nil found i)
    ] in turn (go (kind i)) refl

module _ {A : Type 0} (p n : ℕ) (goes_on : Kind → Bool) (item : Parser A) (w : A → Writing) (W : List A → Writing) (nil : W [] ≡ nothing)
    (cons : (a : A) (rest : List A) → W (a ∷ rest) ≡ w a ▸ W rest) (ends : Kind → Type 0)
    (starts : (a : A) (i j : Input) → Fits p n (w a) i j → goes_on (kind i) ≡ true)
    (leads : (x : Kind) → goes_on x ≡ true → ends x) where
  -- whatever precedes the list ends there
  pub list_follows : (rest : List A) (i j : Input) → Fits p n (W rest) i j → ends (kind j) → ends (kind i)
  list_follows [] i j h e = subst (λ (x : Input). ends (kind x)) (sym (none_read (rw nil at h))) e
  list_follows (a ∷ rest) i j h e = let s = split (rw (cons a rest) at h) in leads (kind i) (starts a i s.mid s.front)

  pub many_again : (longer : (a : A) (i j : Input) → Fits p n (w a) i j → suc (length j) ≤ length i)
      → (again : (a : A) (i j : Input) → Fits p n (w a) i j → ends (kind j) → item i ≡ Ok (a, j))
      → (rest : List A) (m : ℕ) (found : List A) (i j : Input) → Fits p n (W rest) i j → length i ≤ m → ends (kind j) → goes_on (kind j) ≡ false
      → many_from goes_on item m found i ≡ Ok (found ++ rest, j)
  unfolding many_from
  many_again longer again [] zero found i j h len e stop = rw (append-nil found, none_read (rw nil at h)) refl
  many_again longer again [] (suc m) found i j h len e stop =
      let is : i ≡ j = none_read (rw nil at h) in
      rw (is, stop, append-nil found) refl
  many_again longer again (a ∷ rest) zero found i j h len e stop =
      let s = split (rw (cons a rest) at h) in
      let l = longer a i s.mid s.front in
      absurd (omega arith)
  many_again longer again (a ∷ rest) (suc m) found i j h len e stop =
      let s = split (rw (cons a rest) at h) in
      let l = longer a i s.mid s.front in
      rw (
        starts a i s.mid s.front,
        again a i s.mid s.front (list_follows rest s.mid j s.back e),
        many_again longer again rest m (found ++ a ∷ [])
            s.mid j s.back (omega arith) e stop,
        append_assoc found (a ∷ []) rest,
      ) refl

-- ---- with separators

abbrev pub listed : {A : Type 0} → Kind → (A → Writing) → List A → Writing
listed x w rest = each_after x (map w rest)

pub separated_gives : {A : Type 0} (p n : ℕ) (x : Kind) (item : Parser A) (w : A → Writing) → (k.EndOfText ≡ x → ⊥)
    → ((i : Input) → Gives (λ a j. Fits p n (w a) i j) (item i)) → (i : Input)
    → Gives (λ rest j. Fits p n (separated_by x (map w rest)) i j) (separated x item i)
unfolding separated left
separated_gives p n x item w real ok i = then_ (ok i) (λ a j h.
    map_ (many_gives p n (λ y. same_kind y x) (take_token >> item) (λ b. mark x ▸ w b) (listed x w) refl (λ b bs. refl)
    (λ m e. then_ {q = λ b q. Fits p n (mark x ▸ w b) m q} {o = Ok (place m, next m)}
    (done {q = λ u q. Fits p n (mark x) m q} (marks m x (same_is (kind m) x e) real)) (λ u q g. map_ (ok q) (λ b r f. g & f))) (length j) (a ∷ [])
    j) (λ rest m r.
    rw r.whole (h & r.fits)))

module _ {A : Type 0} (p n : ℕ) (x : Kind) (item : Parser A) (w : A → Writing) (ends : Kind → Type 0) (leads : ends x)
    (again : (a : A) (i j : Input) → Fits p n (w a) i j → ends (kind j) → item i ≡ Ok (a, j)) where
  begins_so : (a : A) (i j : Input) → Fits p n (mark x ▸ w a) i j → same_kind (kind i) x ≡ true
  begins_so a i j h = let s = split h in is_same (kind i) x (mark_read i s.mid x s.front).0

  leads_so : (y : Kind) → same_kind y x ≡ true → ends y
  leads_so y e = subst ends (sym (same_is y x e)) leads

  after_again : (a : A) (i j : Input) → Fits p n (mark x ▸ w a) i j → ends (kind j) → and_then (Ok (place i, next i)) (λ u. item) ≡ Ok (a, j)
  after_again a i j h e = let s = split h in rw (mark_read i s.mid x s.front).1 (again a s.mid j s.back e)

  pub separated_again : (rest : List A) (i j : Input) → Fits p n (separated_by x (map w rest)) i j → ends (kind j) → (kind j ≡ x → ⊥)
      → separated x item i ≡ Ok (rest, j)
  unfolding separated left
  separated_again [] i j h e stop = absurd (never_fits i j h)
  separated_again (a ∷ rest) i j h e stop =
      let s = split h in
      rw (
        again a i s.mid s.front (list_follows p n (λ y. same_kind y x) (take_token >> item) (λ b. mark x ▸ w b) (listed x w) refl (λ b bs. refl)
            ends begins_so leads_so rest s.mid j s.back e),
        many_again p n (λ y. same_kind y x) (take_token >> item) (λ b. mark x ▸ w b) (listed x w)
            refl (λ b bs. refl) ends begins_so leads_so (λ b q r g. less (Mark x) (w b) q r g) after_again rest (length s.mid) (a ∷ []) s.mid j s.back
            (omega arith) e (not_same (kind j) x stop),
      ) refl

-- ---- without separators

pub many_all_gives : {A : Type 0} (p n : ℕ) (goes_on : Kind → Bool) (item : Parser A) (w : A → Writing)
    → ((i : Input) → goes_on (kind i) ≡ true → Gives (λ a j. Fits p n (w a) i j) (item i)) → (i : Input)
    → Gives (λ xs j. Fits p n (all_of (map w xs)) i j) (many goes_on item i)
unfolding many left
many_all_gives p n go item w ok i = map_ (many_gives p n go item w (λ xs. all_of (map w xs)) refl (λ a xs. refl) ok (length i) [] i)
    (λ xs j r. rw r.whole r.fits)

pub many_all_again : {A : Type 0} (p n : ℕ) (goes_on : Kind → Bool) (item : Parser A) (w : A → Writing) (ends : Kind → Type 0)
    → ((a : A) (i j : Input) → Fits p n (w a) i j → goes_on (kind i) ≡ true) → ((x : Kind) → goes_on x ≡ true → ends x)
    → ((a : A) (i j : Input) → Fits p n (w a) i j → suc (length j) ≤ length i)
    → ((a : A) (i j : Input) → Fits p n (w a) i j → ends (kind j) → item i ≡ Ok (a, j))
    → (xs : List A) (i j : Input) → Fits p n (all_of (map w xs)) i j → ends (kind j) → goes_on (kind j) ≡ false → many goes_on item i ≡ Ok (xs, j)
unfolding many left
many_all_again p n go item w ends starts leads longer again xs i j h e stop = many_again p n go item w (λ ys. all_of (map w ys)) refl (λ a ys. refl)
    ends starts leads longer again xs (length i) [] i j h (omega arith) e stop

-- the first token of a list, or of what follows an empty one
pub all_begin : {A : Type 0} (p n : ℕ) (w : A → Writing) (P : Kind → Type 0) → ((a : A) (i j : Input) → Fits p n (w a) i j → P (kind i))
    → (xs : List A) (i j : Input) → Fits p n (all_of (map w xs)) i j → P (kind j) → P (kind i)
all_begin p n w P f [] i j h e = subst (λ (x : Input). P (kind x)) (sym (none_read h)) e
all_begin p n w P f (a ∷ xs) i j h e = let s = split h in f a i s.mid s.front
