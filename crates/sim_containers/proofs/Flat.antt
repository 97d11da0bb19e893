-- Laws of flat lists.
use Rattle.std.proofs.Common.{ℕ, zero, suc, ◌+◌, ◌-◌, ◌<◌, ◌≤◌, ◌≡◌, ◌++◌, List, [], ◌∷◌, length, get_or, set, take, drop, map, add-one, refl, ap, sym, ◌∙◌}
use Rattle.std.proofs.Common.{subst, arith, append_assoc, length-append, length-drop}
use Rattle.std.specs.Prelude.{slice_range}
use Rattle.std.proofs.lemmas.List.{append-nil, map-append, length-take, take_at, drop_at, get_or-set_same}
use Rattle.sim_containers.specs.RowArray.{joined, starts_from, rows, IsFlat}

pub length-starts_from : {A : Type 0} (n : ℕ) (xss : List (List A)) → length (starts_from n xss) ≡ length xss + 1
length-starts_from n [] = omega arith
length-starts_from n (xs ∷ xss) = omega (arith, length-starts_from (n + length xs) xss)

-- the start of the list p
pub start-at : {A : Type 0} (n : ℕ) (xss : List (List A)) (p d : ℕ) → p ≤ length xss → get_or (starts_from n xss) p d ≡ n + length (joined (take p xss))
start-at n [] zero d h = omega arith
start-at n [] (suc p) d h = absurd (omega arith)
start-at n (xs ∷ xss) zero d h = omega arith
start-at n (xs ∷ xss) (suc p) d h =
    omega (arith, start-at (n + length xs) xss p d (omega arith), length-append xs (joined (take p xss)))

-- and its end
pub end-at : {A : Type 0} (n : ℕ) (xss : List (List A)) (p d : ℕ) → p < length xss → get_or (starts_from n xss) (suc p) d ≡ n + length
    (joined (take p xss)) + length (get_or xss p [])
end-at n [] p d h = absurd (omega arith)
end-at n (xs ∷ xss) zero d h = omega (arith, start-at (n + length xs) xss 0 d (omega arith))
end-at n (xs ∷ xss) (suc p) d h =
    omega (arith, end-at (n + length xs) xss p d (omega arith), length-append xs (joined (take p xss)))

-- a flat list, cut before and after the list p
pub cut : {A : Type 0} (xss : List (List A)) (p : ℕ) → p < length xss → joined xss ≡ joined (take p xss) ++ (get_or xss p [] ++ joined (drop (suc p) xss))
cut [] p h = absurd (omega arith)
cut (xs ∷ xss) zero h = refl
cut (xs ∷ xss) (suc p) h = ap (λ w. xs ++ w) (cut xss p (omega arith)) ∙ sym (append_assoc xs _ _)

pub cut-set : {A : Type 0} (xss : List (List A)) (p : ℕ) (row : List A) → p < length xss → joined (set xss p row) ≡ joined (take p xss) ++
    (row ++ joined (drop (suc p) xss))
cut-set [] p row h = absurd (omega arith)
cut-set (xs ∷ xss) zero row h = refl
cut-set (xs ∷ xss) (suc p) row h = ap (λ w. xs ++ w) (cut-set xss p row (omega arith)) ∙ sym (append_assoc xs _ _)

pub within : {A : Type 0} (xss : List (List A)) (p : ℕ) → p < length xss → length (joined (take p xss)) + length (get_or xss p []) ≤ length (joined xss)
within xss p h =
    omega (
      arith,
      ap length (cut xss p h),
      length-append (joined (take p xss)) (get_or xss p [] ++ joined (drop (suc p) xss)),
      length-append
          (get_or xss p []) (joined (drop (suc p) xss)),
    )

-- the piece at the position of the list p is that list
pub piece : {A : Type 0} (xss : List (List A)) (p a b : ℕ) → p < length xss → a ≡ length (joined (take p xss)) → b ≡ a + length (get_or xss p [])
    → slice_range (joined xss) a b ≡ get_or xss p []
piece xss p a b h e f =
    let k : b - a ≡ length (get_or xss p []) = omega arith in
    rw (k, cut xss p h, drop_at (joined (take p xss)) (get_or xss p [] ++ joined (drop (suc p) xss)) a (sym e))
    (take_at (get_or xss p []) (joined (drop (suc p) xss)) (length (get_or xss p [])) refl)

rows-more : {A : Type 0} (a n : ℕ) (xss : List (List A)) (flat : List A) → rows (a ∷ starts_from n xss) flat ≡ slice_range flat a n ∷ rows
    (starts_from n xss) flat
rows-more a n [] flat = refl
rows-more a n (xs ∷ xss) flat = refl

-- lists that are laid out flat are read back
rows-read : {A : Type 0} (before : List A) (n : ℕ) (xss : List (List A)) → n ≡ length before → rows (starts_from n xss) (before ++ joined xss) ≡ xss
rows-read before n [] e = refl
rows-read before n (xs ∷ xss) e =
    let k : (n + length xs) - n ≡ length xs = omega arith in
    let here : slice_range (before ++ (xs ++ joined xss)) n (n + length xs) ≡ xs =
    rw (k, drop_at before (xs ++ joined xss) n (sym e)) (take_at xs (joined xss) (length xs) refl) in
    let rest : rows (starts_from (n + length xs) xss) (before ++ (xs ++ joined xss)) ≡ xss =
    ap (rows (starts_from (n + length xs) xss)) (sym (append_assoc before xs (joined xss))) ∙ rows-read (before ++ xs) (n + length xs) xss
    (omega (arith, length-append before xs)) in
    rows-more n (n + length xs) xss _ ∙ (ap (λ w. w ∷ rows (starts_from (n + length xs) xss) (before ++ (xs ++ joined xss))) here ∙ ap (λ w. xs ∷ w) rest)

pub rows-joined : {A : Type 0} (xss : List (List A)) → rows (starts_from 0 xss) (joined xss) ≡ xss
rows-joined xss = rows-read [] 0 xss refl

-- so the view of a flat list is that list
pub rows-flat : {A : Type 0} {xss : List (List A)} {starts : List ℕ} {flat : List A} → IsFlat xss starts flat → rows starts flat ≡ xss
rows-flat {xss = xss} i = rw (i.starting, i.holding) (rows-joined xss)

pub viewed_again : {A : Type 0} {xss : List (List A)} {starts : List ℕ} {flat : List A} → IsFlat xss starts flat → IsFlat (rows starts flat) starts flat
viewed_again {starts = starts} {flat = flat} i = subst (λ w. IsFlat w starts flat) (sym (rows-flat i)) i

-- another list of the same length, in place of the list p
pub starts-set : {A : Type 0} (n : ℕ) (xss : List (List A)) (p : ℕ) (row : List A) → length row ≡ length (get_or xss p []) → starts_from n (set xss p row)
    ≡ starts_from n xss
starts-set n [] p row e = refl
starts-set n (xs ∷ xss) zero row e = ap (λ w. n ∷ starts_from (n + w) xss) e
starts-set n (xs ∷ xss) (suc p) row e = ap (λ w. n ∷ w) (starts-set (n + length xs) xss p row e)

pub joined-set : {A : Type 0} (xss : List (List A)) (p a b : ℕ) (row : List A) → p < length xss → a ≡ length (joined (take p xss)) → length row ≡ length
    (get_or xss p []) → b ≡ a + length row
    → take a (joined xss) ++ (row ++ drop b (joined xss)) ≡ joined (set xss p row)
joined-set xss p a b row h e f g =
    let front : take a (joined xss) ≡ joined (take p xss) = rw (cut xss p h) (take_at (joined (take p xss)) (get_or xss p [] ++ joined (drop (suc p) xss)) a
    (sym e)) in
    let back : drop b (joined xss) ≡ joined (drop (suc p) xss) =
    ap (drop b) (cut xss p h ∙ sym (append_assoc (joined (take p xss)) (get_or xss p []) (joined (drop (suc p) xss))))
    ∙ drop_at (joined (take p xss) ++ get_or xss p []) (joined (drop (suc p) xss)) b (omega (arith, length-append (joined (take p xss)) (get_or xss p []))) in
    rw (front, back) (sym (cut-set xss p row h))

pub replaced : {A : Type 0} {xss : List (List A)} {starts : List ℕ} {flat : List A} → IsFlat xss starts flat → (p a b : ℕ) (row : List A) → p < length xss
    → a ≡ get_or starts p 0 → length row ≡ length (get_or xss p []) → b ≡ a + length row
    → IsFlat (set xss p row) starts (take a flat ++ (row ++ drop b flat))
replaced {xss = xss} i p a b row h e f g =
    let at : a ≡ length (joined (take p xss)) = e ∙ (ap (λ w. get_or w p 0) i.starting ∙ (start-at 0 xss p 0 (omega arith) ∙ omega arith)) in
    record {
      starting = i.starting ∙ sym (starts-set 0 xss p row f);
      holding = rw i.holding (joined-set xss p a b row h at f g);
    }

-- what reading the list p needs
pub record Places {A : Type 0} (xss : List (List A)) (starts : List ℕ) (flat : List A) (p a b : ℕ) : Type 0 where
  pub order : a ≤ b
  pub within : b ≤ length flat
  pub long : b ≡ a + length (get_or xss p [])
  pub holds : slice_range flat a b ≡ get_or xss p []

pub count : {A : Type 0} {xss : List (List A)} {starts : List ℕ} {flat : List A} → IsFlat xss starts flat → length starts ≡ length xss + 1
count {xss = xss} i = ap length i.starting ∙ length-starts_from 0 xss

pub places : {A : Type 0} {xss : List (List A)} {starts : List ℕ} {flat : List A} → IsFlat xss starts flat → (p a b : ℕ) → p < length xss → a
    ≡ get_or starts p 0 → b ≡ get_or starts (p + 1) 0 → Places xss starts flat p a b
places {xss = xss} {starts = starts} {flat = flat} i p a b h ea eb =
    let at : a ≡ length (joined (take p xss)) = ea ∙ (ap (λ w. get_or w p 0) i.starting ∙ (start-at 0 xss p 0 (omega arith) ∙ omega arith)) in
    let eb' : b ≡ get_or starts (suc p) 0 = eb ∙ ap (λ w. get_or starts w 0) (add-one p) in
    let to : b ≡ a + length (get_or xss p []) =
    eb' ∙ (ap (λ w. get_or w (suc p) 0) i.starting ∙ (end-at 0 xss p 0 h ∙ omega (arith, at))) in
    record {
      order = omega arith;
      within = omega (arith, within xss p h, ap length i.holding);
      long = to;
      holds = ap (λ w. slice_range w a b) i.holding ∙ piece xss p a b h at to;
    }

-- the same, for what is read in the code
pub places_read : {A : Type 0} {xss yss : List (List A)} {starts : List ℕ} {flat : List A} → IsFlat xss starts flat → xss ≡ yss → (p a b : ℕ)
    (starts₂ : List ℕ) (flat' : List A) → p < length yss
    → starts₂ ≡ starts → flat' ≡ flat → a ≡ get_or starts₂ p 0 → b ≡ get_or starts₂ (p + 1) 0 → Places yss starts flat' p a b
places_read {starts = starts} {flat = flat} i e p a b starts₂ flat' h ef el ea eb =
    let j = subst (λ w. IsFlat w starts flat) e i in
    rw el (places j p a b h (ea ∙ ap (λ w. get_or w p 0) ef) (eb ∙ ap (λ w. get_or w (p + 1) 0) ef))

-- the start of the list p, or the end of the last one
pub start-read : {A : Type 0} {xss yss : List (List A)} {starts : List ℕ} {flat : List A} → IsFlat xss starts flat → xss ≡ yss → (p a : ℕ)
    (starts₂ : List ℕ) → p ≤ length yss → starts₂ ≡ starts → a ≡ get_or starts₂ p 0 → a ≡ length (joined (take p yss))
start-read {yss = yss} {starts = starts} {flat = flat} i e p a starts₂ h ef ea =
    let j = subst (λ w. IsFlat w starts flat) e i in
    ea ∙ (ap (λ w. get_or w p 0) (ef ∙ j.starting) ∙ (start-at 0 yss p 0 h ∙ omega arith))

-- one list more
pub joined-push : {A : Type 0} (xss : List (List A)) (row : List A) → joined (xss ++ row ∷ []) ≡ joined xss ++ row
joined-push [] row = append-nil row
joined-push (xs ∷ xss) row = ap (λ w. xs ++ w) (joined-push xss row) ∙ sym (append_assoc xs (joined xss) row)

pub starts-push : {A : Type 0} (n : ℕ) (xss : List (List A)) (row : List A) (m : ℕ) → m ≡ n + (length (joined xss) + length row) → starts_from n
    (xss ++ row ∷ []) ≡ starts_from n xss ++ m ∷ []
starts-push n [] row m e = let k : n + length row ≡ m = omega arith in rw k refl
starts-push n (xs ∷ xss) row m e = ap (λ w. n ∷ w) (starts-push (n + length xs) xss row m (omega (arith, length-append xs (joined xss))))

pub pushed_row : {A : Type 0} {xss : List (List A)} {starts : List ℕ} {flat : List A} → IsFlat xss starts flat → (row : List A) (m : ℕ) → m
    ≡ length flat + length row → IsFlat (xss ++ row ∷ []) (starts ++ m ∷ []) (flat ++ row)
pushed_row {xss = xss} i row m e = record {
  starting = ap (λ w. w ++ m ∷ []) i.starting ∙ sym (starts-push 0 xss row m (omega (arith, ap length i.holding)));
  holding = ap (λ w. w ++ row) i.holding ∙ sym (joined-push xss row);
}

-- what the code leaves after it wrote to a part of a vector's slice
pub written_back : {A : Type 0} (now old : List A) (n : ℕ) → length now ≡ n → take n (now ++ drop (length now) old) ≡ now
written_back now old n e = take_at now (drop (length now) old) n e

pub put_back : {A : Type 0} {xss yss : List (List A)} {starts : List ℕ} {flat : List A} → IsFlat xss starts flat → xss ≡ yss → (p a n : ℕ) (row now : List A)
    (starts₂ : List ℕ) (flat' : List A) → p < length yss
    → starts₂ ≡ starts → flat' ≡ flat → a ≡ get_or starts₂ p 0 → length row ≡ length (get_or yss p [])
    → now ≡ take a flat' ++ row ++ drop (a + length row) flat' → length now ≡ n
    → IsFlat (set yss p row) starts (take n (now ++ drop (length now) flat))
put_back {starts = starts} {flat = flat} i e p a n row now starts₂ flat' h ef el ea er en el' =
    let j = subst (λ w. IsFlat w starts flat) e i in
    let k : now ≡ take a flat ++ (row ++ drop (a + length row) flat) =
    en ∙ (append_assoc (take a flat') row (drop (a + length row) flat') ∙ ap (λ w. take a w ++ (row ++ drop (a + length row) w)) el) in
    rw (written_back now flat n el', k) (replaced j p a (a + length row) row h (ea ∙ ap (λ w. get_or w p 0) ef) er refl)

pub pushed_back : {A : Type 0} {xss yss : List (List A)} {starts : List ℕ} {flat : List A} → IsFlat xss starts flat → xss ≡ yss → (row flat' : List A)
    (starts₁ starts₂ : List ℕ) (m n : ℕ)
    → flat' ≡ flat ++ row → m ≡ n + length row → n ≡ length flat → starts₁ ≡ starts → starts₂ ≡ starts₁ ++ m ∷ [] → IsFlat (yss ++ row ∷ []) starts₂ flat'
pushed_back {starts = starts} {flat = flat} i e row flat' starts₁ starts₂ m n el em en e₁ ef =
    let j = subst (λ w. IsFlat w starts flat) e i in
    rw (ef, e₁, el) (pushed_row j row m (omega arith))

-- each element changed, in place
pub joined-map : {A B : Type 0} (f : A → B) (xss : List (List A)) → joined (map (map f) xss) ≡ map f (joined xss)
joined-map f [] = refl
joined-map f (xs ∷ xss) = ap (λ w. map f xs ++ w) (joined-map f xss) ∙ sym (map-append f xs (joined xss))

-- a part of the flat list holds another list of the same length, wherever that came from
pub part_back : {A : Type 0} {xss yss : List (List A)} {starts : List ℕ} {flat : List A} → IsFlat xss starts flat → xss ≡ yss
    → (p a b n : ℕ) (row now : List A) (starts₂ : List ℕ) (flat' : List A) → p < length yss → starts₂ ≡ starts → flat' ≡ flat → a ≡ get_or starts₂ p 0 → b
    ≡ get_or starts₂ (p + 1) 0
    → length row ≡ length (get_or yss p []) → now ≡ take a flat' ++ row ++ drop b flat' → length now ≡ n
    → IsFlat (set yss p row) starts (take n (now ++ drop (length now) flat))
part_back i e p a b n row now starts₂ flat' h ef el ea eb l en k =
    let q = places_read i e p a b starts₂ flat' h ef el ea eb in
    let d : b ≡ a + length row = omega (arith, q.long, l) in
    put_back i e p a n row now starts₂ flat' h ef el ea l (en ∙ ap (λ w. take a flat' ++ row ++ drop w flat') d) k

-- the range of a list in a flat list of the same length holds that list, if nothing else changed
pub lent_back : {A : Type 0} {xss yss : List (List A)} {starts : List ℕ} {flat : List A} → IsFlat xss starts flat → xss ≡ yss
    → (p a b n : ℕ) (now : List A) (starts₂ : List ℕ) (flat' : List A) → p < length yss → starts₂ ≡ starts → flat' ≡ flat → a ≡ get_or starts₂ p 0 → b
    ≡ get_or starts₂ (p + 1) 0
    → now ≡ take a flat' ++ slice_range now a b ++ drop b flat' → length now ≡ length flat' → n ≡ length flat
    → IsFlat (set yss p (slice_range now a b)) starts (take n (now ++ drop (length now) flat))
lent_back i e p a b n now starts₂ flat' h ef el ea eb en same k =
    let q = places_read i e p a b starts₂ flat' h ef el ea eb in
    let long : length (slice_range now a b) ≡ b - a = omega (arith, q.order, q.within, same, length-take (b - a) (drop a now), length-drop a now) in
    part_back i e p a b n (slice_range now a b) now starts₂ flat' h ef el ea eb (omega (arith, q.long, long)) en (omega (arith, same, ap length el, k))

-- the list that is put at an index is there
pub put_there : {A : Type 0} {starts : List ℕ} {flat : List A} (yss : List (List A)) (p : ℕ) (row : List A) → IsFlat (set yss p row) starts flat
    → p < length yss
    → get_or (rows starts flat) p [] ≡ row
put_there yss p row i h = ap (λ w. get_or w p []) (rows-flat i) ∙ get_or-set_same yss p row [] h

-- so the lists are unchanged but for that one
pub put_alone : {A : Type 0} {starts : List ℕ} {flat : List A} (yss : List (List A)) (p : ℕ) (row : List A) → IsFlat (set yss p row) starts flat
    → p < length yss
    → rows starts flat ≡ set yss p (get_or (rows starts flat) p [])
put_alone yss p row i h = rows-flat i ∙ ap (set yss p) (sym (put_there yss p row i h))
