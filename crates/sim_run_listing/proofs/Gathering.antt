-- Pieces of text that are buffered, and written one after another.
use Rattle.std.proofs.Common.{◌≡◌, ℕ, zero, suc, ◌+◌, ◌-◌, ◌<◌, ◌≤◌, List, [], ◌∷◌, ◌++◌, length, take, drop, refl, sym, ap, ◌∙◌, arith, subst}
use Rattle.std.proofs.Common.{get_or, append_assoc, append-nil, length-append, length-drop, take-append-drop}
use Rattle.std.specs.Prelude.{Option, None, Some, Result, Ok, Err, OnErr, flat_map}
use Rattle.std.specs.Io.KnownBytes.{Appends, Keeps}
use Rattle.std.proofs.KnownBytes.{Appends-nil, Appends-trans}
use Rattle.std.proofs.lemmas.List.{take-append-le}
use Rattle.sim_run_listing.specs.Writing.{AppendsPart, Gathers}

take-longer : (xs ys : List ℕ) (n : ℕ) → take (length xs + n) (xs ++ ys) ≡ xs ++ take n ys
take-longer [] ys n = ap (λ (k : ℕ). take k ys) (let e : 0 + n ≡ n = omega arith in e)
take-longer (x ∷ xs) ys n = ap (λ (k : ℕ). take k (x ∷ xs ++ ys)) (let e : length (x ∷ xs) + n ≡ suc (length xs + n) = omega arith in e) ∙ ap
    (λ (l : List ℕ). x ∷ l) (take-longer xs ys n)

-- what was written whole, and then a part
pub then_part : (a b c : Option (List ℕ)) (xs ys : List ℕ) → Appends a b xs → AppendsPart b c ys → AppendsPart a c (xs ++ ys)
then_part None b c xs ys p q = tt
then_part (Some us) None c xs ys p q = absurd p
then_part (Some us) (Some bs) None xs ys p q = absurd q
then_part (Some us) (Some bs) (Some cs) xs ys p q = (
  length xs + q.0,
  omega (arith, length-append xs ys, q.1),
  q.2 ∙
      (ap (λ (l : List ℕ). l ++ take q.0 ys) p ∙ (append_assoc us xs (take q.0 ys) ∙ ap (λ (l : List ℕ). us ++ l) (sym (take-longer xs ys q.0)))),
)

-- a part of a text is a part of a longer one
pub part_of_more : (a b : Option (List ℕ)) (xs ys : List ℕ) → AppendsPart a b xs → AppendsPart a b (xs ++ ys)
part_of_more None b xs ys p = tt
part_of_more (Some us) None xs ys p = absurd p
part_of_more (Some us) (Some bs) xs ys p = (
  p.0,
  omega (arith, length-append xs ys, p.1),
  p.2 ∙ ap (λ (l : List ℕ). us ++ l)
      (sym (take-append-le p.0 xs ys (omega (arith, p.1)))),
)

-- ---- one call of write after another

take_over : (k : ℕ) (xs : List ℕ) → length xs ≤ k → take k xs ≡ xs
take_over zero [] h = refl
take_over zero (x ∷ xs) h = absurd (omega arith)
take_over (suc k) [] h = refl
take_over (suc k) (x ∷ xs) h = ap (λ (l : List ℕ). x ∷ l) (take_over k xs (omega arith))

-- one more write
pub goes_on : (a b c : Option (List ℕ)) (bytes rest : List ℕ) (n : ℕ) → ((done : List ℕ) × (done ++ rest ≡ bytes) × Appends a b done)
    → Appends b c (take n rest)
    → (done : List ℕ) × (done ++ take (length rest - n) (drop n rest) ≡ bytes) × Appends a c done
goes_on a b c bytes rest n p q =
    let whole : take (length rest - n) (drop n rest) ≡ drop n rest = take_over (length rest - n) (drop n rest) (omega (arith, length-drop n rest)) in (
      p.0 ++ take n rest,
      ap (λ (l : List ℕ). (p.0 ++ take n rest) ++ l) whole ∙ (append_assoc p.0 (take n rest) (drop n rest) ∙
          (ap (λ (l : List ℕ). p.0 ++ l) (take-append-drop n rest) ∙ p.1)),
      Appends-trans a b c p.0 (take n rest) p.2 q,
    )

ends_short : (us : List ℕ) (ys done rest bytes : List ℕ) → done ++ rest ≡ bytes → 0 < length rest → ys ≡ us ++ done
    → (n : ℕ) × (n < length bytes) × (ys ≡ us ++ take n bytes)
ends_short us ys done rest bytes e some is =
    let len : length bytes ≡ length done + length rest = ap length (sym e) ∙ length-append done rest in
    let cut : take (length done) bytes ≡ done = ap (take (length done)) (sym e) ∙
    (take-append-le (length done) done rest (omega arith) ∙ take_over (length done) done (omega arith)) in
    (length done, omega arith, is ∙ ap (λ (l : List ℕ). us ++ l) (sym cut))

-- the last write failed
pub fails : (a b c : Option (List ℕ)) (bytes rest : List ℕ) → ((done : List ℕ) × (done ++ rest ≡ bytes) × Appends a b done) → 0 < length rest
    → Keeps b c → AppendsPart a c bytes
fails None b c bytes rest p some k = tt
fails (Some us) None c bytes rest p some k = absurd p.2
fails (Some us) (Some vs) None bytes rest p some k = absurd k
fails (Some us) (Some vs) (Some ws) bytes rest p some k = ends_short us ws p.0 rest bytes p.1 some (k ∙ p.2)

-- the last write wrote nothing
pub takes_none : (a b c : Option (List ℕ)) (bytes rest : List ℕ) → ((done : List ℕ) × (done ++ rest ≡ bytes) × Appends a b done) → 0 < length rest
    → Appends b c (take 0 rest) → AppendsPart a c bytes
takes_none None b c bytes rest p some k = tt
takes_none (Some us) None c bytes rest p some k = absurd p.2
takes_none (Some us) (Some vs) None bytes rest p some k = absurd k
takes_none (Some us) (Some vs) (Some ws) bytes rest p some k = ends_short us ws p.0 rest bytes p.1 some (k ∙ (append-nil vs ∙ p.2))

-- ---- what is buffered

pub gathers_nothing : (a : Option (List ℕ)) (held : List ℕ) → Gathers a held a held []
gathers_nothing a held = record { written = []; appended = Appends-nil a; kept = append-nil held }

pub gathers_then : {a b c : Option (List ℕ)} {h m k xs ys : List ℕ} → Gathers a h b m xs → Gathers b m c k ys → Gathers a h c k (xs ++ ys)
gathers_then {a} {b} {c} {h} {m} {k} {xs} {ys} p q = record {
  written = p.written ++ q.written;
  appended = Appends-trans a b c p.written q.written p.appended q.appended;
  kept = sym (append_assoc h xs ys) ∙ (ap (λ (l : List ℕ). l ++ ys) p.kept ∙
      (append_assoc p.written m ys ∙ (ap (λ (l : List ℕ). p.written ++ l) q.kept ∙ sym (append_assoc p.written q.written k))));
}

pub stops_then : (a b c : Option (List ℕ)) (h m xs ys : List ℕ) → Gathers a h b m xs → AppendsPart b c (m ++ ys) → AppendsPart a c (h ++ (xs ++ ys))
stops_then a b c h m xs ys p q =
    let e : p.written ++ (m ++ ys) ≡ h ++ (xs ++ ys) =
    sym (append_assoc p.written m ys) ∙ (ap (λ (l : List ℕ). l ++ ys) (sym p.kept) ∙ append_assoc h xs ys) in
    subst (λ (l : List ℕ). AppendsPart a c l) e (then_part a b c p.written (m ++ ys) p.appended q)

pub stops_within : (a c : Option (List ℕ)) (h xs ys : List ℕ) → AppendsPart a c (h ++ xs) → AppendsPart a c (h ++ (xs ++ ys))
stops_within a c h xs ys p = subst (λ (l : List ℕ). AppendsPart a c l) (append_assoc h xs ys) (part_of_more a c (h ++ xs) ys p)

-- more is buffered, and nothing written
pub gathers_more : (a b : Option (List ℕ)) (h m xs more : List ℕ) → Gathers a h b m xs → Gathers a h b (m ++ more) (xs ++ more)
gathers_more a b h m xs more p = record {
  written = p.written;
  appended = p.appended;
  kept = sym (append_assoc h xs more) ∙ (ap (λ (l : List ℕ). l ++ more) p.kept ∙ append_assoc p.written m more);
}

-- the bytes are buffered, and nothing written
pub gathers_held : (a : Option (List ℕ)) (h xs left : List ℕ) → left ≡ h ++ xs → Gathers a h a left xs
gathers_held a h xs left e = record { written = []; appended = Appends-nil a; kept = sym e }

-- one more prefix of the bytes is buffered
pub put_goes_on : (a b c : Option (List ℕ)) (h m k bytes rest front back new : List ℕ) → ((done : List ℕ) × (done ++ rest ≡ bytes) × Gathers a h b m done)
    → Gathers b m c k [] → new ≡ k ++ front → front ++ back ≡ rest → (done : List ℕ) × (done ++ back ≡ bytes) × Gathers a h c new done
put_goes_on a b c h m k bytes rest front back new p q is cut =
    let moved : Gathers a h c k p.0 = subst (λ (l : List ℕ). Gathers a h c k l) (append-nil p.0) (gathers_then p.2 q) in (
      p.0 ++ front,
      append_assoc p.0 front back ∙ (ap (λ (l : List ℕ). p.0 ++ l) cut ∙ p.1),
      subst (λ (l : List ℕ). Gathers a h c l (p.0 ++ front)) (sym is) (gathers_more a c h k p.0 front moved),
    )

-- writing the buffered bytes fails
pub put_stops : (a b c : Option (List ℕ)) (h m bytes rest : List ℕ) → ((done : List ℕ) × (done ++ rest ≡ bytes) × Gathers a h b m done)
    → AppendsPart b c m → AppendsPart a c (h ++ bytes)
put_stops a b c h m bytes rest p q =
    subst (λ (l : List ℕ). AppendsPart a c (h ++ l)) p.1 (stops_then a b c h m p.0 rest p.2 (part_of_more b c m rest q))

-- what was buffered was all written
pub all_out : (a b c : Option (List ℕ)) (h m xs : List ℕ) → Gathers a h b m xs → Appends b c m → Appends a c (h ++ xs)
all_out a b c h m xs p q = subst (λ (l : List ℕ). Appends a c l) (sym p.kept) (Appends-trans a b c p.written m p.appended q)

-- writing what was buffered fails
pub all_stops : (a b c : Option (List ℕ)) (h m xs : List ℕ) → Gathers a h b m xs → AppendsPart b c m → AppendsPart a c (h ++ xs)
all_stops a b c h m xs p q = subst (λ (l : List ℕ). AppendsPart a c l) (sym p.kept) (then_part a b c p.written m p.appended q)

-- what was buffered from nothing, and then more, was all written
pub ends_then : (a b c : Option (List ℕ)) (h m xs ys : List ℕ) → h ≡ [] → Gathers a h b m xs → Appends b c (m ++ ys) → Appends a c (xs ++ ys)
ends_then a b c h m xs ys e p q =
    let whole : p.written ++ (m ++ ys) ≡ xs ++ ys =
    sym (append_assoc p.written m ys) ∙ ap (λ (l : List ℕ). l ++ ys) (sym p.kept ∙ ap (λ (l : List ℕ). l ++ xs) e) in
    subst (λ (l : List ℕ). Appends a c l) whole (Appends-trans a b c p.written (m ++ ys) p.appended q)

-- writing what was buffered from nothing, and then more, fails
pub stops_at_end : (a b c : Option (List ℕ)) (h m xs ys : List ℕ) → h ≡ [] → Gathers a h b m xs → AppendsPart b c (m ++ ys) → AppendsPart a c (xs ++ ys)
stops_at_end a b c h m xs ys e p q =
    subst (λ (l : List ℕ). AppendsPart a c (l ++ (xs ++ ys))) e (stops_then a b c h m xs ys p q)

-- ---- over a list

module _ {A : Type 0} (f : A → List ℕ) (d : A) where
  flat_next : (xs : List A) (i : ℕ) → i < length xs → flat_map f (take (suc i) xs) ≡ flat_map f (take i xs) ++ f (get_or xs i d)
  flat_next [] i h = absurd (omega arith)
  flat_next (y ∷ ys) zero h = append-nil (f y)
  flat_next (y ∷ ys) (suc i) h = ap (λ (l : List ℕ). f y ++ l) (flat_next ys i (omega arith)) ∙ sym
      (append_assoc (f y) (flat_map f (take i ys)) (f (get_or ys i d)))

  flat_whole : (xs : List A) (i : ℕ) → i < length xs → flat_map f xs ≡ (flat_map f (take i xs) ++ f (get_or xs i d)) ++ flat_map f (drop (suc i) xs)
  flat_whole [] i h = absurd (omega arith)
  flat_whole (y ∷ ys) zero h = refl
  flat_whole (y ∷ ys) (suc i) h = let x = get_or ys i d in
      ap (λ (l : List ℕ). f y ++ l) (flat_whole ys i (omega arith)) ∙ (sym
      (append_assoc (f y) (flat_map f (take i ys) ++ f x) (flat_map f (drop (suc i) ys))) ∙ ap (λ (l : List ℕ). l ++ flat_map f (drop (suc i) ys))
      (sym (append_assoc (f y) (flat_map f (take i ys)) (f x))))

  -- one more of them is buffered
  pub next_part : (a b c : Option (List ℕ)) (h m k : List ℕ) (xs : List A) (i : ℕ) → i < length xs → Gathers a h b m (flat_map f (take i xs))
      → Gathers b m c k (f (get_or xs i d)) → Gathers a h c k (flat_map f (take (i + 1) xs))
  next_part a b c h m k xs i lt p q = let e : i + 1 ≡ suc i = omega arith in
      subst (λ (l : List ℕ). Gathers a h c k l) (sym (flat_next xs i lt) ∙ ap (λ (n : ℕ). flat_map f (take n xs)) (sym e)) (gathers_then p q)

  -- one of them fails
  pub part_fails : (a b c : Option (List ℕ)) (h m : List ℕ) (xs : List A) (i : ℕ) → i < length xs → Gathers a h b m (flat_map f (take i xs))
      → AppendsPart b c (m ++ f (get_or xs i d)) → AppendsPart a c (h ++ flat_map f xs)
  part_fails a b c h m xs i lt p q = subst (λ (l : List ℕ). AppendsPart a c (h ++ l)) (sym (flat_whole xs i lt))
      (stops_within a c h (flat_map f (take i xs) ++ f (get_or xs i d)) (flat_map f (drop (suc i) xs)) (stops_then a b c h m _ _ p q))

module _ {A : Type 0} (f : A → List ℕ) where
  pub next_item : (a b c : Option (List ℕ)) (h m k : List ℕ) (xs : List A) (i : ℕ) (x : A) → x ≡ get_or xs i x → i < length xs
      → Gathers a h b m (flat_map f (take i xs)) → Gathers b m c k (f x) → Gathers a h c k (flat_map f (take (i + 1) xs))
  next_item a b c h m k xs i x e lt p q = next_part f x a b c h m k xs i lt p (subst (λ (y : A). Gathers b m c k (f y)) e q)

  pub item_fails : (a b c : Option (List ℕ)) (h m : List ℕ) (xs : List A) (i : ℕ) (x : A) → x ≡ get_or xs i x → i < length xs
      → Gathers a h b m (flat_map f (take i xs)) → AppendsPart b c (m ++ f x) → AppendsPart a c (h ++ flat_map f xs)
  item_fails a b c h m xs i x e lt p q = part_fails f x a b c h m xs i lt p (subst (λ (y : A). AppendsPart b c (m ++ f y)) e q)

pub on_err : {T E : Type 0} (r : Result T E) (P : Type 0) → P → OnErr r P
on_err (Ok x) P p = tt
on_err (Err e) P p = p
