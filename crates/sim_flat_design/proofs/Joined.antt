-- Texts in pieces: after the shorter of two pieces, the rest of the longer is compared.
use Rattle.std.proofs.Common.{
  ◌≡◌,
  ◌≢◌,
  ℕ,
  ◌+◌,
  ◌-◌,
  ◌≤◌,
  ◌<◌,
  List,
  [],
  ◌∷◌,
  ◌++◌,
  length,
  take,
  drop,
  get_or,
  refl,
  sym,
  ap,
  ◌∙◌,
  arith,
  append_assoc,
  append-nil,
  length-append,
  take-append-drop,
}
use Rattle.std.specs.List.{concat}
use Rattle.std.proofs.Math.Seq.{take-append_seam}
use Rattle.std.proofs.lemmas.List.{append_cancel_left, take-append-le, take_rest, take_more}
use Rattle.std.proofs.lemmas.List.Folds.{concat-append}

-- no text is shorter than its prefix
pub too_short : (front rest whole : List ℕ) → length whole < length front → front ++ rest ≢ whole
too_short front rest whole short e = absurd (omega (arith, short, ap length e, length-append front rest))

-- a text split after a prefix of its length
module _ (front whole head rest : List ℕ) (fore : head ≡ take (length front) whole) (aft : rest ≡ drop (length front) whole) where
  whole_is : head ++ rest ≡ whole
  whole_is = ap (λ (l : List ℕ). l ++ rest) fore ∙ (ap (λ (l : List ℕ). take (length front) whole ++ l) aft ∙ take-append-drop (length front) whole)

  pub head_is : (more : List ℕ) → front ++ more ≡ whole → front ≡ head
  head_is more e = sym (fore ∙ (ap (take (length front)) (sym e) ∙ take-append_seam front more))

  pub rest_is : front ≡ head → front ++ rest ≡ whole
  rest_is f = ap (λ (l : List ℕ). l ++ rest) f ∙ whole_is

-- one more piece
pub one_more : (pieces : List (List ℕ)) (piece : List ℕ) → concat (pieces ++ piece ∷ []) ≡ concat pieces ++ piece
one_more pieces piece = concat-append pieces (piece ∷ []) ∙ ap (λ (l : List ℕ). concat pieces ++ l) (append-nil piece)

-- a label added to the last piece
pub to_last : (pieces before : List (List ℕ)) (last label : List ℕ) → pieces ≡ before ++ last ∷ [] → concat before ++ (last ++ label) ≡ concat pieces ++ label
to_last pieces before last label e =
    sym (append_assoc (concat before) last label) ∙ ap (λ (l : List ℕ). l ++ label) (sym (ap concat e ∙ one_more before last))

-- a text after its first piece
module _ (first more last whole rest : List ℕ) (cut : first ++ rest ≡ whole) where
  pub is_whole : more ++ last ≡ rest → (first ++ more) ++ last ≡ whole
  is_whole e = append_assoc first more last ∙ (ap (λ (l : List ℕ). first ++ l) e ∙ cut)

  pub is_rest : (first ++ more) ++ last ≡ whole → more ++ last ≡ rest
  is_rest e = append_cancel_left first (more ++ last) rest (sym (append_assoc first more last) ∙ (e ∙ sym cut))

-- no pieces
pub no_pieces : (pieces : List (List ℕ)) → length pieces < 1 → concat pieces ≡ []
no_pieces [] h = refl
no_pieces (x ∷ xs) h = absurd (omega arith)

-- the pieces after the first
abbrev pub behind_first : List (List ℕ) → List (List ℕ)
behind_first pieces = take (length pieces - 1) (drop 1 pieces)

-- the first of some pieces, and the others
pub first_piece : (pieces : List (List ℕ)) (item first : List ℕ) → 1 ≤ length pieces → item ≡ get_or pieces 0 item → first ≡ item
    → concat pieces ≡ first ++ concat (behind_first pieces)
first_piece [] item first h e f = absurd (omega arith)
first_piece (x ∷ xs) item first h e f =
    ap (λ (l : List ℕ). l ++ concat xs) (sym (f ∙ e)) ∙ ap (λ (l : List (List ℕ)). first ++ concat l) (sym (take_rest (x ∷ xs) 1))

-- one piece after another
pub next_piece : (pieces : List (List ℕ)) (i : ℕ) (item old new : List ℕ) → i < length pieces → item ≡ get_or pieces i item
    → old ≡ concat (take i pieces) → new ≡ old ++ item → new ≡ concat (take (i + 1) pieces)
next_piece pieces i item old new lt is so_far e =
    e ∙ (ap (λ (l : List ℕ). l ++ item) so_far
    ∙ (sym (one_more (take i pieces) item)
    ∙ ap concat (ap (λ (l : List ℕ). take i pieces ++ l ∷ []) is ∙ sym (take_more pieces i item lt))))

-- if two texts are equal, the shorter prefix is a prefix of the longer one
pub is_front : (front more longer rest : List ℕ) → length front ≤ length longer → front ++ more ≡ longer ++ rest → front ++ drop (length front) longer ≡ longer
is_front front more longer rest fits e =
    ap (λ (l : List ℕ). l ++ drop (length front) longer)
    (sym (take-append_seam front more) ∙ (ap (take (length front)) e ∙ take-append-le (length front) longer rest fits))
    ∙ take-append-drop (length front) longer

-- a prefix before both texts does not matter
module _ (front one other : List ℕ) where
  pub put_before : one ≡ other → front ++ one ≡ front ++ other
  put_before e = ap (λ (l : List ℕ). front ++ l) e

  pub left_out : front ++ one ≡ front ++ other → one ≡ other
  left_out e = append_cancel_left front one other e

-- a prefix regrouped with the text after it
pub regrouped : (front rest whole more : List ℕ) → front ++ rest ≡ whole → whole ++ more ≡ front ++ (rest ++ more)
regrouped front rest whole more cut = ap (λ (l : List ℕ). l ++ more) (sym cut) ∙ append_assoc front rest more

-- the same for a text whose prefix is its first piece
pub first_apart : (all first others last : List ℕ) → all ≡ first ++ others → all ++ last ≡ first ++ (others ++ last)
first_apart all first others last e = ap (λ (l : List ℕ). l ++ last) e ∙ append_assoc first others last
