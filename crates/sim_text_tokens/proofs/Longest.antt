-- A scan finds the longest piece that may stand at a place, and where it finds none, none may.
use Rattle.std.proofs.Common.{◌≡◌, ℕ, suc, ◌+◌, ◌≤◌, ◌<◌, Bool, true, false, ◌&&◌, ◌||◌, ◌==◌, not, [], ◌∷◌, ◌++◌, length, take, Option, Some, None}
use Rattle.std.proofs.Common.{refl, sym, subst, ◌∙◌, arith}
use Rattle.std.specs.Prelude.{is_some, option_map}
use Rattle.std.proofs.Math.Numerals.{one-add}
use Rattle.std.specs.List.{list_all}
use Rattle.std.specs.Char.{is_ascii_digit, is_ascii_alphabetic, is_ascii_alphanumeric}
use Rattle.std.proofs.lemmas.Bool.Decides.{Decides-eqb}
use Rattle.sim_text_tokens.specs.declared.class.Class.{Class}
use Rattle.sim_text_tokens.specs.declared.class.Class.TheVariants as class
use Rattle.sim_text_tokens.specs.Pieces.{Text, is_separator, is_piece, is_tail, is_line_end, is_closed_at_end, kind_in, delimiters}
use Rattle.sim_text_tokens.specs.Scan.{Extent, tail_len, line_len, closed_len, is_value, apostrophe, single, delimiter, hyphen, slash, piece_at}
use Rattle.sim_text_tokens.proofs.Tests.{by_cases, and_both}
use Rattle.sim_text_tokens.proofs.Tails.{tail_fits, tail_inside, tail_most}
use Rattle.sim_text_tokens.proofs.Comments.{line_fits, line_inside, line_most, closed_exact, closed_fits}
use Rattle.sim_text_tokens.proofs.Classes.{class_by, begins_comment, class_of, letter_only, digit_only, delimiter_short}

-- the extent is that of the longest possible piece at a byte and the rest; none if no piece is possible
abbrev pub IsBest : Bool → ℕ → Text → Option Extent → Type 0
IsBest after_name first rest None = (c : Class) (front beyond : Text) → front ++ beyond ≡ rest → is_piece after_name c (first ∷ front) ≡ true → ⊥
IsBest after_name first rest (Some e) =
    (0 < e.1) × (e.1 ≤ suc (length rest)) × (is_piece after_name e.0 (take e.1 (first ∷ rest)) ≡ true)
    × ((c : Class) (front beyond : Text) → front ++ beyond ≡ rest → is_piece after_name c (first ∷ front) ≡ true → suc (length front) ≤ e.1)

-- a piece has the class that its first bytes determine
as_reported : (after_name : Bool) (c d : Class) (first : ℕ) (front : Text) → class_by after_name first front ≡ d
    → is_piece after_name c (first ∷ front) ≡ true → is_piece after_name d (first ∷ front) ≡ true
as_reported after_name c d first front reported p =
    let same : c ≡ d = sym (class_of after_name c (first ∷ front) p) ∙ reported in
    subst (λ x. is_piece after_name x (first ∷ front) ≡ true) same p

separator_short : (after_name : Bool) (first : ℕ) (front : Text) → is_piece after_name class.Separator (first ∷ front) ≡ true → suc (length front) ≤ 1
separator_short after_name first [] p = omega arith
separator_short after_name first (x ∷ front) p = absurd cc

separator_most : (after_name : Bool) (first : ℕ) → is_separator first ≡ true → (c : Class) (front : Text)
    → is_piece after_name c (first ∷ front) ≡ true → suc (length front) ≤ 1
unfolding class_by
separator_most after_name first h c front p = separator_short after_name first front (as_reported after_name c class.Separator first front (rw h refl) p)

best_separator : (after_name : Bool) (first : ℕ) (rest : Text) → is_separator first ≡ true → IsBest after_name first rest (Some (class.Separator, 1))
best_separator after_name first rest h = (omega arith, omega arith, h, λ c front beyond e p. separator_most after_name first h c front p)

word_most : (after_name : Bool) (first : ℕ) → is_ascii_alphabetic first ≡ true → (c : Class) (front beyond : Text)
    → is_piece after_name c (first ∷ front) ≡ true → length front ≤ tail_len is_ascii_alphanumeric (front ++ beyond)
unfolding class_by
word_most after_name first h c front beyond p =
    let reported : class_by after_name first front ≡ class.Word = rw (letter_only first h, h) refl in
    let w = and_both (is_ascii_alphabetic first) (is_tail is_ascii_alphanumeric front) (as_reported after_name c class.Word first front reported p) in
    tail_most is_ascii_alphanumeric front beyond w.1

best_word : (after_name : Bool) (first : ℕ) (rest : Text) → is_ascii_alphabetic first ≡ true
    → IsBest after_name first rest (Some (class.Word, suc (tail_len is_ascii_alphanumeric rest)))
best_word after_name first rest h =
    let inside = tail_inside is_ascii_alphanumeric rest in (
      omega arith,
      omega arith,
      rw (h, tail_fits is_ascii_alphanumeric rest) refl,
      λ c front beyond e p.
          let m : length front ≤ tail_len is_ascii_alphanumeric rest = rw (← e) (word_most after_name first h c front beyond p) in
          omega arith,
    )

number_most : (after_name : Bool) (first : ℕ) → is_ascii_digit first ≡ true → (c : Class) (front beyond : Text)
    → is_piece after_name c (first ∷ front) ≡ true → length front ≤ tail_len is_ascii_digit (front ++ beyond)
unfolding class_by
number_most after_name first h c front beyond p =
    let d = digit_only first h in
    let reported : class_by after_name first front ≡ class.Number = rw (d.0, d.1, h) refl in
    let w = and_both (is_ascii_digit first) (is_tail is_ascii_digit front) (as_reported after_name c class.Number first front reported p) in
    tail_most is_ascii_digit front beyond w.1

best_number : (after_name : Bool) (first : ℕ) (rest : Text) → is_ascii_digit first ≡ true
    → IsBest after_name first rest (Some (class.Number, suc (tail_len is_ascii_digit rest)))
best_number after_name first rest h =
    let inside = tail_inside is_ascii_digit rest in (
      omega arith,
      omega arith,
      rw (h, tail_fits is_ascii_digit rest) refl,
      λ c front beyond e p.
          let m : length front ≤ tail_len is_ascii_digit rest = rw (← e) (number_most after_name first h c front beyond p) in
          omega arith,
    )

tick_short : (front : Text) → is_piece true class.Tick (39 ∷ front) ≡ true → suc (length front) ≤ 1
tick_short [] p = omega arith
tick_short (x ∷ front) p = absurd cc

tick_most : (c : Class) (front : Text) → is_piece true c (39 ∷ front) ≡ true → suc (length front) ≤ 1
unfolding class_by is_separator
tick_most c front p = tick_short front (as_reported true c class.Tick 39 front refl p)

-- the two bytes after the apostrophe of a literal
literal_parts : (front : Text) → is_piece false class.Literal (39 ∷ front) ≡ true → (v : ℕ) × (b : ℕ) × (front ≡ v ∷ b ∷ []) × ((is_value v && b == 39) ≡ true)
unfolding is_value
literal_parts [] p = absurd cc
literal_parts (v ∷ []) p = absurd cc
literal_parts (v ∷ b ∷ []) p = (v, b, refl, p)
literal_parts (v ∷ b ∷ x ∷ front) p = absurd cc

reported_literal : (c : Class) (front : Text) → is_piece false c (39 ∷ front) ≡ true → is_piece false class.Literal (39 ∷ front) ≡ true
unfolding class_by is_separator
reported_literal c front p = as_reported false c class.Literal 39 front refl p

literal_fits : (v b : ℕ) → (is_value v && b == 39) ≡ true → is_piece false class.Literal (39 ∷ v ∷ b ∷ []) ≡ true
unfolding is_value
literal_fits v b t = t

literal_most : (c : Class) (front : Text) → is_piece false c (39 ∷ front) ≡ true → suc (length front) ≤ 3
literal_most c front p =
    let w = literal_parts front (reported_literal c front p) in
    rw w.2 (omega arith)

best_apostrophe : (after_name : Bool) (rest : Text) → IsBest after_name 39 rest (apostrophe after_name rest)
unfolding apostrophe
best_apostrophe true rest = (omega arith, omega arith, refl, λ c front beyond e p. tick_most c front p)
best_apostrophe false [] = λ c front beyond e p.
    let w = literal_parts front (reported_literal c front p) in
    let e2 : w.0 ∷ w.1 ∷ beyond ≡ [] = rw w.2 at e in absurd cc
best_apostrophe false (v ∷ []) = λ c front beyond e p.
    let w = literal_parts front (reported_literal c front p) in
    let e2 : w.0 ∷ w.1 ∷ beyond ≡ v ∷ [] = rw w.2 at e in absurd cc
best_apostrophe false (v ∷ b ∷ rest) = by_cases (is_value v && b == 39)
    (λ t. rw t (omega arith, omega arith, literal_fits v b t, λ c front beyond e p. literal_most c front p))
    (λ f. rw f (λ c front beyond e p.
    let w = literal_parts front (reported_literal c front p) in
    let e2 : w.0 ∷ w.1 ∷ beyond ≡ v ∷ b ∷ rest = rw w.2 at e in
    let same_v : w.0 ≡ v = cc in
    let same_b : w.1 ≡ b = cc in
    let t : (is_value v && b == 39) ≡ true = rw (← same_v, ← same_b) w.3 in
    absurd cc))

delimiter_fits : (after_name : Bool) (bytes : Text) → is_some (kind_in delimiters bytes) ≡ true → is_piece after_name class.Delimiter bytes ≡ true
delimiter_fits after_name bytes h = h

-- where only a delimiter may stand
module _ (after_name : Bool) (first : ℕ) (rest : Text) (reported : (front beyond : Text) → front ++ beyond ≡ rest → class_by after_name first front ≡
    class.Delimiter) where
  only_delimiter : (c : Class) (front beyond : Text) → front ++ beyond ≡ rest → is_piece after_name c (first ∷ front) ≡ true
      → is_some (kind_in delimiters (first ∷ front)) ≡ true
  only_delimiter c front beyond e p = as_reported after_name c class.Delimiter first front (reported front beyond e) p

-- no byte follows, or the first two bytes form no delimiter
best_single : (after_name : Bool) (first : ℕ) (rest : Text)
    → ((front beyond : Text) → front ++ beyond ≡ rest → class_by after_name first front ≡ class.Delimiter)
    → ((front beyond : Text) → front ++ beyond ≡ rest → is_some (kind_in delimiters (first ∷ front)) ≡ true → front ≡ [])
    → IsBest after_name first rest (single first)
unfolding single
best_single after_name first rest reported alone = by_cases (is_some (kind_in delimiters (first ∷ [])))
    (λ t. rw t (
      omega arith,
      omega arith,
      delimiter_fits after_name (first ∷ []) t,
      λ c front beyond e p.
          let none = alone front beyond e (only_delimiter after_name first rest reported c front beyond e p) in
          rw none (omega arith),
    ))
    (λ f. rw f (λ c front beyond e p.
    let d = only_delimiter after_name first rest reported c front beyond e p in
    let none = alone front beyond e d in
    let t : is_some (kind_in delimiters (first ∷ [])) ≡ true = rw none at d in
    absurd cc))

front_of_none : (front beyond : Text) → front ++ beyond ≡ [] → front ≡ []
front_of_none [] beyond e = refl
front_of_none (x ∷ front) beyond e = absurd cc

-- the first two bytes begin no delimiter
alone_before : (first b : ℕ) (rest : Text) → is_some (kind_in delimiters (first ∷ b ∷ [])) ≡ false → (front beyond : Text)
    → front ++ beyond ≡ b ∷ rest → is_some (kind_in delimiters (first ∷ front)) ≡ true → front ≡ []
alone_before first b rest f [] beyond e h = refl
alone_before first b rest f (x ∷ []) beyond e h =
    let same : x ≡ b = cc in
    let t : is_some (kind_in delimiters (first ∷ b ∷ [])) ≡ true = rw (← same) h in
    absurd cc
alone_before first b rest f (x ∷ y ∷ front) beyond e h = absurd (too_long (delimiter_short (first ∷ x ∷ y ∷ front) h).1)
  where
    too_long : suc (suc (suc (length front))) ≤ 2 → ⊥
    too_long h = omega arith

best_delimiter : (after_name : Bool) (first : ℕ) (rest : Text)
    → ((front beyond : Text) → front ++ beyond ≡ rest → class_by after_name first front ≡ class.Delimiter)
    → IsBest after_name first rest (delimiter first rest)
unfolding delimiter
best_delimiter after_name first [] reported = best_single after_name first [] reported (λ front beyond e h. front_of_none front beyond e)
best_delimiter after_name first (b ∷ rest) reported = by_cases (is_some (kind_in delimiters (first ∷ b ∷ [])))
    (λ t. rw t (
      omega arith,
      omega arith,
      delimiter_fits after_name (first ∷ b ∷ []) t,
      λ c front beyond e p.
          (delimiter_short (first ∷ front) (only_delimiter after_name first (b ∷ rest) reported c front beyond e p)).1,
    ))
    (λ f. rw f (best_single after_name first (b ∷ rest) reported (alone_before first b rest f)))

-- no delimiter begins with a hyphen
no_hyphen : (front : Text) → is_some (kind_in delimiters (45 ∷ front)) ≡ true → ⊥
unfolding delimiters
no_hyphen front h = absurd cc

no_slash_star : (front : Text) → is_some (kind_in delimiters (47 ∷ 42 ∷ front)) ≡ true → ⊥
unfolding delimiters
no_slash_star front h = absurd cc

no_slash : is_some (kind_in delimiters (47 ∷ [])) ≡ true → ⊥
unfolding delimiters
no_slash h = absurd cc

line_comment_fits : (after_name : Bool) (b n : ℕ) (rest : Text) → (b == 45) ≡ true → n ≡ line_len rest
    → is_piece after_name class.Comment (45 ∷ b ∷ take n rest) ≡ true
line_comment_fits after_name b n rest t e = rw (t, e, line_fits rest) refl

-- a piece after a hyphen is a comment to the end of the line
hyphen_most : (after_name : Bool) (rest : Text) (c : Class) (front beyond : Text) → front ++ beyond ≡ 45 ∷ rest
    → is_piece after_name c (45 ∷ front) ≡ true → suc (length front) ≤ suc (suc (line_len rest))
unfolding class_by is_separator
hyphen_most after_name rest c [] beyond e p = omega arith
hyphen_most after_name rest c (x ∷ front) beyond e p =
    let same : x ≡ 45 = cc in
    let onward : front ++ beyond ≡ rest = cc in
    let comment : is_piece after_name class.Comment (45 ∷ x ∷ front) ≡ true = as_reported after_name c class.Comment 45 (x ∷ front) (rw same refl) p in
    let line : (list_all (λ y. not (is_line_end y)) front || false) ≡ true = rw same at comment in
    let m : length front ≤ line_len rest = rw (← onward) (line_most front beyond (or_false _ line)) in
    omega arith
  where
    or_false : (a : Bool) → (a || false) ≡ true → a ≡ true
    or_false true h = refl
    or_false false h = h

-- a hyphen that no other hyphen follows begins no piece
hyphen_none : (after_name : Bool) (b : ℕ) (rest : Text) → (b == 45) ≡ false → (c : Class) (front beyond : Text) → front ++ beyond ≡ b ∷ rest
    → is_piece after_name c (45 ∷ front) ≡ true → ⊥
unfolding class_by is_separator
hyphen_none after_name b rest f c [] beyond e p = no_hyphen [] (as_reported after_name c class.Delimiter 45 [] refl p)
hyphen_none after_name b rest f c (x ∷ front) beyond e p =
    let same : x ≡ b = cc in
    no_hyphen (x ∷ front) (as_reported after_name c class.Delimiter 45 (x ∷ front) (rw (same, f) refl) p)

hyphen_alone : (after_name : Bool) (c : Class) (front beyond : Text) → front ++ beyond ≡ [] → is_piece after_name c (45 ∷ front) ≡ true → ⊥
unfolding class_by is_separator
hyphen_alone after_name c [] beyond e p = no_hyphen [] (as_reported after_name c class.Delimiter 45 [] refl p)
hyphen_alone after_name c (x ∷ front) beyond e p = absurd cc

best_hyphen : (after_name : Bool) (rest : Text) → IsBest after_name 45 rest (hyphen rest)
unfolding hyphen
best_hyphen after_name [] = λ c front beyond e p. hyphen_alone after_name c front beyond e p
best_hyphen after_name (b ∷ rest) = by_cases (b == 45)
    (λ t.
    let two : 2 + line_len rest ≡ suc (suc (line_len rest)) = omega arith in
    let inside = line_inside rest in
    let same : b ≡ 45 = (Decides-eqb b 45).0 t in
    rw (t, two) (
      omega arith,
      omega arith,
      line_comment_fits after_name b (line_len rest) rest t refl,
      λ c front beyond e p.
          hyphen_most after_name rest c front beyond (rw same at e) p,
    ))
    (λ f. rw f (λ c front beyond e p. hyphen_none after_name b rest f c front beyond e p))

comment_fits : (after_name : Bool) (front : Text) → is_closed_at_end front ≡ true → is_piece after_name class.Comment (47 ∷ 42 ∷ front) ≡ true
comment_fits after_name front h = h

-- a piece after a slash and a star is a comment that closes at its end
star_comment : (after_name : Bool) (rest : Text) (c : Class) (front beyond : Text) → front ++ beyond ≡ 42 ∷ rest
    → is_piece after_name c (47 ∷ front) ≡ true → (n : ℕ) × (length front ≡ suc n) × (closed_len rest ≡ Some n)
unfolding class_by is_separator
star_comment after_name rest c [] beyond e p = absurd (no_slash (as_reported after_name c class.Delimiter 47 [] refl p))
star_comment after_name rest c (x ∷ front) beyond e p =
    let same : x ≡ 42 = cc in
    let onward : front ++ beyond ≡ rest = cc in
    let comment : is_piece after_name class.Comment (47 ∷ x ∷ front) ≡ true = as_reported after_name c class.Comment 47 (x ∷ front) (rw same refl) p in
    let closed : is_closed_at_end front ≡ true = rw same at comment in
    (length front, refl, rw (← onward) (closed_exact front beyond closed))

best_star : (after_name : Bool) (rest : Text) (o : Option ℕ) → closed_len rest ≡ o
    → IsBest after_name 47 (42 ∷ rest) (option_map (λ n. (class.Comment, 2 + n)) o)
best_star after_name rest None h = λ c front beyond e p.
    let w = star_comment after_name rest c front beyond e p in absurd cc
best_star after_name rest (Some n) h =
    let two : 2 + n ≡ suc (suc n) = omega arith in
    let fits = closed_fits rest n h in
    rw two (
      omega arith,
      omega arith,
      comment_fits after_name (take n rest) fits.0,
      λ c front beyond e p.
          let w = star_comment after_name rest c front beyond e p in
          let same : w.0 ≡ n = cc in
          omega arith,
    )

slash_reported : (after_name : Bool) (rest front beyond : Text) → ((b : ℕ) (bs : Text) → rest ≡ b ∷ bs → (b == 42) ≡ false) → front ++ beyond ≡ rest
    → class_by after_name 47 front ≡ class.Delimiter
unfolding class_by is_separator
slash_reported after_name rest [] beyond h e = refl
slash_reported after_name rest (x ∷ front) beyond h e =
    let f : (x == 42) ≡ false = h x (front ++ beyond) (sym e) in
    rw f refl

best_slash : (after_name : Bool) (rest : Text) → IsBest after_name 47 rest (slash rest)
unfolding slash
best_slash after_name [] = best_delimiter after_name 47 [] (λ front beyond e. slash_reported after_name [] front beyond (λ b bs x. absurd cc) e)
best_slash after_name (b ∷ rest) = by_cases (b == 42)
    (λ t. rw (t, (Decides-eqb b 42).0 t) (best_star after_name rest (closed_len rest) refl))
    (λ f. rw f (best_delimiter after_name 47 (b ∷ rest) (λ front beyond e. slash_reported after_name (b ∷ rest) front beyond
    (λ d bs x. let same : b ≡ d = cc in rw (← same) f) e)))

-- the first byte begins no separator, word, number, literal or comment
begins_none : (first : ℕ) (front : Text) → (first == 45) ≡ false → (first == 47) ≡ false → begins_comment first front ≡ false
begins_none first [] f g = refl
begins_none first (b ∷ bs) f g = rw (f, g) refl

other_reported : (after_name : Bool) (first : ℕ) (front : Text) → is_separator first ≡ false → is_ascii_alphabetic first ≡ false
    → is_ascii_digit first ≡ false → (first == 39) ≡ false → (first == 45) ≡ false → (first == 47) ≡ false
    → class_by after_name first front ≡ class.Delimiter
unfolding class_by
other_reported after_name first front s w d q h l = rw (s, w, d, q, begins_none first front h l) refl

pub best_piece : (after_name : Bool) (first : ℕ) (rest : Text) → IsBest after_name first rest (piece_at after_name first rest)
unfolding piece_at
best_piece after_name first rest = by_cases (is_separator first)
    (λ t. rw t (best_separator after_name first rest t))
    (λ s. by_cases (is_ascii_alphabetic first)
    (λ t. rw (s, t, one-add) (best_word after_name first rest t))
    (λ w. by_cases (is_ascii_digit first)
    (λ t. rw (s, w, t, one-add) (best_number after_name first rest t))
    (λ d. by_cases (first == 39)
    (λ t. rw (s, w, d, t, (Decides-eqb first 39).0 t) (best_apostrophe after_name rest))
    (λ q. by_cases (first == 45)
    (λ t. rw (s, w, d, q, t, (Decides-eqb first 45).0 t) (best_hyphen after_name rest))
    (λ h. by_cases (first == 47)
    (λ t. rw (s, w, d, q, h, t, (Decides-eqb first 47).0 t) (best_slash after_name rest))
    (λ l. rw (s, w, d, q, h, l) (best_delimiter after_name first rest (λ front beyond e. other_reported after_name first front s w d q h l))))))))
