-- The first two bytes of a piece determine its class.
use Rattle.std.proofs.Common.{◌≡◌, ℕ, ◌≤◌, ◌<◌, Bool, true, false, ◌&&◌, ◌||◌, ◌==◌, List, [], ◌∷◌, length, Option, Some, None, refl, sym, ◌∙◌, arith}
use Rattle.std.specs.Prelude.{nat_le, nat_lt, is_some, if◌then◌else◌}
use Rattle.std.specs.List.{list_all}
use Rattle.std.specs.Str.{bytes_eq}
use Rattle.std.specs.Char.{is_ascii_digit, is_ascii_alphabetic}
use Rattle.std.proofs.lemmas.Slice.Eq.{bytes_eq-Decides}
use Rattle.std.proofs.lemmas.Bool.Decides.{nat_tests, Decides-eqb}
use Rattle.sim_text_tokens.specs.declared.kind.Kind.{Kind}
use Rattle.sim_text_tokens.specs.declared.class.Class.{Class}
use Rattle.sim_text_tokens.specs.declared.class.Class.TheVariants as class
use Rattle.sim_text_tokens.specs.Pieces.{Text, is_separator, is_piece, is_delimited_comment, kind_in, delimiters}
use Rattle.sim_text_tokens.proofs.Tests.{by_cases, and_both}

-- whether two bytes begin a comment
abbrev pub begins_comment : ℕ → Text → Bool
begins_comment a [] = false
begins_comment a (b ∷ bs) = (a == 45 && b == 45) || (a == 47 && b == 42)

-- the class that the first two bytes determine
unfoldable pub class_by : Bool → ℕ → Text → Class
class_by after_name a rest =
    if is_separator a then class.Separator
    else (if is_ascii_alphabetic a then class.Word
    else (if is_ascii_digit a then class.Number
    else (if a == 39 then (if after_name then class.Tick else class.Literal)
    else (if begins_comment a rest then class.Comment
    else class.Delimiter))))

-- a text found in a table whose spellings all pass a test passes it too
pub found_in : (test : Text → Bool) (table : List (Text × Kind)) (bytes : Text) → list_all (λ e. test e.0) table ≡ true
    → is_some (kind_in table bytes) ≡ true → test bytes ≡ true
found_in test [] bytes all h = absurd cc
found_in test (e ∷ table) bytes all h = by_cases (bytes_eq e.0 bytes)
    (λ t. let same : e.0 ≡ bytes = (bytes_eq-Decides e.0 bytes).0 t in
    rw (← same) (and_both (test e.0) _ all).0)
    (λ f. found_in test table bytes (and_both (test e.0) _ all).1 (rw f at h))

pub letter_only : (a : ℕ) → is_ascii_alphabetic a ≡ true → is_separator a ≡ false
unfolding is_separator
letter_only a h = grind (arith, nat_tests)

pub digit_only : (a : ℕ) → is_ascii_digit a ≡ true → (is_separator a ≡ false) × (is_ascii_alphabetic a ≡ false)
unfolding is_separator
digit_only a h = (grind (arith, nat_tests), grind (arith, nat_tests))

-- the first bytes of a piece determine its class
abbrev pub TellsClass : Bool → Class → Text → Type 0
TellsClass after_name c [] = ⊥
TellsClass after_name c (a ∷ rest) = class_by after_name a rest ≡ c

is_delimiter : Class → Bool
is_delimiter class.Delimiter = true
is_delimiter _ = false

is_delimiter_only : (c : Class) → is_delimiter c ≡ true → c ≡ class.Delimiter
unfolding is_delimiter
is_delimiter_only class.Delimiter h = refl
is_delimiter_only class.Separator h = absurd cc
is_delimiter_only class.Comment h = absurd cc
is_delimiter_only class.Word h = absurd cc
is_delimiter_only class.Number h = absurd cc
is_delimiter_only class.Literal h = absurd cc
is_delimiter_only class.Tick h = absurd cc

delimiter_class : Bool → Text → Bool
delimiter_class after_name [] = false
delimiter_class after_name (a ∷ rest) = is_delimiter (class_by after_name a rest)

of_delimiter : (after_name : Bool) (text : Text) → delimiter_class after_name text ≡ true → TellsClass after_name class.Delimiter text
unfolding delimiter_class
of_delimiter after_name [] h = absurd cc
of_delimiter after_name (a ∷ rest) h = is_delimiter_only _ h

delimiters_tell : (after_name : Bool) → list_all (λ (e : Text × Kind). delimiter_class after_name e.0) delimiters ≡ true
unfolding delimiter_class is_delimiter class_by is_separator delimiters
delimiters_tell after_name = refl

of_literal : (after_name : Bool) (text : Text) → is_piece after_name class.Literal text ≡ true → TellsClass after_name class.Literal text
unfolding class_by is_separator
of_literal after_name [] h = absurd cc
of_literal after_name (a ∷ []) h = absurd cc
of_literal after_name (a ∷ v ∷ []) h = absurd cc
of_literal true (a ∷ v ∷ b ∷ []) h = absurd cc
of_literal false (a ∷ v ∷ b ∷ []) h = rw ((Decides-eqb a 39).0 (and_both (a == 39) _ h).0) refl
of_literal after_name (a ∷ v ∷ b ∷ c ∷ bs) h = absurd cc

of_tick : (after_name : Bool) (text : Text) → is_piece after_name class.Tick text ≡ true → TellsClass after_name class.Tick text
unfolding class_by is_separator
of_tick after_name [] h = absurd cc
of_tick true (a ∷ []) h = rw ((Decides-eqb a 39).0 h) refl
of_tick false (a ∷ []) h = absurd cc
of_tick after_name (a ∷ b ∷ bs) h = absurd cc

of_comment : (after_name : Bool) (text : Text) → is_piece after_name class.Comment text ≡ true → TellsClass after_name class.Comment text
unfolding class_by is_separator
of_comment after_name [] h = absurd cc
of_comment after_name (a ∷ []) h = absurd cc
of_comment after_name (a ∷ b ∷ bs) h = by_cases (a == 45 && b == 45)
    (λ t. let w = and_both (a == 45) (b == 45) t in
    rw ((Decides-eqb a 45).0 w.0, (Decides-eqb b 45).0 w.1) refl)
    (λ f. let second : is_delimited_comment (a ∷ b ∷ bs) ≡ true = rw f at h in
    let w = and_both (a == 47) (b == 42) (and_both (a == 47 && b == 42) _ second).0 in
    rw ((Decides-eqb a 47).0 w.0, (Decides-eqb b 42).0 w.1) refl)

pub class_of : (after_name : Bool) (c : Class) (text : Text) → is_piece after_name c text ≡ true → TellsClass after_name c text
unfolding class_by is_separator
class_of after_name class.Separator [] h = absurd cc
class_of after_name class.Separator (a ∷ []) h = rw h refl
class_of after_name class.Separator (a ∷ b ∷ bs) h = absurd cc
class_of after_name class.Word [] h = absurd cc
class_of after_name class.Word (a ∷ bs) h =
    let w = and_both (is_ascii_alphabetic a) _ h in
    rw (letter_only a w.0, w.0) refl
class_of after_name class.Number [] h = absurd cc
class_of after_name class.Number (a ∷ bs) h =
    let w = and_both (is_ascii_digit a) _ h in
    let d = digit_only a w.0 in
    rw (d.0, d.1, w.0) refl
class_of after_name class.Literal text h = of_literal after_name text h
class_of after_name class.Tick text h = of_tick after_name text h
class_of after_name class.Comment text h = of_comment after_name text h
class_of after_name class.Delimiter text h = of_delimiter after_name text (found_in (delimiter_class after_name) delimiters text (delimiters_tell after_name) h)

-- a text is a piece of at most one class
pub one_class : (after_name : Bool) (c d : Class) (text : Text) → is_piece after_name c text ≡ true → is_piece after_name d text ≡ true → c ≡ d
one_class after_name c d [] p q = absurd (class_of after_name c [] p)
one_class after_name c d (a ∷ rest) p q = sym (class_of after_name c (a ∷ rest) p) ∙ class_of after_name d (a ∷ rest) q

-- no piece is empty
pub not_empty : (after_name : Bool) (c : Class) → is_piece after_name c [] ≡ true → ⊥
not_empty after_name c p = class_of after_name c [] p

none_is : (o : Option Kind) → is_some o ≡ false → o ≡ None
none_is None h = refl
none_is (Some k) h = absurd cc

-- no delimiter has more than two bytes
pub delimiter_short : (bytes : Text) → is_some (kind_in delimiters bytes) ≡ true → (0 < length bytes) × (length bytes ≤ 2)
unfolding delimiters
delimiter_short bytes h =
    let both = found_in (λ b. nat_lt 0 (length b) && nat_le (length b) 2) delimiters bytes refl h in
    let w = and_both (nat_lt 0 (length bytes)) (nat_le (length bytes) 2) both in
    (grind (arith, nat_tests), grind (arith, nat_tests))

pub no_delimiter_empty : (bytes : Text) → length bytes < 1 → kind_in delimiters bytes ≡ None
no_delimiter_empty bytes short = by_cases (is_some (kind_in delimiters bytes))
    (λ t. absurd (omega (arith, delimiter_short bytes t)))
    (λ f. none_is (kind_in delimiters bytes) f)

pub no_delimiter_long : (bytes : Text) → 3 ≤ length bytes → kind_in delimiters bytes ≡ None
no_delimiter_long bytes long = by_cases (is_some (kind_in delimiters bytes))
    (λ t. absurd (omega (arith, delimiter_short bytes t)))
    (λ f. none_is (kind_in delimiters bytes) f)
