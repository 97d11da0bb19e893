-- The length of the piece at the front of a text. proofs/ shows that it is the longest possible.
-- Implementation only: what `simulate` promises does not rest on this file.
use Rattle.std.specs.Prelude.{ℕ, suc, ◌+◌, Bool, true, false, ◌&&◌, ◌==◌, nat_eq, if◌then◌else◌, [], ◌∷◌, Option, Some, None, is_some, option_map}
use Rattle.std.specs.List.{list_any}
use Rattle.std.specs.Char.{is_ascii_digit, is_ascii_alphabetic, is_ascii_alphanumeric}
use Rattle.sim_text_tokens.specs.declared.class.Class.{Class}
use Rattle.sim_text_tokens.specs.declared.class.Class.TheVariants as class
use Rattle.sim_text_tokens.specs.Pieces.{Text, is_separator, is_line_end, value_bytes, delimiters, kind_in}

-- the number of bytes at the front that form a tail
abbrev pub tail_len : (ℕ → Bool) → Text → ℕ
tail_len test [] = 0
tail_len test (b ∷ []) = if test b then 1 else 0
tail_len test (b ∷ d ∷ bs) = if test b then suc (tail_len test (d ∷ bs)) else (if b == 95 && test d then suc (suc (tail_len test bs)) else 0)

-- the number of bytes before the first line end
abbrev pub line_len : Text → ℕ
line_len [] = 0
line_len (b ∷ bs) = if is_line_end b then 0 else suc (line_len bs)

-- the number of bytes up to and including the first `*/`, if there is one
abbrev pub closed_len : Text → Option ℕ
closed_len [] = None
closed_len (a ∷ []) = None
closed_len (a ∷ b ∷ bs) = if a == 42 && b == 47 then Some 2 else option_map suc (closed_len (b ∷ bs))

-- a class and a length
abbrev pub Extent : Type 0
Extent = Class × ℕ

unfoldable pub is_value : ℕ → Bool
is_value v = list_any (nat_eq v) value_bytes

-- after an apostrophe
unfoldable pub apostrophe : Bool → Text → Option Extent
apostrophe true rest = Some (class.Tick, 1)
apostrophe false [] = None
apostrophe false (v ∷ []) = None
apostrophe false (v ∷ b ∷ rest) = if is_value v && b == 39 then Some (class.Literal, 3) else None

-- a delimiter of one byte
unfoldable pub single : ℕ → Option Extent
single a = if is_some (kind_in delimiters (a ∷ [])) then Some (class.Delimiter, 1) else None

-- a delimiter, by its first byte and the bytes after it
unfoldable pub delimiter : ℕ → Text → Option Extent
delimiter a [] = single a
delimiter a (b ∷ rest) = if is_some (kind_in delimiters (a ∷ b ∷ [])) then Some (class.Delimiter, 2) else single a

-- after a hyphen
unfoldable pub hyphen : Text → Option Extent
hyphen [] = None
hyphen (b ∷ rest) = if b == 45 then Some (class.Comment, 2 + line_len rest) else None

-- after a slash
unfoldable pub slash : Text → Option Extent
slash [] = delimiter 47 []
slash (b ∷ rest) = if b == 42 then option_map (λ n. (class.Comment, 2 + n)) (closed_len rest) else delimiter 47 (b ∷ rest)

-- the piece at the front, by its first byte and the bytes after it
unfoldable pub piece_at : Bool → ℕ → Text → Option Extent
piece_at after_name first rest =
    if is_separator first then Some (class.Separator, 1)
    else (if is_ascii_alphabetic first then Some (class.Word, 1 + tail_len is_ascii_alphanumeric rest)
    else (if is_ascii_digit first then Some (class.Number, 1 + tail_len is_ascii_digit rest)
    else (if first == 39 then apostrophe after_name rest
    else (if first == 45 then hyphen rest
    else (if first == 47 then slash rest
    else delimiter first rest)))))
