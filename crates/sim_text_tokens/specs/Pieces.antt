-- The pieces of a text: what may stand at a place in it (IEEE 1076-2008, 15).
use Rattle.std.specs.Prelude.{ℕ, Bool, true, false, ◌&&◌, ◌||◌, not, ◌==◌, nat_eq, nat_le, if◌then◌else◌, List, [], ◌∷◌, take, drop, map, filter}
use Rattle.std.specs.Prelude.{Option, Some, None, is_some, codes}
use Rattle.std.specs.List.{list_all, list_any}
use Rattle.std.specs.Str.{bytes_eq}
use Rattle.std.specs.Char.{is_ascii_digit, is_ascii_alphabetic, is_ascii_alphanumeric, to_ascii_lowercase}
use Rattle.sim_text_tokens.specs.declared.kind.Kind.{Kind}
use Rattle.sim_text_tokens.specs.declared.kind.Kind.TheVariants as kind
use Rattle.sim_text_tokens.specs.declared.class.Class.{Class}
use Rattle.sim_text_tokens.specs.declared.class.Class.TheVariants as class

-- the bytes of a text, or of a part of it
abbrev pub Text : Type 0
Text = List ℕ

-- a space, a tab, or a line end (15.3)
unfoldable pub is_separator : ℕ → Bool
is_separator b = b == 32 || (nat_le 9 b && nat_le b 13)

-- a line feed, vertical tab, form feed or carriage return (15.3)
unfoldable pub is_line_end : ℕ → Bool
is_line_end b = nat_le 10 b && nat_le b 13

-- the characters of the values of std_ulogic (IEEE 1164); letters are upper case
abbrev pub value_bytes : Text
value_bytes = codes "UX01ZWLH-"

-- bytes that pass the test, each of which may have one underscore before it (15.4, 15.5)
abbrev pub is_tail : (ℕ → Bool) → Text → Bool
is_tail test [] = true
is_tail test (b ∷ []) = test b
is_tail test (b ∷ d ∷ bs) = (test b && is_tail test (d ∷ bs)) || (b == 95 && (test d && is_tail test bs))

-- two hyphens, and no line end after them (15.9)
abbrev pub is_line_comment : Text → Bool
is_line_comment (a ∷ b ∷ bs) = (a == 45 && b == 45) && list_all (λ x. not (is_line_end x)) bs
is_line_comment _ = false

-- these bytes end in the first `*/` among them
abbrev pub is_closed_at_end : Text → Bool
is_closed_at_end (a ∷ b ∷ []) = a == 42 && b == 47
is_closed_at_end (a ∷ b ∷ c ∷ bs) = not (a == 42 && b == 47) && is_closed_at_end (b ∷ c ∷ bs)
is_closed_at_end _ = false

-- `/*` and the bytes up to the first `*/` (15.9)
abbrev pub is_delimited_comment : Text → Bool
is_delimited_comment (a ∷ b ∷ bs) = (a == 47 && b == 42) && is_closed_at_end bs
is_delimited_comment _ = false

-- the kind that a table has for a spelling
abbrev pub kind_in : List (Text × Kind) → Text → Option Kind
kind_in [] bytes = None
kind_in (entry ∷ table) bytes = if bytes_eq entry.0 bytes then Some entry.1 else kind_in table bytes

-- the delimiters except the tick (15.3)
unfoldable pub delimiters : List (Text × Kind)
delimiters =
    (codes "(", kind.LeftParen) ∷ (codes ")", kind.RightParen) ∷ (codes ";", kind.Semicolon) ∷ (codes ":", kind.Colon) ∷ (codes ",", kind.Comma)
    ∷ (codes ".", kind.Dot)
    ∷ (codes "<=", kind.SignalAssign) ∷ (codes ":=", kind.VariableAssign) ∷ (codes "=>", kind.Arrow)
    ∷ (codes "=", kind.Equal)
    ∷ (codes "/=", kind.Unequal) ∷ (codes "??", kind.Condition) ∷ []

-- the reserved words (15.10)
unfoldable pub reserved_words : List (Text × Kind)
reserved_words =
    (codes "after", kind.After) ∷ (codes "all", kind.All) ∷ (codes "and", kind.And) ∷ (codes "architecture", kind.Architecture)
    ∷ (codes "begin", kind.Begin)
    ∷ (codes "component", kind.Component)
    ∷ (codes "else", kind.Else) ∷ (codes "elsif", kind.Elsif) ∷ (codes "end", kind.End) ∷ (codes "entity", kind.Entity)
    ∷ (codes "if", kind.If) ∷ (codes "in", kind.In) ∷ (codes "inertial", kind.Inertial) ∷ (codes "inout", kind.Inout) ∷ (codes "is", kind.Is)
    ∷ (codes "library", kind.Library)
    ∷ (codes "map", kind.Map)
    ∷ (codes "nand", kind.Nand) ∷ (codes "nor", kind.Nor) ∷ (codes "not", kind.Not) ∷ (codes "null", kind.Null)
    ∷ (codes "of", kind.Of) ∷ (codes "open", kind.Open) ∷ (codes "or", kind.Or) ∷ (codes "out", kind.Out)
    ∷ (codes "port", kind.Port) ∷ (codes "postponed", kind.Postponed) ∷ (codes "process", kind.Process)
    ∷ (codes "reject", kind.Reject)
    ∷ (codes "signal", kind.Signal)
    ∷ (codes "then", kind.Then) ∷ (codes "transport", kind.Transport)
    ∷ (codes "use", kind.Use)
    ∷ (codes "variable", kind.Variable)
    ∷ (codes "when", kind.When)
    ∷ (codes "xnor", kind.Xnor) ∷ (codes "xor", kind.Xor) ∷ []

-- These bytes are one piece of the class. `after_name` says whether the previous token, ignoring separators and
-- comments, is a word that is not reserved: an apostrophe there is a tick, and elsewhere it begins a literal.
abbrev pub is_piece : Bool → Class → Text → Bool
is_piece after_name class.Separator (b ∷ []) = is_separator b
is_piece after_name class.Comment bytes = is_line_comment bytes || is_delimited_comment bytes
is_piece after_name class.Word (b ∷ bs) = is_ascii_alphabetic b && is_tail is_ascii_alphanumeric bs
is_piece after_name class.Number (b ∷ bs) = is_ascii_digit b && is_tail is_ascii_digit bs
is_piece after_name class.Literal (a ∷ v ∷ b ∷ []) = not after_name && (a == 39 && (list_any (nat_eq v) value_bytes && b == 39))
is_piece after_name class.Tick (a ∷ []) = after_name && a == 39
is_piece after_name class.Delimiter bytes = is_some (kind_in delimiters bytes)
is_piece after_name _ _ = false

-- a word by its lower case: a reserved word, which keeps no text, or a name
abbrev pub word_token : Option Kind → Text → Kind × Text
word_token None word = (kind.Word, word)
word_token (Some reserved) word = (reserved, [])

-- the kind and text of a delimiter
abbrev pub delimiter_token : Option Kind → Option (Kind × Text)
delimiter_token None = None
delimiter_token (Some k) = Some (k, [])

-- the kind and text of the token that a piece is; none for a separator or a comment
abbrev pub token_of : Class → Text → Option (Kind × Text)
token_of class.Separator bytes = None
token_of class.Comment bytes = None
token_of class.Word bytes = Some (word_token (kind_in reserved_words (map to_ascii_lowercase bytes)) (map to_ascii_lowercase bytes))
token_of class.Number bytes = Some (kind.Number, filter (λ b. not (b == 95)) bytes)
token_of class.Literal bytes = Some (kind.Literal, take 1 (drop 1 bytes))
token_of class.Tick bytes = Some (kind.Tick, [])
token_of class.Delimiter bytes = delimiter_token (kind_in delimiters bytes)
