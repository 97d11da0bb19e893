-- A text is divided from left to right, and each piece is the longest possible (IEEE 1076-2008, 15.3).
use Rattle.std.specs.Prelude.{◌≡◌, ℕ, ◌+◌, ◌≤◌, ◌<◌, Bool, true, false, ◌==◌, if◌then◌else◌, nat_eq, List, [], ◌∷◌, ◌++◌, length, Option, Some, None}
use Rattle.std.specs.Prelude.{IsTrue, codes}
use Rattle.std.specs.List.{starts_with}
use Rattle.sim_text_tokens.specs.declared.kind.Kind.{Kind}
use Rattle.sim_text_tokens.specs.declared.kind.Kind.TheVariants as kind
use Rattle.sim_text_tokens.specs.Token.{Token}
use Rattle.sim_text_tokens.specs.declared.error.TextError.{TextError}
use Rattle.sim_text_tokens.specs.declared.error.TextError.TheVariants as error
use Rattle.sim_text_tokens.specs.declared.class.Class.{Class}
use Rattle.sim_text_tokens.specs.Pieces.{Text, is_piece, token_of}

-- a piece of a text
pub record Piece : Type 0 where
  pub class : Class
  pub bytes : Text

-- the concatenation of the pieces
abbrev pub joined : List Piece → Text
joined [] = []
joined (p ∷ ps) = p.bytes ++ joined ps

-- a word that is not reserved
abbrev pub is_name : Kind → Bool
is_name kind.Word = true
is_name _ = false

-- whether the last token is a name, after a piece that is this token or none
abbrev pub name_after : Bool → Option (Kind × Text) → Bool
name_after before None = before
name_after before (Some token) = is_name token.0

-- The piece may stand before the rest, and no longer piece may.
pub record IsLongest (after_name : Bool) (piece : Piece) (rest : Text) : Type 0 where
  pub stands : IsTrue (is_piece after_name piece.class piece.bytes)
  pub longest : (class : Class) (front beyond : Text) → front ++ beyond ≡ piece.bytes ++ rest → IsTrue (is_piece after_name class front)
      → length front ≤ length piece.bytes

-- No piece may stand at the front of the text.
abbrev pub NoneStands : Bool → Text → Type 0
NoneStands after_name text = (class : Class) (front beyond : Text) → front ++ beyond ≡ text → IsTrue (is_piece after_name class front) → ⊥

-- Each piece is the longest at its place; the rest follows them.
abbrev pub AreLongest : Bool → List Piece → Text → Type 0
AreLongest after_name [] rest = Unit {0}
AreLongest after_name (p ∷ ps) rest = IsLongest after_name p (joined ps ++ rest) × AreLongest (name_after after_name (token_of p.class p.bytes)) ps rest

-- whether the last token among the pieces is a name
abbrev pub ends_in_name : Bool → List Piece → Bool
ends_in_name before [] = before
ends_in_name before (p ∷ ps) = ends_in_name (name_after before (token_of p.class p.bytes)) ps

-- the tokens of a piece that begins at this place: one or none, with its start and end
abbrev pub placed : ℕ → ℕ → Option (Kind × Text) → List Token
placed start end None = []
placed start end (Some token) = record { kind = token.0; text = token.1; start = start; end = end } ∷ []

-- the tokens among the pieces, the first of which begins at this place
abbrev pub tokens_from : ℕ → List Piece → List Token
tokens_from at [] = []
tokens_from at (p ∷ ps) = placed at (at + length p.bytes) (token_of p.class p.bytes) ++ tokens_from (at + length p.bytes) ps

-- The text is these pieces, each the longest possible, followed by the rest.
pub record IsCut (text : Text) (pieces : List Piece) (rest : Text) : Type 0 where
  pub whole : joined pieces ++ rest ≡ text
  pub longest : AreLongest false pieces rest

-- The text is divided into its longest pieces, and these are the tokens among them.
pub record AreTokens (text : Text) (tokens : List Token) : Type 0 where
  pub pieces : List Piece
  pub cut : IsCut text pieces []
  pub tokens_are : tokens_from 0 pieces ≡ tokens

-- the fault where no piece may stand: an apostrophe that begins no literal, a `/*` that is not closed, or any other
-- byte
abbrev pub fault_at : ℕ → ℕ → Text → TextError
fault_at at byte rest = if byte == 39 then error.BadLiteral at else
    (if starts_with nat_eq (byte ∷ rest) (codes "/*") then error.OpenComment at else error.BadByte at)

-- A front of the text is divided into its longest pieces, and no piece may stand at the byte after it.
pub record IsLexicalFault (text : Text) (fault : TextError) : Type 0 where
  pub pieces : List Piece
  pub byte : ℕ
  pub rest : Text
  pub cut : IsCut text pieces (byte ∷ rest)
  pub none : NoneStands (ends_in_name false pieces) (byte ∷ rest)
  pub fault_is : fault ≡ fault_at (length (joined pieces)) byte rest

-- The tokens follow one another between two places, and none is empty.
abbrev pub AreInOrder : ℕ → List Token → ℕ → Type 0
AreInOrder from [] to = from ≤ to
AreInOrder from (t ∷ ts) to = (from ≤ t.start) × (t.start < t.end) × AreInOrder t.end ts to
