-- Tokens by their places in a text. proofs/ shows that they are those of the text.
-- Implementation only: what `simulate` promises does not rest on this file.
use Rattle.std.specs.Prelude.{ℕ, ◌-◌, Bool, true, false, not, ◌==◌, if◌then◌else◌, List, [], take, drop, map, filter, Option, option_map}
use Rattle.std.specs.Char.{to_ascii_lowercase}
use Rattle.sim_text_tokens.specs.declared.kind.Kind.{Kind}
use Rattle.sim_text_tokens.specs.declared.kind.Kind.TheVariants as kind
use Rattle.sim_text_tokens.specs.Token.{Token}
use Rattle.sim_text_tokens.specs.declared.class.Class.{Class}
use Rattle.sim_text_tokens.specs.Pieces.{Text, token_of}
use Rattle.sim_text_tokens.specs.Cutting.{is_name}

-- a kind, where a token starts, and the place after its last byte
pub record Lexeme : Type 0 where
  pub kind : Kind
  pub start : ℕ
  pub end : ℕ

abbrev pub is_number : Kind → Bool
is_number kind.Number = true
is_number _ = false

abbrev pub is_literal : Kind → Bool
is_literal kind.Literal = true
is_literal _ = false

-- what a token of this kind keeps of its bytes
abbrev pub text_kept : Kind → Text → Text
text_kept k bytes =
    if is_name k then map to_ascii_lowercase bytes else
    (if is_number k then filter (λ b. not (b == 95)) bytes else
    (if is_literal k then take 1 (drop 1 bytes) else []))

-- the kind of the token that a piece is; none for a separator or a comment
abbrev pub kind_of : Class → Text → Option Kind
kind_of class bytes = option_map (λ token. token.0) (token_of class bytes)

-- the bytes from one place to before another
abbrev pub between : Text → ℕ → ℕ → Text
between text start end = take (end - start) (drop start text)

-- the token at a place of a text
abbrev pub token_at : Text → Lexeme → Token
token_at text l = record { kind = l.kind; text = text_kept l.kind (between text l.start l.end); start = l.start; end = l.end }

abbrev pub tokens_at : Text → List Lexeme → List Token
tokens_at text lexemes = map (token_at text) lexemes
