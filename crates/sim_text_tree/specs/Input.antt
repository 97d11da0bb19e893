-- The remaining tokens of a text, and the next of them.
use Rattle.std.specs.Prelude.{ℕ, List, [], ◌∷◌}
use Rattle.sim_text_tokens.specs.Token.{Token}
use Rattle.sim_text_tokens.specs.declared.kind.Kind.{Kind}
use Rattle.sim_text_tokens.specs.declared.kind.Kind.TheVariants as k

-- the remaining tokens
abbrev pub Input : Type 0
Input = List Token

-- the kind of the next token
unfoldable pub kind : Input → Kind
kind [] = k.EndOfText
kind (t ∷ ts) = t.kind

-- where the next token starts
unfoldable pub place : Input → ℕ
place [] = 0
place (t ∷ ts) = t.start

-- the tokens after the next one
unfoldable pub next : Input → Input
next [] = []
next (t ∷ ts) = ts
