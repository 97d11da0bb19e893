-- The value of a token in contracts (IEEE 1076-2008, 15.2).
use Rattle.std.specs.Prelude.{◌≡◌, ℕ, Bool, true, ◌||◌, ◌==◌, List}
use Rattle.std.specs.List.{list_all}
use Rattle.std.specs.Char.{is_ascii_digit, is_ascii_lowercase}
use Rattle.sim_text_tokens.specs.declared.kind.Kind.{Kind}
use Rattle.sim_text_tokens.specs.declared.kind.Kind.TheVariants as kind

-- its kind, its text, where it starts, and the place after its last byte
pub record Token : Type 0 where
  pub kind : Kind
  pub text : List ℕ
  pub start : ℕ
  pub end : ℕ

-- a lower-case letter, a digit or an underscore
abbrev pub is_word_byte : ℕ → Bool
is_word_byte b = (is_ascii_lowercase b || is_ascii_digit b) || b == 95

-- only lower-case letters, digits and underscores
unfoldable pub is_word : List ℕ → Bool
is_word text = list_all is_word_byte text

-- The text of a word token is a word.
abbrev pub HasWord : Kind → List ℕ → Type 0
HasWord k text = k ≡ kind.Word → is_word text ≡ true
