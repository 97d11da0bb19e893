-- The text of a name is ASCII, hence valid UTF-8.
use Rattle.std.proofs.Common.{◌≡◌, ℕ, zero, suc, ◌<◌, Bool, true, false, ◌&&◌, List, [], ◌∷◌, slice_index, refl, arith}
use Rattle.std.proofs.lemmas.Bool.Decides.{nat_tests}
use Rattle.std.proofs.lemmas.Str.{IsUtf8-from_ascii}
use Rattle.std.specs.List.{list_all}
use Rattle.std.specs.Str.{IsUtf8}
use Rattle.sim_text_tokens.specs.Token.{is_word_byte, is_word}

both : (a b : Bool) → a && b ≡ true → (a ≡ true) × (b ≡ true)
both true b e = (refl, e)
both false b e = absurd cc

small : (b : ℕ) → is_word_byte b ≡ true → b < 128
small b e = grind (arith, nat_tests)

word_is_ascii : (text : List ℕ) → list_all is_word_byte text ≡ true → (i : ℕ) → slice_index text i < 128
word_is_ascii [] e i = omega arith
word_is_ascii (b ∷ text) e zero = let p = both (is_word_byte b) (list_all is_word_byte text) e in small b p.0
word_is_ascii (b ∷ text) e (suc i) = let p = both (is_word_byte b) (list_all is_word_byte text) e in word_is_ascii text p.1 i

pub word_is_utf8 : (text : List ℕ) → is_word text ≡ true → IsUtf8 text
unfolding is_word
word_is_utf8 text e = IsUtf8-from_ascii text (λ i. word_is_ascii text e i)
