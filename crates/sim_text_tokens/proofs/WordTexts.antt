-- The text of a word token is a word: the letters of a piece are folded to lower case.
use Rattle.std.proofs.Common.{◌≡◌, ℕ, Bool, true, false, ◌&&◌, ◌||◌, not, List, [], ◌∷◌, map, filter, take, drop, Option, Some, None}
use Rattle.std.proofs.Common.{refl, ap, ◌==◌, arith}
use Rattle.std.proofs.lemmas.Bool.Decides.{nat_tests}
use Rattle.std.specs.List.{list_all}
use Rattle.std.specs.Char.{is_ascii_alphabetic, is_ascii_alphanumeric, to_ascii_lowercase}
use Rattle.sim_text_tokens.specs.declared.kind.Kind.{Kind}
use Rattle.sim_text_tokens.specs.declared.kind.Kind.TheVariants as k
use Rattle.sim_text_tokens.specs.declared.class.Class.{Class}
use Rattle.sim_text_tokens.specs.declared.class.Class.TheVariants as class
use Rattle.sim_text_tokens.specs.Pieces.{Text, is_tail, is_piece, kind_in, delimiters, reserved_words, word_token, delimiter_token, token_of}
use Rattle.sim_text_tokens.specs.Token.{is_word_byte, is_word, HasWord}

-- a letter or a digit is folded to a byte of a word
letter : (b : ℕ) → is_ascii_alphanumeric b ≡ true → is_word_byte (to_ascii_lowercase b) ≡ true
letter b e = grind (arith, nat_tests)

both : (a b : Bool) → a && b ≡ true → (a ≡ true) × (b ≡ true)
both true b e = (refl, e)
both false b e = absurd cc

either : {P : Type 0} (a b : Bool) → a || b ≡ true → (a ≡ true → P) → (b ≡ true → P) → P
either true b e f g = f refl
either false b e f g = g e

all_with : (b : ℕ) (bs : List ℕ) → is_word_byte b ≡ true → list_all is_word_byte bs ≡ true → list_all is_word_byte (b ∷ bs) ≡ true
all_with b bs e f = rw (e, f) refl

underscore : (b : ℕ) → b == 95 ≡ true → is_word_byte (to_ascii_lowercase b) ≡ true
underscore b e = grind (arith, nat_tests)

-- letters and digits, with underscores between them, are folded to a word
tail_folded : (bs : Text) → is_tail is_ascii_alphanumeric bs ≡ true → list_all is_word_byte (map to_ascii_lowercase bs) ≡ true
tail_folded [] e = refl
tail_folded (b ∷ []) e = all_with (to_ascii_lowercase b) [] (letter b e) refl
tail_folded (b ∷ d ∷ bs) e = either (is_ascii_alphanumeric b && is_tail is_ascii_alphanumeric (d ∷ bs)) _ e
    (λ h. let p = both (is_ascii_alphanumeric b) _ h in all_with (to_ascii_lowercase b) (map to_ascii_lowercase (d ∷ bs)) (letter b p.0)
    (tail_folded (d ∷ bs) p.1))
    (λ h.
    let p = both (b == 95) _ h in
    let q = both (is_ascii_alphanumeric d) _ p.1 in
    all_with (to_ascii_lowercase b) (map to_ascii_lowercase (d ∷ bs)) (underscore b p.0)
    (all_with (to_ascii_lowercase d) (map to_ascii_lowercase bs) (letter d q.0) (tail_folded bs q.1)))

alphabetic : (b : ℕ) → is_ascii_alphabetic b ≡ true → is_ascii_alphanumeric b ≡ true
alphabetic b e = grind (arith, nat_tests)

word_folded : (after_name : Bool) (bytes : Text) → is_piece after_name class.Word bytes ≡ true → is_word (map to_ascii_lowercase bytes) ≡ true
unfolding is_word
word_folded after_name [] e = refl
word_folded after_name (b ∷ bs) e = let p = both (is_ascii_alphabetic b) _ e in
    all_with (to_ascii_lowercase b) (map to_ascii_lowercase bs) (letter b (alphabetic b p.0)) (tail_folded bs p.1)

word_token_text : (o : Option Kind) (word : Text) → is_word word ≡ true → is_word (word_token o word).1 ≡ true
unfolding is_word
word_token_text None word e = e
word_token_text (Some reserved) word e = refl

-- a kind and a text
abbrev pair : Kind → Text → Kind × Text
pair kind text = (kind, text)

delimiter_text : (o : Option Kind) (kind : Kind) (text : Text) → delimiter_token o ≡ Some (kind, text) → is_word text ≡ true
unfolding is_word
delimiter_text None kind text e = absurd cc
delimiter_text (Some found) kind text e = let both_are : pair found [] ≡ pair kind text = cc in rw (← ap (λ (p : Kind × Text). p.1) both_are) refl

kinds_are : (a : Kind) (x : Text) (b : Kind) (y : Text) → Some (pair a x) ≡ Some (pair b y) → a ≡ b
kinds_are a x b y e = let both_are : pair a x ≡ pair b y = cc in ap (λ (p : Kind × Text). p.0) both_are

-- if the token of a piece is a word, its text is one
pub has_word : (after_name : Bool) (c : Class) (bytes : Text) (kind : Kind) (text : Text) → is_piece after_name c bytes ≡ true
    → token_of c bytes ≡ Some (kind, text) → HasWord kind text
has_word after_name class.Word bytes kind text p e h =
    let folded = map to_ascii_lowercase bytes in
    let found = word_token (kind_in reserved_words folded) folded in
    let both_are : found ≡ pair kind text = cc in
    rw (← ap (λ (p : Kind × Text). p.1) both_are) (word_token_text (kind_in reserved_words folded) folded (word_folded after_name bytes p))
has_word after_name class.Delimiter bytes kind text p e h = delimiter_text (kind_in delimiters bytes) kind text e
has_word after_name class.Tick bytes kind text p e h = let t : k.Tick ≡ kind = kinds_are k.Tick [] kind text e in absurd cc
has_word after_name class.Literal bytes kind text p e h = let t : k.Literal ≡ kind = kinds_are k.Literal (take 1 (drop 1 bytes)) kind text e in absurd cc
has_word after_name class.Number bytes kind text p e h =
    let t : k.Number ≡ kind = kinds_are k.Number (filter (λ b. not (b == 95)) bytes) kind text e in
    absurd cc
has_word after_name class.Separator bytes kind text p e h = absurd cc
has_word after_name class.Comment bytes kind text p e h = absurd cc
