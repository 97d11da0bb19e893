-- Tokens by their places are those of the text, and each word among them has the text of a word.
use Rattle.std.proofs.Common.{◌≡◌, ℕ, ◌+◌, ◌-◌, ◌≤◌, ◌<◌, get_or, Bool, true, false, ◌&&◌, not, List, [], ◌∷◌, ◌++◌, length, take, drop, map}
use Rattle.std.proofs.Common.{Option, option_map, Some, None, refl, sym}
use Rattle.std.proofs.Common.{ap, subst, ◌∙◌, arith}
use Rattle.std.specs.List.{All, list_all}
use Rattle.std.specs.Char.{to_ascii_lowercase}
use Rattle.std.proofs.lemmas.List.{map-append, length-map, get_or-map}
use Rattle.std.proofs.lemmas.List.Elements.{All-nil, All-cons, All-get_or}
use Rattle.std.proofs.Math.Seq.{drop-append_seam}
use Rattle.sim_text_tokens.specs.declared.class.Class.{Class}
use Rattle.sim_text_tokens.specs.declared.class.Class.TheVariants as class
use Rattle.sim_text_tokens.specs.declared.kind.Kind.{Kind}
use Rattle.sim_text_tokens.specs.declared.kind.Kind.TheVariants as kind
use Rattle.sim_text_tokens.specs.Token.{Token, HasWord}
use Rattle.sim_text_tokens.specs.Lexemes.{Lexeme, is_number, is_literal, text_kept, kind_of, between, token_at, tokens_at}
use Rattle.sim_text_tokens.specs.Pieces.{Text, token_of, kind_in, delimiters, reserved_words, word_token, delimiter_token}
use Rattle.sim_text_tokens.specs.Cutting.{Piece, is_name, joined, name_after, AreLongest, placed, tokens_from, AreTokens}
use Rattle.sim_text_tokens.proofs.Tests.{and_both, kind_passes}
use Rattle.sim_text_tokens.proofs.WordTexts.{has_word}
use Rattle.sim_text_tokens.specs.Scan.{piece_at}
use Rattle.sim_text_tokens.proofs.Cuts.{SoFar}
use Rattle.sim_text_tokens.proofs.Turns.{first_byte, after_first, turn_none, turn_some}

-- kinds whose tokens keep no text
keeps_none : Kind → Bool
keeps_none k = not (is_name k) && (not (is_number k) && not (is_literal k))

is_false : (b : Bool) → not b ≡ true → b ≡ false
is_false true h = absurd cc
is_false false h = refl

none_kept : (k : Kind) (bytes : Text) → keeps_none k ≡ true → text_kept k bytes ≡ []
unfolding keeps_none
none_kept k bytes h =
    let name = and_both (not (is_name k)) (not (is_number k) && not (is_literal k)) h in
    let other = and_both (not (is_number k)) (not (is_literal k)) name.1 in
    rw (is_false (is_name k) name.0, is_false (is_number k) other.0, is_false (is_literal k) other.1) refl

reserved_keep_none : list_all (λ (e : Text × Kind). keeps_none e.1) reserved_words ≡ true
unfolding keeps_none reserved_words
reserved_keep_none = refl

delimiters_keep_none : list_all (λ (e : Text × Kind). keeps_none e.1) delimiters ≡ true
unfolding keeps_none delimiters
delimiters_keep_none = refl

-- a kind and a text
abbrev pair : Kind → Text → Kind × Text
pair k text = (k, text)

word_kept : (o : Option Kind) (bytes : Text) → ((k : Kind) → o ≡ Some k → keeps_none k ≡ true)
    → text_kept (word_token o (map to_ascii_lowercase bytes)).0 bytes ≡ (word_token o (map to_ascii_lowercase bytes)).1
word_kept None bytes h = refl
word_kept (Some k) bytes h = none_kept k bytes (h k refl)

delimiter_kept : (o : Option Kind) (bytes : Text) (k : Kind) (x : Text) → ((r : Kind) → o ≡ Some r → keeps_none r ≡ true)
    → delimiter_token o ≡ Some (pair k x) → text_kept k bytes ≡ x
delimiter_kept None bytes k x h e = absurd cc
delimiter_kept (Some r) bytes k x h e =
    let same : pair r [] ≡ pair k x = cc in
    subst (λ (p : Kind × Text). text_kept p.0 bytes ≡ p.1) same (none_kept r bytes (h r refl))

-- the text of a piece's token is what its kind keeps
pub text_is_kept : (c : Class) (bytes : Text) (k : Kind) (x : Text) → token_of c bytes ≡ Some (pair k x) → text_kept k bytes ≡ x
text_is_kept class.Separator bytes k x e = absurd cc
text_is_kept class.Comment bytes k x e = absurd cc
text_is_kept class.Word bytes k x e =
    let folded = map to_ascii_lowercase bytes in
    let same : word_token (kind_in reserved_words folded) folded ≡ pair k x = cc in
    subst (λ (p : Kind × Text). text_kept p.0 bytes ≡ p.1) same
    (word_kept (kind_in reserved_words folded) bytes (λ r h. kind_passes keeps_none reserved_words folded r reserved_keep_none h))
text_is_kept class.Number bytes k x e =
    let same : pair kind.Number (text_kept kind.Number bytes) ≡ pair k x = cc in
    subst (λ (p : Kind × Text). text_kept p.0 bytes ≡ p.1) same refl
text_is_kept class.Literal bytes k x e =
    let same : pair kind.Literal (text_kept kind.Literal bytes) ≡ pair k x = cc in
    subst (λ (p : Kind × Text). text_kept p.0 bytes ≡ p.1) same refl
text_is_kept class.Tick bytes k x e =
    let same : pair kind.Tick [] ≡ pair k x = cc in
    subst (λ (p : Kind × Text). text_kept p.0 bytes ≡ p.1) same refl
text_is_kept class.Delimiter bytes k x e =
    delimiter_kept (kind_in delimiters bytes) bytes k x (λ r h. kind_passes keeps_none delimiters bytes r delimiters_keep_none h) e

placed_words : (start end : ℕ) (o : Option (Kind × Text)) (ts : List Token) → ((k : Kind) (x : Text) → o ≡ Some (pair k x) → HasWord k x)
    → All (λ t. HasWord t.kind t.text) ts → All (λ t. HasWord t.kind t.text) (placed start end o ++ ts)
placed_words start end None ts h all = all
placed_words start end (Some token) ts h all = All-cons (λ t. HasWord t.kind t.text) _ ts (h token.0 token.1 refl) all

words_from : (after_name : Bool) (at : ℕ) (ps : List Piece) (rest : Text) → AreLongest after_name ps rest
    → All (λ t. HasWord t.kind t.text) (tokens_from at ps)
words_from after_name at [] rest h = All-nil (λ t. HasWord t.kind t.text)
words_from after_name at (p ∷ ps) rest h =
    placed_words at (at + length p.bytes) (token_of p.class p.bytes) (tokens_from (at + length p.bytes) ps)
    (λ k x e. has_word after_name p.class p.bytes k x h.0.stands e)
    (words_from (name_after after_name (token_of p.class p.bytes)) (at + length p.bytes) ps rest h.1)

-- the words among the tokens of a text
pub words_of : (text : Text) (tokens : List Token) → AreTokens text tokens → All (λ t. HasWord t.kind t.text) tokens
words_of text tokens x = subst (All (λ t. HasWord t.kind t.text)) x.tokens_are (words_from false 0 x.pieces [] x.cut.longest)

-- the word among the tokens of a text at this place
pub word_at : (text : Text) (lexemes : List Lexeme) (i : ℕ) (l : Lexeme) → AreTokens text (tokens_at text lexemes) → i < length lexemes
    → HasWord (get_or lexemes i l).kind (token_at text (get_or lexemes i l)).text
word_at text lexemes i l are h =
    let inside : i < length (tokens_at text lexemes) = rw (length-map lexemes (token_at text)) h in
    let word = All-get_or (λ t. HasWord t.kind t.text) (tokens_at text lexemes) i (token_at text l) inside (words_of text (tokens_at text lexemes) are) in
    subst (λ (t : Token). HasWord t.kind t.text) (get_or-map (token_at text) lexemes i l (token_at text l) h) word

kind_some : (o : Option (Kind × Text)) (k : Kind) → option_map (λ token. token.0) o ≡ Some k → (x : Text) × (o ≡ Some (pair k x))
kind_some None k e = absurd cc
kind_some (Some token) k e = let same : token.0 ≡ k = cc in (token.1, λ i. Some (pair (same i) token.1))

kind_none : (o : Option (Kind × Text)) → option_map (λ token. token.0) o ≡ None → o ≡ None
kind_none None e = refl
kind_none (Some token) e = absurd cc

-- One iteration of the lexer's loop, which leaves the places of the tokens so far.
module _ (source : Text) (before : List Lexeme) (after_name : Bool) (at : ℕ) (text : Text)
    (so_far : SoFar source (tokens_at source before) after_name at text) (filled : 1 ≤ length text) where
  -- the bytes that follow where the division ends
  piece_there : (n : ℕ) → between source at (at + n) ≡ take n text
  piece_there n =
      let here : drop at source ≡ text = rw (← so_far.place_is, ← so_far.cut.whole) (drop-append_seam (joined so_far.pieces) text) in
      let len : at + n - at ≡ n = omega arith in
      rw (here, len) refl

  -- the token at the place of the next piece
  token_there : (c : Class) (n : ℕ) (k : Kind) (x : Text) → token_of c (take n text) ≡ Some (pair k x)
      → token_at source (record { kind = k; start = at; end = at + n }) ≡ record { kind = k; text = x; start = at; end = at + n }
  token_there c n k x e =
      let kept : text_kept k (between source at (at + n)) ≡ x = rw (piece_there n) (text_is_kept c (take n text) k x e) in
      λ i. record { kind = k; text = kept i; start = at; end = at + n }

  pub next_none : (c : Class) (n : ℕ) (front rest : Text) (found : Option Kind) → Some (c, n) ≡ piece_at after_name (first_byte text) (after_first text)
      → front ≡ take n text → rest ≡ drop n text → found ≡ kind_of c front → found ≡ None → SoFar source (tokens_at source before) after_name (at + n) rest
  next_none c n front rest found e f r t none =
      turn_none source (tokens_at source before) after_name at text so_far filled c n front rest (token_of c front) e f r refl
      (kind_none (token_of c front) (sym t ∙ none))

  pub next_lexeme : (c : Class) (n : ℕ) (front rest : Text) (found : Option Kind) → Some (c, n) ≡ piece_at after_name (first_byte text) (after_first text)
      → front ≡ take n text → rest ≡ drop n text → found ≡ kind_of c front → (k : Kind) → found ≡ Some k → (new : List Lexeme)
      → new ≡ before ++ record { kind = k; start = at; end = at + n } ∷ [] → (name : Bool) → name ≡ is_name k
      → SoFar source (tokens_at source new) name (at + n) rest
  next_lexeme c n front rest found e f r t k some new pushed name named =
      let token = kind_some (token_of c front) k (sym t ∙ some) in
      let here : token_of c (take n text) ≡ Some (pair k token.0) = ap (token_of c) (sym f) ∙ token.1 in
      let l : Lexeme = record { kind = k; start = at; end = at + n } in
      let more : tokens_at source new ≡ tokens_at source before ++ record { kind = k; text = token.0; start = at; end = at + n } ∷ [] =
      rw (pushed, map-append (token_at source) before (l ∷ []), token_there c n k token.0 here) refl in
      turn_some source (tokens_at source before) after_name at text so_far filled c n front rest (token_of c front) e f r refl k token.0 token.1
      (tokens_at source new) more name named
