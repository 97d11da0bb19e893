-- Words keep the texts of words while a cursor moves on.
use Rattle.std.proofs.Common.{◌≡◌, suc, ◌-◌, ◌≤◌, ◌<◌, List, [], ◌∷◌, length, get_or, take, drop, subst, sym, arith}
use Rattle.std.proofs.Math.Seq.{take-length}
use Rattle.std.proofs.lemmas.List.{length-map, get_or-map}
use Rattle.std.proofs.lemmas.List.Elements.{All-get_or, All-tail}
use Rattle.sim_text_tokens.specs.Token.{Token, HasWord}
use Rattle.sim_text_tokens.specs.Lexemes.{Lexeme, token_at, tokens_at}
use Rattle.sim_text_tokens.specs.Pieces.{Text}
use Rattle.sim_text_reader.specs.Cursors.{AreSpelled}

-- the first token
pub first_spelled : (text : Text) (lexemes : List Lexeme) (l : Lexeme) → 1 ≤ length lexemes → l ≡ get_or lexemes 0 l
    → AreSpelled (tokens_at text lexemes) → HasWord l.kind (token_at text l).text
first_spelled text lexemes l filled is all =
    let inside : 0 < length (tokens_at text lexemes) = rw (length-map lexemes (token_at text)) (omega (arith, filled)) in
    let first = All-get_or (λ t. HasWord t.kind t.text) (tokens_at text lexemes) 0 (token_at text l) inside all in
    let here = subst (λ (t : Token). HasWord t.kind t.text) (get_or-map (token_at text) lexemes 0 l (token_at text l) (omega (arith, filled))) first in
    subst (λ (x : Lexeme). HasWord x.kind (token_at text x).text) (sym is) here

-- the tokens after the first
pub rest_spelled : (text : Text) (lexemes : List Lexeme) → 1 ≤ length lexemes → AreSpelled (tokens_at text lexemes)
    → AreSpelled (tokens_at text (take (length lexemes - 1) (drop 1 lexemes)))
rest_spelled text [] filled all = absurd (omega (arith, filled))
rest_spelled text (l ∷ lexemes) filled all =
    let n : suc (length lexemes) - 1 ≡ length lexemes = omega arith in
    rw (n, take-length lexemes) (All-tail (λ t. HasWord t.kind t.text) (token_at text l) (tokens_at text lexemes) all)
