-- One iteration of the lexer's loop.
use Rattle.std.proofs.Common.{◌≡◌, ℕ, suc, ◌+◌, ◌-◌, ◌≤◌, ◌<◌, Bool, List, [], ◌∷◌, ◌++◌, length, get_or, take, drop, Option, Some, None, sym}
use Rattle.std.proofs.Common.{ap, subst, ◌∙◌, arith}
use Rattle.std.proofs.Math.Seq.{take-length}
use Rattle.std.proofs.lemmas.List.{take-append-drop, length-take-le, append-nil}
use Rattle.sim_text_tokens.specs.declared.class.Class.{Class}
use Rattle.sim_text_tokens.specs.declared.kind.Kind.{Kind}
use Rattle.sim_text_tokens.specs.Token.{Token}
use Rattle.sim_text_tokens.specs.declared.error.TextError.{TextError}
use Rattle.sim_text_tokens.specs.Pieces.{Text, token_of}
use Rattle.sim_text_tokens.specs.Cutting.{is_name, name_after, IsLongest, placed, IsLexicalFault, fault_at}
use Rattle.sim_text_tokens.specs.Scan.{Extent, piece_at}
use Rattle.sim_text_tokens.proofs.Cuts.{SoFar, extent_inside, longest_at, none_at, one_more}

-- the first byte of a text, and the bytes after it
abbrev pub first_byte : Text → ℕ
first_byte text = get_or text 0 0

abbrev pub after_first : Text → Text
after_first text = take (length text - 1) (drop 1 text)

first_and_rest : (text : Text) → 1 ≤ length text → first_byte text ∷ after_first text ≡ text
first_and_rest [] h = absurd (omega arith)
first_and_rest (x ∷ text) h =
    let n : suc (length text) - 1 ≡ length text = omega arith in
    ap (λ t. x ∷ t) (rw n (take-length text))

module _ (source : Text) (tokens : List Token) (after_name : Bool) (at : ℕ) (text : Text) (so_far : SoFar source tokens after_name at text)
    (filled : 1 ≤ length text) where
  pub fault_here : (found : Option Extent) (fault : TextError) → found ≡ piece_at after_name (first_byte text) (after_first text) → found ≡ None
      → fault ≡ fault_at at (first_byte text) (after_first text) → IsLexicalFault source fault
  fault_here found fault e none f =
      let whole = first_and_rest text filled in
      record {
        pieces = so_far.pieces;
        byte = first_byte text;
        rest = after_first text;
        cut = rw whole so_far.cut;
        none = rw so_far.name_is (none_at after_name (first_byte text) (after_first text) (sym e ∙ none));
        fault_is = f ∙ ap (λ x. fault_at x (first_byte text) (after_first text)) (sym so_far.place_is);
      }

  pub moves : (c : Class) (n : ℕ) → Some (c, n) ≡ piece_at after_name (first_byte text) (after_first text) → 0 < n
  moves c n e = (extent_inside after_name (first_byte text) (after_first text) (c, n) (sym e)).0

  turn : (c : Class) (n : ℕ) → Some (c, n) ≡ piece_at after_name (first_byte text) (after_first text) →
      SoFar source (tokens ++ placed at (at + n) (token_of c (take n text))) (name_after after_name (token_of c (take n text))) (at + n) (drop n text)
  turn c n e =
      let whole = first_and_rest text filled in
      let inside = (extent_inside after_name (first_byte text) (after_first text) (c, n) (sym e)).1 in
      let within : n ≤ length text = omega (arith, ap length whole) in
      let longest : IsLongest after_name (record { class = c; bytes = take n text }) (drop n text) =
      subst (λ (t : Text). IsLongest after_name (record { class = c; bytes = take n t }) (drop n t)) whole
      (longest_at after_name (first_byte text) (after_first text) c n (sym e)) in
      let next = one_more (record { class = c; bytes = take n text }) (drop n text) so_far (take-append-drop n text) longest in
      let len_is : length (take n text) ≡ n = length-take-le n text within in
      rw len_is at next

  pub turn_none : (c : Class) (n : ℕ) (front rest : Text) (token : Option (Kind × Text))
      → Some (c, n) ≡ piece_at after_name (first_byte text) (after_first text) →
      front ≡ take n text → rest ≡ drop n text → token ≡ token_of c front → token ≡ None → SoFar source tokens after_name (at + n) rest
  turn_none c n front rest token e f r t none =
      let no_token : token_of c (take n text) ≡ None = ap (token_of c) (sym f) ∙ sym t ∙ none in
      let next = rw no_token at (turn c n e) in
      rw r (subst (λ (ts : List Token). SoFar source ts after_name (at + n) (drop n text)) (append-nil tokens) next)

  pub turn_some : (c : Class) (n : ℕ) (front rest : Text) (token : Option (Kind × Text))
      → Some (c, n) ≡ piece_at after_name (first_byte text) (after_first text) →
      front ≡ take n text → rest ≡ drop n text → token ≡ token_of c front → (k : Kind) (x : Text) → token ≡ Some (k, x) → (new : List Token) → new ≡
      tokens ++ record { kind = k; text = x; start = at; end = at + n } ∷ [] →
      (name : Bool) → name ≡ is_name k → SoFar source new name (at + n) rest
  turn_some c n front rest token e f r t k x some new pushed name named =
      let the_token : token_of c (take n text) ≡ Some (k, x) = ap (token_of c) (sym f) ∙ sym t ∙ some in
      let next = rw the_token at (turn c n e) in
      rw (r, pushed, named) next
