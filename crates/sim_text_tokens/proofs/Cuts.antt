-- A division continues with the longest piece at its end, and a text has only one division.
use Rattle.std.proofs.Common.{◌≡◌, ℕ, suc, ◌+◌, ◌≤◌, ◌<◌, Bool, true, false, List, [], ◌∷◌, ◌++◌, length, take, drop, Option, Some, None, refl, sym}
use Rattle.std.proofs.Common.{ap, subst, ◌∙◌, arith, append_assoc, add-zero, zero-add, length-append}
use Rattle.std.proofs.lemmas.List.{take-append-drop, length-take-le, append-nil}
use Rattle.sim_text_tokens.specs.declared.class.Class.{Class}
use Rattle.sim_text_tokens.specs.Token.{Token}
use Rattle.sim_text_tokens.specs.declared.error.TextError.{TextError}
use Rattle.sim_text_tokens.specs.Pieces.{Text, is_piece, token_of}
use Rattle.sim_text_tokens.specs.Cutting.{Piece, joined, name_after, IsLongest, NoneStands, AreLongest, ends_in_name, placed, tokens_from, IsCut, AreTokens}
use Rattle.sim_text_tokens.specs.Cutting.{IsLexicalFault, fault_at}
use Rattle.sim_text_tokens.specs.Scan.{Extent, piece_at}
use Rattle.sim_text_tokens.proofs.Classes.{one_class, not_empty}
use Rattle.sim_text_tokens.proofs.Longest.{IsBest, best_piece}

best_of : (after_name : Bool) (first : ℕ) (rest : Text) (o : Option Extent) → piece_at after_name first rest ≡ o → IsBest after_name first rest o
best_of after_name first rest o e = rw (← e) (best_piece after_name first rest)

pub extent_inside : (after_name : Bool) (first : ℕ) (rest : Text) (e : Extent) → piece_at after_name first rest ≡ Some e → (0 < e.1) × (e.1 ≤ suc (length rest))
extent_inside after_name first rest e h = let b = best_of after_name first rest (Some e) h in (b.0, b.1)

front_at_most : (after_name : Bool) (first : ℕ) (rest : Text) (n : ℕ)
    → ((c : Class) (front beyond : Text) → front ++ beyond ≡ rest → is_piece after_name c (first ∷ front) ≡ true → suc (length front) ≤ n)
    → (c : Class) (front beyond : Text) → front ++ beyond ≡ first ∷ rest → is_piece after_name c front ≡ true → length front ≤ n
front_at_most after_name first rest n most c [] beyond e p = omega arith
front_at_most after_name first rest n most c (x ∷ front) beyond e p =
    let same : x ≡ first = cc in
    let onward : front ++ beyond ≡ rest = cc in
    most c front beyond onward (rw same at p)

-- the piece that a scan finds is the longest
pub longest_at : (after_name : Bool) (first : ℕ) (rest : Text) (c : Class) (n : ℕ) → piece_at after_name first rest ≡ Some (c, n)
    → IsLongest after_name (record { class = c; bytes = take n (first ∷ rest) }) (drop n (first ∷ rest))
longest_at after_name first rest c n h =
    let b = best_of after_name first rest (Some (c, n)) h in
    record {
      stands = b.2;
      longest = λ d front beyond e p. rw (length-take-le n (first ∷ rest) b.1)
          (front_at_most after_name first rest n b.3 d front beyond (e ∙ take-append-drop n (first ∷ rest)) p);
    }

-- where the scan finds no piece, none may stand
pub none_at : (after_name : Bool) (first : ℕ) (rest : Text) → piece_at after_name first rest ≡ None → NoneStands after_name (first ∷ rest)
none_at after_name first rest h c [] beyond e p = not_empty after_name c p
none_at after_name first rest h c (x ∷ front) beyond e p =
    let b = best_of after_name first rest None h in
    let same : x ≡ first = cc in
    let onward : front ++ beyond ≡ rest = cc in
    b c front beyond onward (rw same at p)

pub none_at_end : (after_name : Bool) → NoneStands after_name []
none_at_end after_name c [] beyond e p = not_empty after_name c p
none_at_end after_name c (x ∷ front) beyond e p = absurd cc

joined_more : (ps : List Piece) (p : Piece) → joined (ps ++ p ∷ []) ≡ joined ps ++ p.bytes
joined_more [] p = append-nil p.bytes
joined_more (q ∷ ps) p = ap (λ x. q.bytes ++ x) (joined_more ps p) ∙ sym (append_assoc q.bytes (joined ps) p.bytes)

longest_more : (after_name : Bool) (ps : List Piece) (p : Piece) (rest : Text) → AreLongest after_name ps (p.bytes ++ rest)
    → IsLongest (ends_in_name after_name ps) p rest → AreLongest after_name (ps ++ p ∷ []) rest
longest_more after_name [] p rest all last = (last, tt)
longest_more after_name (q ∷ ps) p rest all last =
    let after : joined (ps ++ p ∷ []) ++ rest ≡ joined ps ++ (p.bytes ++ rest) = ap (λ x. x ++ rest) (joined_more ps p) ∙ append_assoc (joined ps)
    p.bytes rest in
    (rw after all.0, longest_more (name_after after_name (token_of q.class q.bytes)) ps p rest all.1 last)

name_more : (after_name : Bool) (ps : List Piece) (p : Piece)
    → ends_in_name after_name (ps ++ p ∷ []) ≡ name_after (ends_in_name after_name ps) (token_of p.class p.bytes)
name_more after_name [] p = refl
name_more after_name (q ∷ ps) p = name_more (name_after after_name (token_of q.class q.bytes)) ps p

tokens_more : (at : ℕ) (ps : List Piece) (p : Piece)
    → tokens_from at (ps ++ p ∷ []) ≡ tokens_from at ps ++ placed (at + length (joined ps)) (at + length (joined ps) + length p.bytes)
    (token_of p.class p.bytes)
tokens_more at [] p = rw (add-zero at) (append-nil _)
tokens_more at (q ∷ ps) p =
    let where_it_is : at + length q.bytes + length (joined ps) ≡ at + length (q.bytes ++ joined ps) = omega (arith, length-append q.bytes (joined ps)) in
    rw (← where_it_is) (ap (λ x. placed at (at + length q.bytes) (token_of q.class q.bytes) ++ x) (tokens_more (at + length q.bytes) ps p) ∙ sym
    (append_assoc (placed at (at + length q.bytes) (token_of q.class q.bytes)) (tokens_from (at + length q.bytes) ps) _))

-- A front of the text is divided into pieces with these tokens; it ends at this place, and the rest is left.
pub record SoFar (source : Text) (tokens : List Token) (after_name : Bool) (at : ℕ) (rest : Text) : Type 0 where
  pub pieces : List Piece
  pub cut : IsCut source pieces rest
  pub tokens_are : tokens_from 0 pieces ≡ tokens
  pub name_is : ends_in_name false pieces ≡ after_name
  pub place_is : length (joined pieces) ≡ at

pub none_yet : (source : Text) → SoFar source [] false 0 source
none_yet source = record { pieces = []; cut = record { whole = refl; longest = tt }; tokens_are = refl; name_is = refl; place_is = refl }

pub place_inside : {source : Text} {tokens : List Token} {after_name : Bool} {at : ℕ} {rest : Text} → SoFar source tokens after_name at rest
    → at + length rest ≡ length source
place_inside {rest = rest} s = omega (arith, length-append (joined s.pieces) rest, ap length s.cut.whole, s.place_is)

-- one more piece
pub one_more : {source : Text} {tokens : List Token} {after_name : Bool} {at : ℕ} {rest : Text} (p : Piece) (after : Text)
    → SoFar source tokens after_name at rest → p.bytes ++ after ≡ rest → IsLongest after_name p after →
    SoFar source (tokens ++ placed at (at + length p.bytes) (token_of p.class p.bytes)) (name_after after_name (token_of p.class p.bytes))
    (at + length p.bytes) after
one_more {source} {tokens} {after_name} {at} {rest} p after s e last =
    let all : AreLongest false s.pieces (p.bytes ++ after) = rw e s.cut.longest in
    let here : IsLongest (ends_in_name false s.pieces) p after = rw s.name_is last in
    record {
      pieces = s.pieces ++ p ∷ [];
      cut = record {
        whole = ap (λ x. x ++ after) (joined_more s.pieces p) ∙ append_assoc (joined s.pieces) p.bytes after ∙ ap (λ x. joined s.pieces ++ x) e ∙ s.cut.whole;
        longest = longest_more false s.pieces p after all here;
      };
      tokens_are = tokens_more 0 s.pieces p ∙ rw (s.tokens_are, zero-add (length (joined s.pieces)), s.place_is) refl;
      name_is = name_more false s.pieces p ∙ rw s.name_is refl;
      place_is = omega (arith, ap length (joined_more s.pieces p), length-append (joined s.pieces) p.bytes, s.place_is);
    }

append_same : (a b x y : Text) → length a ≡ length b → a ++ x ≡ b ++ y → (a ≡ b) × (x ≡ y)
append_same [] [] x y n e = (refl, e)
append_same [] (d ∷ b) x y n e = absurd cc
append_same (c ∷ a) [] x y n e = absurd cc
append_same (c ∷ a) (d ∷ b) x y n e =
    let ih = append_same a b x y (cc) (cc) in
    let head : c ≡ d = cc in
    (rw (head, ih.0) refl, ih.1)

same_first : (after_name : Bool) (p q : Piece) (x y : Text) → p.bytes ++ x ≡ q.bytes ++ y → IsLongest after_name p x → IsLongest after_name q y
    → (p ≡ q) × (x ≡ y)
same_first after_name p q x y e hp hq =
    let shorter : length p.bytes ≤ length q.bytes = hq.longest p.class p.bytes x e hp.stands in
    let longer : length q.bytes ≤ length p.bytes = hp.longest q.class q.bytes y (sym e) hq.stands in
    let parts = append_same p.bytes q.bytes x y (omega arith) e in
    let class : p.class ≡ q.class = one_class after_name p.class q.class q.bytes (rw parts.0 at hp.stands) hq.stands in
    (piece_is class parts.0, parts.1)
  where
    piece_is : {p q : Piece} → p.class ≡ q.class → p.bytes ≡ q.bytes → p ≡ q
    piece_is c b = λ i. record { class = c i; bytes = b i }

-- two divisions of a text that cannot be continued are the same
pub same_cut : (after_name : Bool) (ps qs : List Piece) (r s : Text) → joined ps ++ r ≡ joined qs ++ s → AreLongest after_name ps r
    → AreLongest after_name qs s → NoneStands (ends_in_name after_name ps) r → NoneStands (ends_in_name after_name qs) s → (ps ≡ qs) × (r ≡ s)
same_cut after_name [] [] r s e hp hq np nq = (refl, e)
same_cut after_name [] (q ∷ qs) r s e hp hq np nq = absurd (np q.class q.bytes (joined qs ++ s) (sym (append_assoc q.bytes (joined qs) s) ∙ sym e) hq.0.stands)
same_cut after_name (p ∷ ps) [] r s e hp hq np nq = absurd (nq p.class p.bytes (joined ps ++ r) (sym (append_assoc p.bytes (joined ps) r) ∙ e) hp.0.stands)
same_cut after_name (p ∷ ps) (q ∷ qs) r s e hp hq np nq =
    let first = same_first after_name p q (joined ps ++ r) (joined qs ++ s)
    (sym (append_assoc p.bytes (joined ps) r) ∙ e ∙ append_assoc q.bytes (joined qs) s) hp.0 hq.0 in
    let hq2 = subst (λ (x : Piece). AreLongest (name_after after_name (token_of x.class x.bytes)) qs s) (sym first.0) hq.1 in
    let nq2 = subst (λ (x : Piece). NoneStands (ends_in_name (name_after after_name (token_of x.class x.bytes)) qs) s) (sym first.0) nq in
    let rest = same_cut (name_after after_name (token_of p.class p.bytes)) ps qs r s first.1 hp.1 hq2 np nq2 in
    (λ i. first.0 i ∷ rest.0 i, rest.1)

pub one_cutting : (text : Text) (a b : List Token) → AreTokens text a → AreTokens text b → a ≡ b
one_cutting text a b x y =
    let same = same_cut false x.pieces y.pieces [] [] (x.cut.whole ∙ sym y.cut.whole) x.cut.longest y.cut.longest (none_at_end _) (none_at_end _) in
    sym x.tokens_are ∙ ap (tokens_from 0) same.0 ∙ y.tokens_are

pub no_cutting : (text : Text) (fault : TextError) (tokens : List Token) → IsLexicalFault text fault → AreTokens text tokens → ⊥
no_cutting text fault tokens x y =
    let same = same_cut false x.pieces y.pieces (x.byte ∷ x.rest) [] (x.cut.whole ∙ sym y.cut.whole) x.cut.longest y.cut.longest x.none (none_at_end _) in
    let h = same.1 in absurd cc

pub one_fault : (text : Text) (e f : TextError) → IsLexicalFault text e → IsLexicalFault text f → e ≡ f
one_fault text e f x y =
    let same = same_cut false x.pieces y.pieces (x.byte ∷ x.rest) (y.byte ∷ y.rest) (x.cut.whole ∙ sym y.cut.whole) x.cut.longest y.cut.longest x.none y.none in
    let byte : x.byte ≡ y.byte = let h = same.1 in cc in
    let rest : x.rest ≡ y.rest = let h = same.1 in cc in
    x.fault_is ∙ (λ i. fault_at (length (joined (same.0 i))) (byte i) (rest i)) ∙ sym y.fault_is
