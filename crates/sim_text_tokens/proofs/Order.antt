-- The places of tokens, that none has the kind after the last, and that each text has tokens or a fault.
use Rattle.std.proofs.Common.{◌≡◌, ℕ, zero, suc, ◌+◌, ◌≤◌, ◌<◌, ◌⊎◌, inl, inr, Bool, true, false, List, [], ◌∷◌, ◌++◌, length, take, drop, map}
use Rattle.std.proofs.Common.{Option, Some, None, refl, sym, ap, subst, arith, length-append, length-drop}
use Rattle.std.specs.List.{list_all, AllByRecursion}
use Rattle.std.specs.Char.{to_ascii_lowercase}
use Rattle.sim_text_tokens.specs.declared.class.Class.{Class}
use Rattle.sim_text_tokens.specs.declared.class.Class.TheVariants as class
use Rattle.sim_text_tokens.specs.declared.kind.Kind.{Kind}
use Rattle.sim_text_tokens.specs.declared.kind.Kind.TheVariants as kind
use Rattle.sim_text_tokens.specs.Token.{Token}
use Rattle.sim_text_tokens.specs.declared.error.TextError.{TextError}
use Rattle.sim_text_tokens.specs.Pieces.{Text, is_piece, token_of, kind_in, delimiters, reserved_words, word_token, delimiter_token}
use Rattle.sim_text_tokens.specs.Cutting.{Piece, joined, name_after, AreLongest, placed, tokens_from, AreTokens, AreInOrder, IsLexicalFault, fault_at}
use Rattle.sim_text_tokens.specs.Scan.{Extent, piece_at}
use Rattle.sim_text_tokens.proofs.Tests.{kind_passes}
use Rattle.sim_text_tokens.proofs.Classes.{not_empty}
use Rattle.std.proofs.lemmas.List.{take-append-drop}
use Rattle.sim_text_tokens.proofs.Cuts.{SoFar, none_yet, extent_inside, longest_at, none_at, one_more}

in_order_from : (low from : ℕ) (ts : List Token) (to : ℕ) → low ≤ from → AreInOrder from ts to → AreInOrder low ts to
in_order_from low from [] to h o = omega arith
in_order_from low from (t ∷ ts) to h o = (omega arith, o.1, o.2)

placed_in_order : (start end : ℕ) (token : Option (Kind × Text)) (ts : List Token) (to : ℕ) → start < end → AreInOrder end ts to
    → AreInOrder start (placed start end token ++ ts) to
placed_in_order start end None ts to h o = in_order_from start end ts to (omega arith) o
placed_in_order start end (Some token) ts to h o = (omega arith, h, o)

filled : (after_name : Bool) (c : Class) (bytes : Text) → is_piece after_name c bytes ≡ true → 0 < length bytes
filled after_name c [] p = absurd (not_empty after_name c p)
filled after_name c (x ∷ bytes) p = omega arith

pieces_in_order : (after_name : Bool) (at : ℕ) (ps : List Piece) (rest : Text) → AreLongest after_name ps rest
    → AreInOrder at (tokens_from at ps) (at + length (joined ps))
pieces_in_order after_name at [] rest h = omega arith
pieces_in_order after_name at (p ∷ ps) rest h =
    let n : 0 < length p.bytes = filled after_name p.class p.bytes h.0.stands in
    let ih = pieces_in_order (name_after after_name (token_of p.class p.bytes)) (at + length p.bytes) ps rest h.1 in
    let end : at + length p.bytes + length (joined ps) ≡ at + length (p.bytes ++ joined ps) = omega (arith, length-append p.bytes (joined ps)) in
    placed_in_order at (at + length p.bytes) (token_of p.class p.bytes) (tokens_from (at + length p.bytes) ps) _ (omega arith) (rw (← end) ih)

pub in_order : (text : Text) (tokens : List Token) → AreTokens text tokens → AreInOrder 0 tokens (length text)
in_order text tokens x =
    let all = pieces_in_order false 0 x.pieces [] x.cut.longest in
    let end : 0 + length (joined x.pieces) ≡ length text = omega (arith, length-append (joined x.pieces) [], ap length x.cut.whole) in
    rw (← x.tokens_are, ← end) all

is_kept : Kind → Bool
is_kept kind.EndOfText = false
is_kept _ = true

kept : (k : Kind) → is_kept k ≡ true → k ≡ kind.EndOfText → ⊥
unfolding is_kept
kept k h e = let f : is_kept k ≡ false = rw e refl in absurd cc

reserved_kept : list_all (λ (e : Text × Kind). is_kept e.1) reserved_words ≡ true
unfolding is_kept reserved_words
reserved_kept = refl

delimiters_kept : list_all (λ (e : Text × Kind). is_kept e.1) delimiters ≡ true
unfolding is_kept delimiters
delimiters_kept = refl

word_kept : (o : Option Kind) (word : Text) → ((k : Kind) → o ≡ Some k → is_kept k ≡ true) → is_kept (word_token o word).0 ≡ true
unfolding is_kept
word_kept None word h = refl
word_kept (Some k) word h = h k refl

delimiter_kept : (o : Option Kind) (token : Kind × Text) → ((k : Kind) → o ≡ Some k → is_kept k ≡ true) → delimiter_token o ≡ Some token
    → is_kept token.0 ≡ true
delimiter_kept None token h e = absurd cc
delimiter_kept (Some k) token h e = let same : (k, []) ≡ token = cc in rw (← same) (h k refl)

-- the kind of a piece's token
token_kept : (c : Class) (bytes : Text) (token : Kind × Text) → token_of c bytes ≡ Some token → is_kept token.0 ≡ true
unfolding is_kept
token_kept class.Separator bytes token e = absurd cc
token_kept class.Comment bytes token e = absurd cc
token_kept class.Word bytes token e =
    let same : word_token (kind_in reserved_words (map to_ascii_lowercase bytes)) (map to_ascii_lowercase bytes) ≡ token = cc in
    rw (← same) (word_kept _ (map to_ascii_lowercase bytes) (λ k h. kind_passes is_kept reserved_words (map to_ascii_lowercase bytes) k reserved_kept h))
token_kept class.Number bytes token e = let same : kind.Number ≡ token.0 = ap (λ o. kind_or o) e in rw (← same) refl
  where
    kind_or : Option (Kind × Text) → Kind
    kind_or None = kind.Number
    kind_or (Some t) = t.0
token_kept class.Literal bytes token e = let same : (kind.Literal, take 1 (drop 1 bytes)) ≡ token = cc in rw (← same) refl
token_kept class.Tick bytes token e = let same : (kind.Tick, []) ≡ token = cc in rw (← same) refl
token_kept class.Delimiter bytes token e = delimiter_kept (kind_in delimiters bytes) token (λ k h. kind_passes is_kept delimiters bytes k delimiters_kept h) e

placed_kept : (start end : ℕ) (o : Option (Kind × Text)) (ts : List Token) → ((token : Kind × Text) → o ≡ Some token → is_kept token.0 ≡ true)
    → AllByRecursion (λ t. t.kind ≡ kind.EndOfText → ⊥) ts → AllByRecursion (λ t. t.kind ≡ kind.EndOfText → ⊥) (placed start end o ++ ts)
placed_kept start end None ts h all = all
placed_kept start end (Some token) ts h all = (kept token.0 (h token refl), all)

tokens_kept : (at : ℕ) (ps : List Piece) → AllByRecursion (λ t. t.kind ≡ kind.EndOfText → ⊥) (tokens_from at ps)
tokens_kept at [] = tt
tokens_kept at (p ∷ ps) = placed_kept at (at + length p.bytes) (token_of p.class p.bytes) (tokens_from (at + length p.bytes) ps)
    (token_kept p.class p.bytes) (tokens_kept (at + length p.bytes) ps)

pub no_end : (text : Text) (tokens : List Token) → AreTokens text tokens → AllByRecursion (λ t. t.kind ≡ kind.EndOfText → ⊥) tokens
no_end text tokens x = subst (λ (ts : List Token). AllByRecursion (λ t. t.kind ≡ kind.EndOfText → ⊥) ts) x.tokens_are (tokens_kept 0 x.pieces)

-- the outcome for a text: its tokens, or a lexical fault
abbrev pub Outcome : Text → Type 0
Outcome text = ((tokens : List Token) × AreTokens text tokens) ⊎ ((fault : TextError) × IsLexicalFault text fault)

as_tokens : {source : Text} {tokens : List Token} {after_name : Bool} {at : ℕ} → SoFar source tokens after_name at [] → AreTokens source tokens
as_tokens s = record { pieces = s.pieces; cut = s.cut; tokens_are = s.tokens_are }

-- one piece further, or a fault
go_on : (fuel : ℕ) (source : Text) (tokens : List Token) (after_name : Bool) (at first : ℕ) (rest : Text)
    → SoFar source tokens after_name at (first ∷ rest) → suc (length rest) ≤ suc fuel →
    ((more : List Token) (name : Bool) (place : ℕ) (text : Text) → SoFar source more name place text → length text ≤ fuel → Outcome source) →
    (o : Option Extent) → piece_at after_name first rest ≡ o → Outcome source
go_on fuel source tokens after_name at first rest s h further None e =
    inr (
      fault_at at first rest,
      record {
        pieces = s.pieces;
        byte = first;
        rest = rest;
        cut = s.cut;
        none = rw s.name_is (none_at after_name first rest e);
        fault_is = ap (λ x. fault_at x first rest) (sym s.place_is);
      },
    )
go_on fuel source tokens after_name at first rest s h further (Some (c, n)) e =
    let inside = extent_inside after_name first rest (c, n) e in
    let shorter : length (drop n (first ∷ rest)) ≤ fuel = omega (arith, length-drop n (first ∷ rest)) in
    further _ _ _ (drop n (first ∷ rest)) (one_more (record { class = c; bytes = take n (first ∷ rest) }) (drop n (first ∷ rest)) s
    (take-append-drop n (first ∷ rest)) (longest_at after_name first rest c n e)) shorter

found_or_fault : (fuel : ℕ) (source : Text) (tokens : List Token) (after_name : Bool) (at : ℕ) (text : Text) → SoFar source tokens after_name at text
    → length text ≤ fuel → Outcome source
found_or_fault zero source tokens after_name at [] s h = inl (tokens, as_tokens s)
found_or_fault zero source tokens after_name at (x ∷ rest) s h = absurd (omega arith)
found_or_fault (suc fuel) source tokens after_name at [] s h = inl (tokens, as_tokens s)
found_or_fault (suc fuel) source tokens after_name at (x ∷ rest) s h =
    go_on fuel source tokens after_name at x rest s h (λ more name place text t m. found_or_fault fuel source more name place text t m)
    (piece_at after_name x rest) refl

pub some_outcome : (text : Text) → Outcome text
some_outcome text = found_or_fault (length text) text [] false 0 text (none_yet text) (omega arith)
