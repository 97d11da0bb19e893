-- The places of a reader's faults. `Blames i (r i)` says that the tokens that r leaves are the end of i, that a `TimeRange` fault is at the number of
-- a time that is too large, and a `TooDeep` fault at a parenthesis or an `if`. It is proved here for each reader of one token, and `blames_then`
-- extends it to combined readers.
use Rattle.std.proofs.Common.{◌≡◌, ℕ, zero, suc, Bool, true, false, cond, List, [], ◌∷◌, ◌++◌, Option, Some, None, Ok, Err, refl, sym, ap, ◌∙◌}
use Rattle.std.proofs.Common.{append_assoc, ◌⊎◌, inl, inr}
use Rattle.sim_text_tokens.specs.Token.{Token}
use Rattle.sim_text_tokens.specs.declared.kind.Kind.{Kind}
use Rattle.sim_text_tokens.specs.declared.kind.Kind.TheVariants as k
use Rattle.sim_text_grammar.specs.declared.error.ParseError.{ParseError}
use Rattle.sim_text_grammar.specs.declared.error.ParseError.TheVariants.{OutOfMemory, Syntax, TooDeep, TimeRange}
use Rattle.sim_text_tree.specs.Input.{Input, kind, place, next}
use Rattle.sim_text_grammar.specs.Readers.{ParseResult, Parser, and_then, ◌>>◌, take_token, left, same_kind, token_as, found_or, word, many_from}
use Rattle.sim_text_grammar.specs.Readers.{name_of, literal, literal_of, number, number_of, unit, unit_of, repeat, word_is, event, sees, eat, expect}
use Rattle.sim_text_grammar.specs.Readers.{many, separated}
use Rattle.std.proofs.Common.{codes}
use Rattle.sim_text_grammar.specs.Faults.{IsTooLarge, IsOpening}
use Rattle.sim_text_grammar.proofs.Gives.{Gives, Hits}

-- the end of the input
pub record Within (i j : Input) : Type 0 where
  pub front : Input
  pub whole : i ≡ front ++ j

pub here : (i : Input) → Within i i
here i = record { front = []; whole = refl }

pub after : (i : Input) → Within i (next i)
unfolding next
after [] = record { front = []; whole = refl }
after (t ∷ ts) = record { front = t ∷ []; whole = refl }

within : (i j m : Input) → Within i j → Within j m → Within i m
within i j m x y = record { front = x.front ++ y.front; whole = x.whole ∙ ap (λ (z : Input). x.front ++ z) y.whole ∙ sym (append_assoc x.front y.front m) }

later : (i j : Input) (n : ℕ) → Within i j → IsTooLarge j n → IsTooLarge i n
later i j n x y = record {
  front = x.front ++ y.front;
  number = y.number;
  word = y.word;
  rest = y.rest;
  unit = y.unit;
  whole = x.whole ∙ ap
      (λ (z : Input). x.front ++ z) y.whole ∙ sym (append_assoc x.front y.front (y.number ∷ y.word ∷ y.rest));
  count = y.count;
  digits = y.digits;
  named = y.named;
  large = y.large;
}

deeper_in : (i j : Input) (n : ℕ) → Within i j → IsOpening j n → IsOpening i n
deeper_in i j n x y = record {
  front = x.front ++ y.front;
  token = y.token;
  rest = y.rest;
  whole = x.whole ∙ ap (λ (z : Input). x.front ++ z) y.whole ∙ sym (append_assoc x.front y.front (y.token ∷ y.rest));
  count = y.count;
  opens = y.opens;
}

abbrev pub Blamed : Input → ParseError → Type 0
Blamed i (TimeRange n) = IsTooLarge i n
Blamed i (TooDeep n) = IsOpening i n
Blamed i _ = Unit {0}

abbrev pub Blame : {A : Type 0} → Input → ParseResult A → Type 0
Blame i (Ok r) = Within i r.1
Blame i (Err e) = Blamed i e

-- The remaining tokens are the end of the input, and a `TimeRange` fault is at a number that is too large.
pub record Blames {A : Type 0} (i : Input) (o : ParseResult A) : Type 0 where
  pub blame : Blame i o

blamed_wider : (i j : Input) (e : ParseError) → Within i j → Blamed j e → Blamed i e
blamed_wider i j (TimeRange n) x y = later i j n x y
blamed_wider i j OutOfMemory x y = tt
blamed_wider i j (Syntax n) x y = tt
blamed_wider i j (TooDeep n) x y = deeper_in i j n x y

wider : {A : Type 0} (i j : Input) (o : ParseResult A) → Within i j → Blame j o → Blame i o
wider i j (Ok r) x y = within i j r.1 x y
wider i j (Err e) x y = blamed_wider i j e x y

then_by : {A B : Type 0} (i : Input) (o : ParseResult A) (f : A → Parser B) → Blame i o → ((a : A) (j : Input) → Blames j (f a j)) → Blames i (and_then o f)
then_by i (Ok r) f h g = record { blame = wider i r.1 (f r.0 r.1) h (g r.0 r.1).blame }
then_by i (Err e) f h g = record { blame = h }

pub blames_then : {A B : Type 0} {i : Input} {o : ParseResult A} {f : A → Parser B} → Blames i o
    → ((a : A) (j : Input) → Blames j (f a j)) → Blames i (and_then o f)
blames_then {A} {B} {i} {o} {f} h g = then_by i o f h.blame g

-- the same with one more token at the front
pub blames_next : {A : Type 0} (i : Input) (o : ParseResult A) → Blames (next i) o → Blames i o
blames_next i o h = record { blame = wider i (next i) o (after i) h.blame }

pub blames_done : {A : Type 0} {a : A} (i : Input) → Blames i (Ok (a, i))
blames_done i = record { blame = here i }

pub blames_taken : {A : Type 0} {a : A} (i : Input) → Blames i (Ok (a, next i))
blames_taken i = record { blame = after i }

pub blames_syntax : {A : Type 0} {i : Input} {n : ℕ} → Blames {A = A} i (Err (Syntax n))
blames_syntax = record { blame = tt }

-- a parenthesis or an `if` that opens is refused
pub blames_deep : {A : Type 0} (i : Input) (x : Kind) → kind i ≡ x → (k.EndOfText ≡ x → ⊥) → (x ≡ k.LeftParen) ⊎ (x ≡ k.If)
    → Blames {A = A} i (Err (TooDeep (left i)))
unfolding kind left
blames_deep [] x e real o = absurd (real e)
blames_deep (t ∷ ts) x e real (inl l) = record { blame = record { front = []; token = t; rest = ts; whole = refl; count = refl; opens = inl (e ∙ l) } }
blames_deep (t ∷ ts) x e real (inr r) = record { blame = record { front = []; token = t; rest = ts; whole = refl; count = refl; opens = inr (e ∙ r) } }

pub blames_if : {A : Type 0} (b : Bool) (f g : Parser A) (i : Input) → Blames i (f i) → Blames i (g i) → Blames i (cond b f g i)
blames_if true f g i x y = x
blames_if false f g i x y = y

pub blames_or : {A : Type 0} (b : Bool) (f g : ParseResult A) (i : Input) → Blames i f → Blames i g → Blames i (cond b f g)
blames_or true f g i x y = x
blames_or false f g i x y = y

-- ---- tokens

found_blames : {A : Type 0} (o : Option A) (t : Token) (ts : Input) → Blames (t ∷ ts) (found_or o (t ∷ ts) ts)
found_blames (Some a) t ts = record { blame = record { front = t ∷ []; whole = refl } }
found_blames None t ts = blames_syntax

token_blames : {A : Type 0} (f : Token → Option A) (i : Input) → Blames i (token_as f i)
token_blames f [] = blames_syntax
token_blames f (t ∷ ts) = found_blames (f t) t ts

pub word_blames : (i : Input) → Blames i (word i)
unfolding word
word_blames i = token_blames name_of i

pub literal_blames : (i : Input) → Blames i (literal i)
unfolding literal
literal_blames i = token_blames literal_of i

pub repeat_blames : (text : List ℕ) (i : Input) → Blames i (repeat text i)
unfolding repeat
repeat_blames text i = token_blames (word_is text) i

pub event_blames : (i : Input) → Blames i (event i)
unfolding event
event_blames i = token_blames (word_is (codes "event")) i

pub expect_blames : (x : Kind) (i : Input) → Blames i (expect x i)
unfolding expect
expect_blames x i = blames_or (sees x i) (Ok (place i, next i)) (Err (Syntax (left i))) i (blames_taken i) blames_syntax

pub eat_blames : (x : Kind) (i : Input) → Blames i (eat x i)
unfolding eat
eat_blames x i = blames_or (sees x i) (Ok (true, next i)) (Ok (false, i)) i (blames_taken i) (blames_done i)

-- ---- lists

pub many_from_blames : {A : Type 0} (goes_on : Kind → Bool) (item : Parser A) → ((i : Input) → Blames i (item i)) → (n : ℕ) (found : List A) (i : Input)
    → Blames i (many_from goes_on item n found i)
unfolding many_from
many_from_blames go item ok zero found i = blames_done i
many_from_blames go item ok (suc n) found i = blames_or (go (kind i)) (and_then (item i) (λ a. many_from go item n (found ++ a ∷ []))) (Ok (found, i)) i
    (blames_then (ok i) (λ a j. many_from_blames go item ok n (found ++ a ∷ []) j)) (blames_done i)

pub many_blames : {A : Type 0} (goes_on : Kind → Bool) (item : Parser A) → ((i : Input) → Blames i (item i)) → (i : Input) → Blames i (many goes_on item i)
unfolding many
many_blames go item ok i = many_from_blames go item ok (left i) [] i

pub separated_blames : {A : Type 0} (x : Kind) (item : Parser A) → ((i : Input) → Blames i (item i)) → (i : Input) → Blames i (separated x item i)
unfolding separated
separated_blames x item ok i = blames_then (ok i) (λ a j. many_from_blames (λ y. same_kind y x) (take_token >> item)
    (λ m. blames_next m (item (next m)) (ok (next m))) (left j) (a ∷ []) j)

pub number_blames : (i : Input) → Blames i (number i)
unfolding number
number_blames i = token_blames number_of i

pub unit_blames : (i : Input) → Blames i (unit i)
unfolding unit
unit_blames i = token_blames unit_of i

pub blames_wider : {A : Type 0} (i j : Input) (o : ParseResult A) → Within i j → Blames j o → Blames i o
blames_wider i j o x y = record { blame = wider i j o x y.blame }

gives_then_by : {A B : Type 0} (i : Input) (p : A → Input → Type 0) (o : ParseResult A) (f : A → Parser B) → Hits p o → Blame i o
    → ((a : A) (j : Input) → p a j → Blames i (f a j)) → Blames i (and_then o f)
gives_then_by i p (Ok r) f h b g = g r.0 r.1 h
gives_then_by i p (Err e) f h b g = record { blame = b }

-- the same, where a property of the result is known
pub blames_gives_then : {A B : Type 0} {i : Input} {p : A → Input → Type 0} {o : ParseResult A} {f : A → Parser B} → Gives p o → Blames i o
    → ((a : A) (j : Input) → p a j → Blames i (f a j)) → Blames i (and_then o f)
blames_gives_then {A} {B} {i} {p} {o} {f} h b g = gives_then_by i p o f h.gives b.blame g
