-- Single tokens. The token that a reader consumes matches its piece (`word_gives`, `expect_gives`), and where the piece is spelled the reader consumes it
-- (`word_read`, `expect_read`); `eat_then` and `sees_then` continue after a reader that may find another token. The readers of tokens with a meaning are
-- all `token_as`, so that each meaning needs only two lemmas about one token.
use Rattle.std.proofs.Common.{◌≡◌, ℕ, Bool, true, false, cond, List, [], ◌∷◌, Option, Some, None, Ok, Err, refl, sym, ap, ◌∙◌, codes, rules}
use Rattle.std.specs.Str.{bytes_eq}
use Rattle.std.proofs.lemmas.Slice.Eq.{bytes_eq-Decides}
use denote.Enum.Bare.{same_true, true_same, false_same}
use Rattle.sim_logic.specs.declared.logic.Logic.{Logic}
use Rattle.sim_logic.specs.declared.logic.Logic.TheVariants as value
use Rattle.sim_logic.specs.Logic.{byte_of}
use Rattle.sim_logic.specs.declared.time.Unit.{Unit as TimeUnit}
use Rattle.sim_logic.specs.declared.time.Unit.TheVariants as u
use Rattle.sim_text_tokens.specs.contracts.kind.Kind.{the_type}
use Rattle.sim_text_tokens.specs.Token.{Token}
use Rattle.sim_text_tokens.specs.declared.kind.Kind.{Kind}
use Rattle.sim_text_tokens.specs.declared.kind.Kind.TheVariants as k
use Rattle.sim_text_tree.specs.Name.{Name}
use Rattle.sim_text_tree.specs.Input.{Input, kind, place, next}
use Rattle.sim_text_grammar.specs.Readers.{ParseResult, Parser, and_then, token_as, found_or, only_if, left, same_kind, sees, eat, expect, word_is, event}
use Rattle.sim_text_grammar.specs.Readers.{word, name_of, literal, logic_of, literal_of, placed, number, number_of, unit, unit_in, unit_of, repeat}
use Rattle.sim_text_tree.specs.Writing.{Piece, WordAt, LiteralAt, NumberAt, UnitWord, This, Stands, just, mark, word_at, unit_name, if_written, Fits}
use Rattle.sim_text_tree.proofs.Writings.{one, marks, mark_read, none_to, none_read}
use Rattle.sim_text_grammar.proofs.Gives.{Gives, done, refused}

-- ---- kinds

-- a token has only one kind
pub other : {z x y : Kind} → z ≡ x → (x ≡ y → ⊥) → z ≡ y → ⊥
other e f g = f (sym e ∙ g)

pub same_is : (a b : Kind) → same_kind a b ≡ true → a ≡ b
unfolding same_kind
same_is a b e = same_true the_type (search rules) a b e

pub is_same : (a b : Kind) → a ≡ b → same_kind a b ≡ true
unfolding same_kind
is_same a b e = true_same the_type a b e

pub not_same : (a b : Kind) → (a ≡ b → ⊥) → same_kind a b ≡ false
unfolding same_kind
not_same a b e = false_same the_type (search rules) a b e

pub sees_is : (x : Kind) (i : Input) → sees x i ≡ true → kind i ≡ x
unfolding sees
sees_is x i e = same_is (kind i) x e

pub is_seen : (x : Kind) (i : Input) → kind i ≡ x → sees x i ≡ true
unfolding sees
is_seen x i e = is_same (kind i) x e

pub not_seen : (x : Kind) (i : Input) → (kind i ≡ x → ⊥) → sees x i ≡ false
unfolding sees
not_seen x i e = not_same (kind i) x e

-- ---- a token with a meaning

found_gives : {A : Type 0} (p n : ℕ) (w : A → Piece) (t : Token) (ts : Input) (o : Option A) → ((a : A) → o ≡ Some a → Stands (w a) t)
    → Gives (λ a j. Fits p n (just (w a)) (t ∷ ts) j) (found_or o (t ∷ ts) ts)
found_gives p n w t ts (Some a) f = done (one (w a) (t ∷ ts) ts (f a refl, refl))
found_gives p n w t ts None f = refused

token_gives : {A : Type 0} (p n : ℕ) (f : Token → Option A) (w : A → Piece) → ((t : Token) (a : A) → f t ≡ Some a → Stands (w a) t) → (i : Input)
    → Gives (λ a j. Fits p n (just (w a)) i j) (token_as f i)
token_gives p n f w g [] = refused
token_gives p n f w g (t ∷ ts) = found_gives p n w t ts (f t) (g t)

token_read : {A : Type 0} {p n : ℕ} (f : Token → Option A) (w : A → Piece) → ((t : Token) (a : A) → Stands (w a) t → f t ≡ Some a)
    → (i j : Input) (a : A) → Fits p n (just (w a)) i j → token_as f i ≡ Ok (a, j)
token_read f w g [] j a h = absurd h.takes
token_read f w g (t ∷ ts) j a h = rw (g t a h.takes.0, h.takes.1) refl

if_some : {A : Type 0} (b : Bool) (o : Option A) (a : A) → only_if b o ≡ Some a → (b ≡ true) × (o ≡ Some a)
if_some true o a e = (refl, e)
if_some false o a e = absurd cc

some_is : {A : Type 0} (a b : A) → Some a ≡ Some b → a ≡ b
some_is a b e = cc

-- ---- words

abbrev word_piece : Name → Piece
word_piece n = WordAt n.text n.at

name_stands : (t : Token) (n : Name) → name_of t ≡ Some n → Stands (word_piece n) t
name_stands t n e =
    let r = if_some (same_kind t.kind k.Word) (Some (record { text = t.text; at = t.start })) n e in
    let same : record { text = t.text; at = t.start } ≡ n = some_is (record { text = t.text; at = t.start }) n r.1 in
    (same_is t.kind k.Word r.0, ap (λ (x : Name). x.text) same, ap (λ (x : Name). x.at) same)

stands_name : (t : Token) (n : Name) → Stands (word_piece n) t → name_of t ≡ Some n
stands_name t n h = rw (is_same t.kind k.Word h.0, h.1, h.2) refl

pub word_gives : {p n : ℕ} (i : Input) → Gives (λ x j. Fits p n (word_at x) i j) (word i)
unfolding word
word_gives {p} {n} i = token_gives p n name_of word_piece name_stands i

pub word_read : {p n : ℕ} (i j : Input) (x : Name) → Fits p n (word_at x) i j → word i ≡ Ok (x, j)
unfolding word
word_read i j x h = token_read name_of word_piece stands_name i j x h

pub word_kind : {p n : ℕ} (i j : Input) (x : Name) → Fits p n (word_at x) i j → kind i ≡ k.Word
unfolding kind
word_kind [] j x h = absurd h.takes
word_kind (c ∷ cs) j x h = h.takes.0.0

-- ---- this word

this_stands : (text : List ℕ) (t : Token) (x : Unit {0}) → word_is text t ≡ Some x → Stands (This text) t
this_stands text t x e =
    let r = if_some (same_kind t.kind k.Word) (only_if (bytes_eq t.text text) (Some tt)) x e in
    let s = if_some (bytes_eq t.text text) (Some tt) x r.1 in
    (same_is t.kind k.Word r.0, (bytes_eq-Decides t.text text).0 s.0)

stands_this : (text : List ℕ) (t : Token) (x : Unit {0}) → Stands (This text) t → word_is text t ≡ Some x
stands_this text t x h = rw (is_same t.kind k.Word h.0, (bytes_eq-Decides t.text text).1 h.1) refl

pub repeat_gives : {p n : ℕ} (text : List ℕ) (i : Input) → Gives (λ x j. Fits p n (just (This text)) i j) (repeat text i)
unfolding repeat
repeat_gives {p} {n} text i = token_gives p n (word_is text) (λ x. This text) (this_stands text) i

pub repeat_read : {p n : ℕ} (text : List ℕ) (i j : Input) → Fits p n (just (This text)) i j → repeat text i ≡ Ok (tt, j)
unfolding repeat
repeat_read text i j h = token_read (word_is text) (λ x. This text) (stands_this text) i j tt h

pub this_kind : {p n : ℕ} (text : List ℕ) (i j : Input) → Fits p n (just (This text)) i j → kind i ≡ k.Word
unfolding kind
this_kind text [] j h = absurd h.takes
this_kind text (c ∷ cs) j h = h.takes.0.0

pub event_gives : {p n : ℕ} (i : Input) → Gives (λ x j. Fits p n (just (This (codes "event"))) i j) (event i)
unfolding event
event_gives {p} {n} i = token_gives p n (word_is (codes "event")) (λ x. This (codes "event")) (this_stands (codes "event")) i

pub event_read : {p n : ℕ} (i j : Input) → Fits p n (just (This (codes "event"))) i j → event i ≡ Ok (tt, j)
unfolding event
event_read i j h = token_read (word_is (codes "event")) (λ x. This (codes "event")) (stands_this (codes "event")) i j tt h

-- ---- numbers

abbrev number_piece : List ℕ × ℕ → Piece
number_piece x = NumberAt x.0 x.1

number_stands : (t : Token) (x : List ℕ × ℕ) → number_of t ≡ Some x → Stands (number_piece x) t
number_stands t x e =
    let r = if_some (same_kind t.kind k.Number) (Some (t.text, t.start)) x e in
    let same : (t.text, t.start) ≡ x = some_is (t.text, t.start) x r.1 in
    (same_is t.kind k.Number r.0, ap (λ (y : List ℕ × ℕ). y.0) same, ap (λ (y : List ℕ × ℕ). y.1) same)

stands_number : (t : Token) (x : List ℕ × ℕ) → Stands (number_piece x) t → number_of t ≡ Some x
stands_number t x h = rw (is_same t.kind k.Number h.0, h.1, h.2) refl

pub number_gives : {p n : ℕ} (i : Input) → Gives (λ x j. Fits p n (just (NumberAt x.0 x.1)) i j) (number i)
unfolding number
number_gives {p} {n} i = token_gives p n number_of number_piece number_stands i

pub number_read : {p n : ℕ} (i j : Input) (x : List ℕ × ℕ) → Fits p n (just (NumberAt x.0 x.1)) i j → number i ≡ Ok (x, j)
unfolding number
number_read i j x h = token_read number_of number_piece stands_number i j x h

-- ---- texts with a meaning

named_so : {A : Type 0} (name : A → List ℕ) (t s : List ℕ) (v : A) (rest : Option A) (a : A) → s ≡ name v → cond (bytes_eq t s) (Some v) rest ≡ Some a
    → (rest ≡ Some a → t ≡ name a) → t ≡ name a
named_so {A} name t s v rest a is e g =
    let turn : (b : Bool) → bytes_eq t s ≡ b → cond b (Some v) rest ≡ Some a → t ≡ name a = λ b.
    elim b as (λ b. bytes_eq t s ≡ b → cond b (Some v) rest ≡ Some a → t ≡ name a) [
      | true ↦ λ d f. (bytes_eq-Decides t s).0 d ∙ is ∙ ap name (some_is v a f)
      | false ↦ λ d f. g f
    ] in turn (bytes_eq t s) refl e

none_not : {A : Type 0} (a : A) → None ≡ Some a → ⊥
none_not a e = cc

abbrev literal_text : Logic → List ℕ
literal_text v = byte_of v ∷ []

logic_is : (t : List ℕ) (v : Logic) → logic_of t ≡ Some v → t ≡ literal_text v
logic_is t v e =
    named_so literal_text t (codes "U") value.U _ v refl e (λ e.
    named_so literal_text t (codes "X") value.X _ v refl e (λ e.
    named_so literal_text t (codes "0") value.Zero _ v refl e (λ e.
    named_so literal_text t (codes "1") value.One _ v refl e (λ e.
    named_so literal_text t (codes "Z") value.Z _ v refl e (λ e.
    named_so literal_text t (codes "W") value.W _ v refl e (λ e.
    named_so literal_text t (codes "L") value.L _ v refl e (λ e.
    named_so literal_text t (codes "H") value.H _ v refl e (λ e.
    named_so literal_text t (codes "-") value.Dash _ v refl e (λ e. absurd (none_not v e))))))))))

is_logic : (v : Logic) → logic_of (literal_text v) ≡ Some v
is_logic value.U = refl
is_logic value.X = refl
is_logic value.Zero = refl
is_logic value.One = refl
is_logic value.Z = refl
is_logic value.W = refl
is_logic value.L = refl
is_logic value.H = refl
is_logic value.Dash = refl

abbrev literal_piece : Logic × ℕ → Piece
literal_piece x = LiteralAt x.0 x.1

placed_is : (t : Token) (o : Option Logic) (x : Logic × ℕ) → placed t o ≡ Some x → (o ≡ Some x.0) × (t.start ≡ x.1)
placed_is t (Some v) x e =
    let same : (v, t.start) ≡ x = some_is (v, t.start) x e in
    (ap (λ (y : Logic × ℕ). Some y.0) same, ap (λ (y : Logic × ℕ). y.1) same)
placed_is t None x e = absurd cc

literal_stands : (t : Token) (x : Logic × ℕ) → literal_of t ≡ Some x → Stands (literal_piece x) t
literal_stands t x e =
    let r = if_some (same_kind t.kind k.Literal) (placed t (logic_of t.text)) x e in
    let s = placed_is t (logic_of t.text) x r.1 in
    (same_is t.kind k.Literal r.0, logic_is t.text x.0 s.0, s.1)

stands_literal : (t : Token) (x : Logic × ℕ) → Stands (literal_piece x) t → literal_of t ≡ Some x
stands_literal t x h = rw (is_same t.kind k.Literal h.0, h.1, is_logic x.0, h.2) refl

pub literal_gives : {p n : ℕ} (i : Input) → Gives (λ x j. Fits p n (just (LiteralAt x.0 x.1)) i j) (literal i)
unfolding literal
literal_gives {p} {n} i = token_gives p n literal_of literal_piece literal_stands i

pub literal_read : {p n : ℕ} (i j : Input) (v : Logic) (at : ℕ) → Fits p n (just (LiteralAt v at)) i j → literal i ≡ Ok ((v, at), j)
unfolding literal
literal_read i j v at h = token_read literal_of literal_piece stands_literal i j (v, at) h

pub literal_kind : {p n : ℕ} (i j : Input) (v : Logic) (at : ℕ) → Fits p n (just (LiteralAt v at)) i j → kind i ≡ k.Literal
unfolding kind
literal_kind [] j v at h = absurd h.takes
literal_kind (c ∷ cs) j v at h = h.takes.0.0

unit_is : (t : List ℕ) (v : TimeUnit) → unit_in t ≡ Some v → t ≡ unit_name v
unit_is t v e =
    named_so unit_name t (codes "fs") u.Fs _ v refl e (λ e.
    named_so unit_name t (codes "ps") u.Ps _ v refl e (λ e.
    named_so unit_name t (codes "ns") u.Ns _ v refl e (λ e.
    named_so unit_name t (codes "us") u.Us _ v refl e (λ e.
    named_so unit_name t (codes "ms") u.Ms _ v refl e (λ e.
    named_so unit_name t (codes "sec") u.Sec _ v refl e (λ e.
    named_so unit_name t (codes "min") u.Min _ v refl e (λ e.
    named_so unit_name t (codes "hr") u.Hr _ v refl e (λ e. absurd (none_not v e)))))))))

is_unit : (v : TimeUnit) → unit_in (unit_name v) ≡ Some v
is_unit u.Fs = refl
is_unit u.Ps = refl
is_unit u.Ns = refl
is_unit u.Us = refl
is_unit u.Ms = refl
is_unit u.Sec = refl
is_unit u.Min = refl
is_unit u.Hr = refl

unit_stands : (t : Token) (v : TimeUnit) → unit_of t ≡ Some v → Stands (UnitWord v) t
unit_stands t v e =
    let r = if_some (same_kind t.kind k.Word) (unit_in t.text) v e in
    (same_is t.kind k.Word r.0, unit_is t.text v r.1)

stands_unit : (t : Token) (v : TimeUnit) → Stands (UnitWord v) t → unit_of t ≡ Some v
stands_unit t v h = rw (is_same t.kind k.Word h.0, h.1, is_unit v) refl

pub unit_gives : {p n : ℕ} (i : Input) → Gives (λ v j. Fits p n (just (UnitWord v)) i j) (unit i)
unfolding unit
unit_gives {p} {n} i = token_gives p n unit_of (λ v. UnitWord v) unit_stands i

pub unit_read : {p n : ℕ} (i j : Input) (v : TimeUnit) → Fits p n (just (UnitWord v)) i j → unit i ≡ Ok (v, j)
unfolding unit
unit_read i j v h = token_read unit_of (λ v. UnitWord v) stands_unit i j v h

-- ---- tokens by their kind

abbrev pub Eaten : ℕ → ℕ → Kind → Input → Bool → Input → Type 0
Eaten p n x i true j = Fits p n (mark x) i j
Eaten p n x i false j = (i ≡ j) × (kind i ≡ x → ⊥)

eat_by : (p n : ℕ) (x : Kind) (i : Input) → (k.EndOfText ≡ x → ⊥) → (b : Bool) → sees x i ≡ b
    → Gives (Eaten p n x i) (cond b (Ok (true, next i)) (Ok (false, i)))
eat_by p n x i m true e = done (marks i x (sees_is x i e) m)
eat_by p n x i m false e = done (refl, λ h. let t : true ≡ false = sym (is_seen x i h) ∙ e in absurd cc)

pub eat_gives : {p n : ℕ} (x : Kind) (i : Input) → (k.EndOfText ≡ x → ⊥) → Gives (Eaten p n x i) (eat x i)
unfolding eat
eat_gives {p} {n} x i m = eat_by p n x i m (sees x i) refl

expect_by : (p n : ℕ) (x : Kind) (i : Input) → (k.EndOfText ≡ x → ⊥) → (b : Bool) → sees x i ≡ b
    → Gives (λ (u : ℕ) (j : Input). Fits p n (mark x) i j)
    (cond b (Ok (place i, next i)) (Err (Rattle.sim_text_grammar.specs.declared.error.ParseError.TheVariants.Syntax (left i))))
expect_by p n x i m true e = done (marks i x (sees_is x i e) m)
expect_by p n x i m false e = refused

pub expect_gives : {p n : ℕ} (x : Kind) (i : Input) → (k.EndOfText ≡ x → ⊥) → Gives (λ u j. Fits p n (mark x) i j) (expect x i)
unfolding expect
expect_gives {p} {n} x i m = expect_by p n x i m (sees x i) refl

pub eat_read : {p n : ℕ} (x : Kind) (i j : Input) → Fits p n (mark x) i j → eat x i ≡ Ok (true, j)
unfolding eat
eat_read x i j h = let r = mark_read i j x h in rw (is_seen x i r.0, r.1) refl

pub eat_not : (x : Kind) (i : Input) → (kind i ≡ x → ⊥) → eat x i ≡ Ok (false, i)
unfolding eat
eat_not x i n = rw (not_seen x i n) refl

pub expect_read : {p n : ℕ} (x : Kind) (i j : Input) → Fits p n (mark x) i j → expect x i ≡ Ok (place i, j)
unfolding expect
expect_read x i j h = let r = mark_read i j x h in rw (is_seen x i r.0, r.1) refl

eat_then_by : {A : Type 0} (q : A → Input → Type 0) (f g : Parser A) (p n : ℕ) (x : Kind) (i : Input) → (k.EndOfText ≡ x → ⊥)
    → (Fits p n (mark x) i (next i) → Gives q (f (next i))) → ((kind i ≡ x → ⊥) → Gives q (g i)) → (b : Bool) → sees x i ≡ b
    → Gives q (and_then (cond b (Ok (true, next i)) (Ok (false, i))) (λ b. cond b f g))
eat_then_by q f g p n x i m y z true e = y (marks i x (sees_is x i e) m)
eat_then_by q f g p n x i m y z false e = z (λ h. let t : true ≡ false = sym (is_seen x i h) ∙ e in absurd cc)

-- a token of this kind and its continuation, or something else
pub eat_then : {A : Type 0} {q : A → Input → Type 0} (f g : Parser A) (p n : ℕ) (x : Kind) (i : Input) → (k.EndOfText ≡ x → ⊥)
    → (Fits p n (mark x) i (next i) → Gives q (f (next i))) → ((kind i ≡ x → ⊥) → Gives q (g i)) → Gives q (and_then (eat x i) (λ b. cond b f g))
unfolding eat
eat_then {A} {q} f g p n x i m y z = eat_then_by q f g p n x i m y z (sees x i) refl

sees_then_by : {A : Type 0} (q : A → Input → Type 0) (f g : ParseResult A) (x : Kind) (i : Input) → (kind i ≡ x → Gives q f)
    → ((kind i ≡ x → ⊥) → Gives q g) → (b : Bool) → sees x i ≡ b → Gives q (cond b f g)
sees_then_by q f g x i y z true e = y (sees_is x i e)
sees_then_by q f g x i y z false e = z (λ h. let t : true ≡ false = sym (is_seen x i h) ∙ e in absurd cc)

pub sees_then : {A : Type 0} {q : A → Input → Type 0} {f g : ParseResult A} (x : Kind) (i : Input) → (kind i ≡ x → Gives q f)
    → ((kind i ≡ x → ⊥) → Gives q g) → Gives q (cond (sees x i) f g)
sees_then {A} {q} {f} {g} x i y z = sees_then_by q f g x i y z (sees x i) refl

pub eaten_written : {p n : ℕ} (x : Kind) (i j : Input) (b : Bool) → Eaten p n x i b j → Fits p n (if_written b (mark x)) i j
eaten_written x i j true h = h
eaten_written x i j false h = none_to h.0

-- an optional token is read, if the next token is of another kind
pub written_read : {p n : ℕ} (x : Kind) (i j : Input) (b : Bool) → Fits p n (if_written b (mark x)) i j → (kind j ≡ x → ⊥) → eat x i ≡ Ok (b, j)
written_read x i j true h stop = eat_read x i j h
written_read x i j false h stop = let e = none_read h in rw e (eat_not x j stop)
