-- The type of readers, the readers of single tokens and of lists, and the ways to combine readers.
use Rattle.std.specs.Prelude.{◌≡◌, ◌≢◌, ℕ, zero, suc, Bool, true, false, if◌then◌else◌, List, [], ◌∷◌, ◌++◌, length, Option, Some, None, Result, Ok, Err, codes}
use Rattle.std.specs.Str.{bytes_eq}
use denote.Enum.Bare.{sameb}
use Rattle.sim_logic.specs.declared.logic.Logic.{Logic}
use Rattle.sim_logic.specs.declared.logic.Logic.TheVariants as value
use Rattle.sim_logic.specs.declared.time.Unit.{Unit as TimeUnit}
use Rattle.sim_logic.specs.declared.time.Unit.TheVariants as u
use Rattle.sim_text_tokens.specs.contracts.kind.Kind.{the_type}
use Rattle.sim_text_tokens.specs.Token.{Token}
use Rattle.sim_text_tokens.specs.declared.kind.Kind.{Kind}
use Rattle.sim_text_tokens.specs.declared.kind.Kind.TheVariants as k
use Rattle.sim_text_tree.specs.Name.{Name}
use Rattle.sim_text_tree.specs.Input.{Input, kind, place, next}
use Rattle.sim_text_grammar.specs.declared.error.ParseError.{ParseError}
use Rattle.sim_text_grammar.specs.declared.error.ParseError.TheVariants.{OutOfMemory, Syntax}

-- the number of remaining tokens
unfoldable pub left : Input → ℕ
left i = length i

-- ---- parsers

-- the result and the remaining tokens, or a fault
abbrev pub ParseResult : Type 0 → Type 0
ParseResult A = Result (A × Input) ParseError

-- a reader of one rule
abbrev pub Parser : Type 0 → Type 0
Parser A = Input → ParseResult A

-- continues with the result, unless there was a fault
abbrev pub and_then : {A B : Type 0} → ParseResult A → (A → Parser B) → ParseResult B
and_then (Ok p) f = f p.0 p.1
and_then (Err e) f = Err e

-- one parser, and then one that depends on its result
infixl 10 ◌>>=◌
abbrev pub ◌>>=◌ : {A B : Type 0} → Parser A → (A → Parser B) → Parser B
p >>= f = λ i. and_then (p i) f

-- one parser after the other
infixl 10 ◌>>◌
abbrev pub ◌>>◌ : {A B : Type 0} → Parser A → Parser B → Parser B
p >> q = p >>= (λ _. q)

-- reads nothing
abbrev pub pure : {A : Type 0} → A → Parser A
pure a = λ i. Ok (a, i)

-- a fault at the next token
abbrev pub refuse : {A : Type 0} → Parser A
refuse = λ i. Err (Syntax (left i))

-- the kind of the next token, which is not consumed
abbrev pub peek : Parser Kind
peek = λ i. Ok (kind i, i)

-- consumes the next token; the result is where it starts
abbrev pub take_token : Parser ℕ
take_token = λ i. Ok (place i, next i)

-- ---- single tokens

-- the value, or a fault if there is none
abbrev pub found_or : {A : Type 0} → Option A → Input → Input → ParseResult A
found_or (Some a) i rest = Ok (a, rest)
found_or None i rest = Err (Syntax (left i))

-- the next token, if it has a meaning
abbrev pub token_as : {A : Type 0} → (Token → Option A) → Parser A
token_as f [] = Err (Syntax 0)
token_as f (t ∷ ts) = found_or (f t) (t ∷ ts) ts

-- the value, if the condition holds
abbrev pub only_if : {A : Type 0} → Bool → Option A → Option A
only_if true a = a
only_if false a = None

-- `==` on kinds
unfoldable pub same_kind : Kind → Kind → Bool
same_kind = sameb the_type

-- the name that a token is, if it is a word
abbrev pub name_of : Token → Option Name
name_of t = only_if (same_kind t.kind k.Word) (Some (record { text = t.text; at = t.start }))

-- a name
unfoldable pub word : Parser Name
word = token_as name_of

-- the value of a character literal's text (IEEE 1164)
abbrev pub logic_of : List ℕ → Option Logic
logic_of t =
    if bytes_eq t (codes "U") then Some value.U else
    (if bytes_eq t (codes "X") then Some value.X else
    (if bytes_eq t (codes "0") then Some value.Zero else
    (if bytes_eq t (codes "1") then Some value.One else
    (if bytes_eq t (codes "Z") then Some value.Z else
    (if bytes_eq t (codes "W") then Some value.W else
    (if bytes_eq t (codes "L") then Some value.L else
    (if bytes_eq t (codes "H") then Some value.H else
    (if bytes_eq t (codes "-") then Some value.Dash else None))))))))

-- a value, with the start of its token
abbrev pub placed : Token → Option Logic → Option (Logic × ℕ)
placed t (Some v) = Some (v, t.start)
placed t None = None

-- the value of a token and its start, if it is a character literal
abbrev pub literal_of : Token → Option (Logic × ℕ)
literal_of t = only_if (same_kind t.kind k.Literal) (placed t (logic_of t.text))

-- a character literal, and where it starts
unfoldable pub literal : Parser (Logic × ℕ)
literal = token_as literal_of

-- the digits of a token and its start, if it is a number
abbrev pub number_of : Token → Option (List ℕ × ℕ)
number_of t = only_if (same_kind t.kind k.Number) (Some (t.text, t.start))

-- the digits of a number, and where it starts
unfoldable pub number : Parser (List ℕ × ℕ)
number = token_as number_of

-- the unit with this name (IEEE 1076-2008, 5.2.4.2)
abbrev pub unit_in : List ℕ → Option TimeUnit
unit_in t =
    if bytes_eq t (codes "fs") then Some u.Fs else
    (if bytes_eq t (codes "ps") then Some u.Ps else
    (if bytes_eq t (codes "ns") then Some u.Ns else
    (if bytes_eq t (codes "us") then Some u.Us else
    (if bytes_eq t (codes "ms") then Some u.Ms else
    (if bytes_eq t (codes "sec") then Some u.Sec else
    (if bytes_eq t (codes "min") then Some u.Min else
    (if bytes_eq t (codes "hr") then Some u.Hr else None)))))))

-- the unit of time that a token names
abbrev pub unit_of : Token → Option TimeUnit
unit_of t = only_if (same_kind t.kind k.Word) (unit_in t.text)

-- a unit of time
unfoldable pub unit : Parser TimeUnit
unit = token_as unit_of

-- a token that must be this word
abbrev pub word_is : List ℕ → Token → Option (Unit {0})
word_is text t = only_if (same_kind t.kind k.Word) (only_if (bytes_eq t.text text) (Some tt))

-- the same word, repeated
unfoldable pub repeat : List ℕ → Parser (Unit {0})
repeat text = token_as (word_is text)

-- the word `event`
unfoldable pub event : Parser (Unit {0})
event = token_as (word_is (codes "event"))

-- whether the next token is of this kind
unfoldable pub sees : Kind → Input → Bool
sees x i = same_kind (kind i) x

-- consumes a token of this kind, if it comes next
unfoldable pub eat : Kind → Parser Bool
eat x = λ i. if sees x i then Ok (true, next i) else Ok (false, i)

-- consumes a token of this kind; the result is where it starts
unfoldable pub expect : Kind → Parser ℕ
expect x = λ i. if sees x i then Ok (place i, next i) else Err (Syntax (left i))

-- ---- lists

-- further items, while the next token leads to one, at most n
unfoldable pub many_from : {A : Type 0} → (Kind → Bool) → Parser A → ℕ → List A → Parser (List A)
many_from goes_on item zero found = pure found
many_from goes_on item (suc n) found = λ i. if goes_on (kind i) then and_then (item i) (λ a. many_from goes_on item n (found ++ a ∷ [])) else Ok (found, i)

-- items, while the next token begins one
unfoldable pub many : {A : Type 0} → (Kind → Bool) → Parser A → Parser (List A)
many goes_on item = λ i. many_from goes_on item (left i) [] i

-- items, separated by tokens of this kind
unfoldable pub separated : {A : Type 0} → Kind → Parser A → Parser (List A)
separated x item = item >>= λ a. λ i. many_from (λ y. same_kind y x) (take_token >> item) (left i) (a ∷ []) i

-- ---- the contract of a function that parses: the parser's outcome, unless memory fails

-- The parser has this outcome, unless memory failed.
abbrev pub Reads : {A : Type 0} → ParseResult A → Result A ParseError → Input → Type 0
Reads outcome (Ok a) new = outcome ≡ Ok (a, new)
Reads outcome (Err e) new = e ≢ OutOfMemory → outcome ≡ Err e

-- The parser has the outcome that `made` gives for this result, unless memory failed.
abbrev pub ReadsAs : {A V : Type 0} → ParseResult A → Result V ParseError → (V → A) → Input → Type 0
ReadsAs outcome (Ok v) made new = outcome ≡ Ok (made v, new)
ReadsAs outcome (Err e) made new = e ≢ OutOfMemory → outcome ≡ Err e
