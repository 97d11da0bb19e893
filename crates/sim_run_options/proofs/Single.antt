-- Parsing the program's words ends with at most one kind of error.
use Rattle.std.proofs.Common.{◌≡◌, ◌∙◌, ◌&&◌, ◌+◌, ℕ, Bool, true, false, not, List, [], ◌∷◌, Option, Some, None, length, min, refl, sym, inl, inr}
use Rattle.std.proofs.Common.{zero, suc}
use Rattle.clap.specs.Matches.{count_text}
use Rattle.std.specs.Prelude.{◌==◌, if◌then◌else◌, codes, drop, encode_utf8, nat_lt}
use Rattle.std.specs.Option.{is_some, option_map_or}
use Rattle.std.specs.Str.{bytes_eq}
use Rattle.clap.specs.Lexer.{long_of}
use Rattle.clap.specs.Facts.{parser_of_value, unwrap_or_range}
use Rattle.clap.specs.Faults.{action_fault, bundle_step_fault, count_fault, default_fault, defaults_fault, fault_of, flag_word_fault}
use Rattle.clap.specs.Faults.{flags_fault, long_fault, option_fault, other_fault, entered_fault, react_fault}
use Rattle.clap.specs.Faults.{set_fault, settle_fault, short_fault, step_fault, stray_fault, turn_fault, use_fault, walk_fault, word_fault}
use Rattle.clap.specs.Kinds.{IsAmong, Kinds, check_kinds, or_else, range_kinds, request_kinds, value_kinds, values_kinds}
use Rattle.clap.specs.Simple.{App, Shape, built, names_of}
use Rattle.clap.specs.Walk.{Held, Names, arg_by_id, arg_by_index, arg_by_long, arg_by_short, subcommand_met, word_met, count_of, is_pending}
use Rattle.clap.specs.Walk.{most_values, takes_several, settled, Row, Rule, Step, Text, Waiting, Walk, action_of, next, nothing_held, subcommand}
use Rattle.clap.specs.Walk.{trailing, value, values_or_missing, walk, walk_from, walked, with_default}
use Rattle.clap.specs.declared.builder.action.ArgAction.{ArgAction}
use Rattle.clap.specs.declared.builder.action.ArgAction.TheVariants as action
use Rattle.clap.specs.declared.builder.value_parser.ValueParser.{ValueParser}
use Rattle.clap.specs.declared.error.kind.ErrorKind.{ErrorKind}
use Rattle.sim_run_options.specs.Asks.{program}

abbrev HasOne : Kinds → Type 0
HasOne [] = Unit {0}
HasOne (k ∷ []) = Unit {0}
HasOne (k ∷ j ∷ ks) = ⊥

-- no two kinds
pub record IsSingle (ks : Kinds) : Type 0 where
  pub single : HasOne ks

none : IsSingle []
none = record { single = tt }

sole : {k : ErrorKind} → IsSingle (k ∷ [])
sole = record { single = tt }

-- two kinds are the same one
pub same_kind : (ks : Kinds) (j k : ErrorKind) → IsSingle ks → IsAmong j ks → IsAmong k ks → j ≡ k
same_kind [] j k one a b = absurd a
same_kind (x ∷ []) j k one (inl a) (inl b) = a ∙ sym b
same_kind (x ∷ []) j k one (inl a) (inr b) = absurd b
same_kind (x ∷ []) j k one (inr a) b = absurd a
same_kind (x ∷ y ∷ ks) j k one a b = absurd one.single

both : {a b : Kinds} → IsSingle a → IsSingle b → IsSingle (or_else a b)
both {a = []} one two = two
both {a = k ∷ []} one two = sole
both {a = k ∷ j ∷ ks} one two = absurd one.single

either : (t : Bool) {a b : Kinds} → IsSingle a → IsSingle b → IsSingle (if t then a else b)
either true one two = one
either false one two = two

optional_or : {X : Type 0} {f : X → Kinds} (o : Option X) {ks : Kinds} → ((x : X) → IsSingle (f x)) → IsSingle ks → IsSingle (option_map_or f o ks)
optional_or None one other = other
optional_or (Some x) one other = one x

optional : {X : Type 0} {f : X → Kinds} (o : Option X) → ((x : X) → IsSingle (f x)) → IsSingle (option_map_or f o [])
optional o one = optional_or o one none

-- ---- one use of an argument

one_value : (b : Bool) (q : ValueParser) (t : Text) → IsSingle (value_kinds b q t)
one_value b q t = either _ none sole

each_value : (b : Bool) (q : ValueParser) (ts : List Text) → IsSingle (values_kinds b q ts)
each_value b q [] = none
each_value b q (t ∷ ts) = both (one_value b q t) (each_value b q ts)

ranged : (p q r s t : Bool) (w x y z : ErrorKind)
    → IsSingle (if p then w ∷ [] else (if q then (if r then [] else x ∷ []) else (if s then y ∷ [] else (if t then z ∷ [] else []))))
ranged true q r s t w x y z = sole
ranged false true true s t w x y z = none
ranged false true false s t w x y z = sole
ranged false false r true t w x y z = sole
ranged false false r false true w x y z = sole
ranged false false r false false w x y z = none

in_range : (least most n : ℕ) → IsSingle (range_kinds least most n)
in_range least most n = ranged (nat_lt 0 least && n == 0) (least == most) (least == n) (nat_lt n least) (nat_lt most n) _ _ _ _

requested : (x : ArgAction) → IsSingle (request_kinds x)
requested action.Set = none
requested action.Append = none
requested action.SetTrue = none
requested action.SetFalse = none
requested action.Count = none
requested action.Help = sole
requested action.HelpShort = sole
requested action.HelpLong = sole
requested action.Version = sole

set_one : (again : Bool) (a : Rule) (ts : List Text) (rows : List Row) → IsSingle (set_fault again a ts rows)
set_one again a ts rows = both (either _ sole none) (each_value a.ignore_case (parser_of_value a.parser) ts)

count_one : (a : Rule) (ts : List Text) (rows : List Row) → IsSingle (count_fault a ts rows)
count_one a [] rows = one_value a.ignore_case (parser_of_value a.parser) (count_text (min (count_of a.id rows + 1) 255))
count_one a (t ∷ ts) rows = each_value a.ignore_case (parser_of_value a.parser) (t ∷ ts)

acted : (x : ArgAction) (again : Bool) (a : Rule) (ts : List Text) (rows : List Row) → IsSingle (action_fault x again a ts rows)
acted action.Set again a ts rows = set_one again a ts rows
acted action.SetTrue again a ts rows = set_one again a ts rows
acted action.SetFalse again a ts rows = set_one again a ts rows
acted action.Append again a ts rows = each_value a.ignore_case (parser_of_value a.parser) ts
acted action.Count again a ts rows = count_one a ts rows
acted action.Help again a ts rows = sole
acted action.HelpShort again a ts rows = sole
acted action.HelpLong again a ts rows = sole
acted action.Version again a ts rows = sole

used_one : (again : Bool) (a : Rule) (ts : List Text) (rows : List Row) → IsSingle (use_fault again a ts rows)
used_one again a ts rows =
    both (in_range (unwrap_or_range a.range).start_inclusive (most_values a) (length ts)) (acted (action_of a) again a (values_or_missing a ts) rows)

-- ---- the walk

settled_one : (c : List Rule) (again : Bool) (h : Held) → IsSingle (settle_fault c again h)
settled_one c again h = optional h.pending (λ p. optional (arg_by_id c p.0) (λ a. used_one again a p.1 h.rows))

reacted_one : (c : List Rule) (again : Bool) (a : Rule) (ts : List Text) (h : Held) → IsSingle (react_fault c again a ts h)
reacted_one c again a ts h = both (settled_one c again h) (used_one again a ts _)

option_one : (c : List Rule) (again : Bool) (a : Rule) (o : Option Text) (h : Held) → IsSingle (option_fault c again a o h)
option_one c again a (Some t) h = reacted_one c again a (t ∷ []) h
option_one c again a None h = settled_one c again h

long_one : (c : List Rule) (again : Bool) (a : Option Rule) (o : Option Text) (h : Held) → IsSingle (long_fault c again a o h)
long_one c again None o h = sole
long_one c again (Some a) o h = either _ (option_one c again a o h) (either _ sole (reacted_one c again a [] h))

short_one : (c : List Rule) (again : Bool) (a : Option Rule) (rest : Text) (h : Held) (more : Held → Kinds) → ((g : Held) → IsSingle (more g))
    → IsSingle (short_fault c again a rest h more)
short_one c again None rest h more one = sole
short_one c again (Some a) rest h more one = either _ (option_one c again a _ h) (both (reacted_one c again a [] h) (one _))

letter_one : (c : List Rule) (again : Bool) (x : Option ℕ) (flags : Text) (skip : ℕ) (h : Held) (more : Text → ℕ → Held → Kinds)
    → ((t : Text) (n : ℕ) (g : Held) → IsSingle (more t n g)) → IsSingle (bundle_step_fault c again x flags skip h more)
letter_one c again None flags skip h more one = none
letter_one c again (Some x) flags zero h more one =
    let rest = drop (length (encode_utf8 x)) flags in
    short_one c again (arg_by_short c x) rest h (more rest 0) (λ g. one rest 0 g)
letter_one c again (Some x) flags (suc skip) h more one = one (drop (length (encode_utf8 x)) flags) skip h

letters_one : (c : List Rule) (again : Bool) (n : ℕ) (flags : Text) (skip : ℕ) (h : Held) → IsSingle (flags_fault c again n flags skip h)
unfolding flags_fault
letters_one c again zero flags skip h = none
letters_one c again (suc n) flags skip h = letter_one c again _ flags skip h (flags_fault c again n) (λ t k g. letters_one c again n t k g)

flag_one : (c : List Rule) (again : Bool) (o : Option (Text × Option Text)) (word : Text) (h : Held) → IsSingle (flag_word_fault c again o word h)
flag_one c again (Some p) word h = long_one c again (arg_by_long c p.0) p.1 h
flag_one c again None word h = optional _ (λ flags. letters_one c again _ flags _ _)

-- a command without subcommands
no_help_word : (t : Bool) (two : Kinds) → IsSingle (if t && not true then two else [])
no_help_word true two = none
no_help_word false two = none

other_one : (s : Shape) (o : Option Text) (word : Text) (h : Held) → s.disable_help_subcommand ≡ true → IsSingle (other_fault s o word h)
other_one s (Some name) word h helpless = rw helpless (no_help_word (bytes_eq name (codes "help")) _)
other_one s None word h helpless = either _ none (flag_one s.rules s.args_override_self (long_of word) word h)

stray_one : (s : Shape) → s.is_leaf ≡ true → IsSingle (stray_fault s)
stray_one s leaf = rw leaf sole

step_one : (s : Shape) (n : ℕ) (h : Held) (x : Step) → s.is_leaf ≡ true → IsSingle (step_fault s n h x)
step_one s n h value leaf = optional_or (arg_by_index s.rules n)
    (λ a. either (is_pending a h.pending && takes_several a) none (settled_one s.rules s.args_override_self h)) (stray_one s leaf)
step_one s n h (next w) leaf = none
step_one s n h (trailing k) leaf = none
step_one s n h (subcommand t) leaf = none

word_one : (s : Shape) (names : Names) (t : Bool) (w : Waiting) (word : Text) (h : Held) → s.disable_help_subcommand ≡ true
    → IsSingle (word_fault s names t w word h)
word_one s names t w word h helpless = either t none (other_one s (subcommand_met names w word) word h helpless)

turn_one : (s : Shape) (names : Names) (w : Walk) (word : Text) → s.disable_help_subcommand ≡ true → s.is_leaf ≡ true
    → IsSingle (turn_fault s names w word)
turn_one s names w word helpless leaf =
    let met = word_met s.rules names w.is_trailing w.waiting w.position word w.held in
    either (is_some w.stopped) none (both (word_one s names w.is_trailing w.waiting word w.held helpless) (step_one s w.position met.0 met.1 leaf))

walk_one : (s : Shape) (names : Names) (w : Walk) (words : List Text) → s.disable_help_subcommand ≡ true → s.is_leaf ≡ true
    → IsSingle (walk_fault s names w words)
unfolding walk_fault
walk_one s names w [] helpless leaf = none
walk_one s names w (word ∷ words) helpless leaf =
    both (turn_one s names w word helpless leaf) (walk_one s names (walked s.rules names w word) words helpless leaf)

-- ---- after the walk

default_one : (rows : List Row) (a : Rule) → IsSingle (default_fault rows a)
default_one rows a = either _ none (both (requested (action_of a)) (each_value a.ignore_case (parser_of_value a.parser) a.defaults))

defaults_one : (rows : List Row) (rules : List Rule) → IsSingle (defaults_fault rows rules)
unfolding defaults_fault
defaults_one rows [] = none
defaults_one rows (a ∷ rules) = both (default_one rows a) (defaults_one (with_default rows a) rules)

checked_one : (x y z : Bool) → IsSingle (check_kinds x y z)
checked_one true y z = sole
checked_one false true z = sole
checked_one false false true = sole
checked_one false false false = none

abbrev whole : App
whole = built program

pub single_fault : (words : List Text) → IsSingle (fault_of program words)
single_fault words =
    let w = walk whole.top.rules (names_of whole) nothing_held words in
    both (walk_one whole.top (names_of whole) (walk_from nothing_held) words refl refl)
    (both {a = entered_fault whole w.stopped} (optional w.stopped (λ p. none))
    (both (settled_one whole.top.rules whole.top.args_override_self w.held)
    (both (defaults_one (settled whole.top.rules w.held).rows whole.top.rules) (checked_one _ _ _))))
