-- What a parse of the command line gives for each option.
use Rattle.std.proofs.Common.{◌≡◌, ◌≢◌, ◌⊎◌, ◌∙◌, ◌<◌, ◌≤◌, ◌&&◌, ◌==◌, ◌^◌, ℕ, Bool, true, false, List, [], ◌∷◌, length, map}
use Rattle.std.proofs.Common.{Option, Some, None, Result, inl, inr, refl, sym, ap, subst, arith}
use Rattle.std.proofs.Common.{suc, zero, codes, option_map, slice_get, pos, not, if◌then◌else◌}
use Rattle.std.specs.List.{All, slice_index_or, find}
use Rattle.std.specs.Option.{is_some}
use Rattle.std.specs.Str.{bytes_eq}
use Rattle.std.specs.Borrow.{Bor}
use Rattle.std.specs.Str.Parse.{HasUnsignedDigitsIfOk, IsNumeral, ParsesUnsigned, digits_value, without_leading_plus}
use Rattle.std.proofs.lemmas.List.{length-map, get_or-map}
use Rattle.std.proofs.lemmas.List.Elements.{All-get_or}
use Rattle.std.proofs.lemmas.Bool.{eqb-true, ne_eqb}
use Rattle.std.proofs.lemmas.Int.{ints}
use Rattle.std.proofs.lemmas.Str.Parse.{digit_from_value}
use Rattle.std.proofs.Common.{cond, drop}
use Rattle.std.specs.Prelude.{unwrap_or}
use Rattle.std.specs.Str.Parse.{starts_with_minus}
use Rattle.clap.specs.Lexer.{without_minus}
use Rattle.clap.specs.Texts.{items_of}
use Rattle.clap.specs.Facts.{IsParsed, unwrap_or_range}
use Rattle.clap.specs.declared.builder.value_parser.ValueParser.TheVariants as parser
use Rattle.std.proofs.lemmas.Slice.Eq.{bytes_eq-Decides}
use Rattle.clap.specs.Facts.{Entry, EntryPasses, HasIn, PassesArg, args_of, groups_of, least_values, parser_of, parser_of_value}
use Rattle.clap.specs.Built.{IsParsedFrom, IsPlain, IsPlainArg, SameRules}
use Rattle.clap.specs.Matches.{ReadsOne, first_value, found_of, has_subcommand, matched_of, one_text}
use Rattle.clap.specs.Simple.{App, HasMatchesOf, app_of, matches_of}
use Rattle.clap.specs.Faults.{fault_of, is_simple_and_free}
use Rattle.clap.specs.Kinds.{IsAmong}
use Rattle.clap.specs.declared.error.kind.ErrorKind.{ErrorKind}
use Rattle.clap.specs.declared.error.kind.ErrorKind.TheVariants as kind
use Rattle.clap.proofs.WalkLemmas.{one_text-rows}
use Rattle.sim_run_options.specs.declared.fault.CliFault.{CliFault}
use Rattle.sim_run_options.specs.declared.fault.CliFault.TheVariants as fault
use Rattle.clap.specs.Values.{Accepts, read_as, reading_of}
use Rattle.clap.specs.Walk.{Rule, Text, is_empty, is_free_arg, is_simple_arg, one_of, rows_of, rule_of}
use Rattle.clap.specs.declared.builder.action.ArgAction.TheVariants.{Count, Set}
use Rattle.clap.specs.declared.builder.arg.Arg.{Arg}
use Rattle.clap.specs.declared.builder.command.Command.{Command}
use Rattle.clap.specs.declared.builder.command.Command.TheViews.{out-Command}
use Rattle.clap.specs.declared.builder.value_parser.ValueParser.{ValueParser}
use Rattle.clap.specs.declared.parser.matches.ArgMatches.{ArgMatches}
use Rattle.clap.specs.declared.parser.matches.Found.{Found}
use Rattle.clap.specs.declared.parser.matches.MatchedArg.{MatchedArg}
use Rattle.clap.proofs.CallerLemmas.{default_present, entry_by_id, required_has_value, same_rules_by_id}
use Rattle.sim_run_options.specs.Asks.{Explains, Tells, number_of, program, top_rule}

-- ---- the rules of the command, from what a parse reads of it

and_left : (a b : Bool) → (a && b) ≡ true → a ≡ true
and_left true b e = refl
and_left false b e = cc

and_right : (a b : Bool) → (a && b) ≡ true → b ≡ true
and_right true b e = e
and_right false b e = cc

not_true : (b : Bool) → not b ≡ true → b ≡ false
not_true true e = cc
not_true false e = refl

no_some : {X : Type 0} (o : Option X) → not (is_some o) ≡ true → o ≡ None
no_some None e = refl
no_some (Some x) e = cc

no_items : {X : Type 0} (xs : List X) → is_empty xs ≡ true → xs ≡ []
no_items [] e = refl
no_items (x ∷ xs) e =
    let none = eqb-true (length (x ∷ xs)) 0 e in
    absurd (omega arith)

rules_same : (c : Command) → app_of c ≡ program → map rule_of (args_of c) ≡ program.top.rules
rules_same c e = ap (λ (a : App). a.top.rules) e

six : (c : Command) → app_of c ≡ program → length (args_of c) ≡ 6
six c e = sym (length-map (args_of c) rule_of) ∙ ap length (rules_same c e)

-- the rule of the argument at an index
abbrev at : ℕ → Rule
at k = slice_index_or program.top.rules k top_rule

rule_at : (c : Command) → app_of c ≡ program → (k : ℕ) (d : Arg) → k < 6 → rule_of (slice_index_or (args_of c) k d) ≡ at k
rule_at c e k d lt =
    sym (get_or-map rule_of (args_of c) k d top_rule (subst (λ n. k < n) (sym (six c e)) lt)) ∙ ap (λ rs. slice_index_or rs k top_rule) (rules_same c e)

all_simple : (k : ℕ) → (at k).is_simple ≡ true
all_simple zero = refl
all_simple (suc zero) = refl
all_simple (suc (suc zero)) = refl
all_simple (suc (suc (suc zero))) = refl
all_simple (suc (suc (suc (suc zero)))) = refl
all_simple (suc (suc (suc (suc (suc zero))))) = refl
all_simple (suc (suc (suc (suc (suc (suc k)))))) = refl

all_free : (k : ℕ) → (at k).is_free ≡ true
all_free zero = refl
all_free (suc zero) = refl
all_free (suc (suc zero)) = refl
all_free (suc (suc (suc zero))) = refl
all_free (suc (suc (suc (suc zero)))) = refl
all_free (suc (suc (suc (suc (suc zero))))) = refl
all_free (suc (suc (suc (suc (suc (suc k)))))) = refl

abbrev letter : Text → ℕ
letter t = slice_index_or t 0 0

-- ids differ in their fourth letters
abbrev place : Text → ℕ
place t =
    let x = slice_index_or t 3 0 in
    if x == 0 then 0 else (if x == 112 then 1 else (if x == 105 then 2 else (if x == 107 then 3 else (if x == 103 then 4 else 5))))

placed : (k : ℕ) → k < 6 → place (at k).id ≡ k
placed zero lt = refl
placed (suc zero) lt = refl
placed (suc (suc zero)) lt = refl
placed (suc (suc (suc zero))) lt = refl
placed (suc (suc (suc (suc zero)))) lt = refl
placed (suc (suc (suc (suc (suc zero))))) lt = refl
placed (suc (suc (suc (suc (suc (suc k)))))) lt = absurd (omega arith)

-- what holds for each argument of the command
record Fits (c : Command) (k : ℕ) (d : Arg) : Type 0 where
  rule : rule_of (slice_index_or (args_of c) k d) ≡ at k
  inside : k < length (args_of c)
  plain : IsPlainArg (slice_index_or (args_of c) k d)
  delimiter : (slice_index_or (args_of c) k d).val_delim ≡ None
  conditions : (slice_index_or (args_of c) k d).default_vals_ifs.items ≡ []

simple_of : (a : Arg) → is_simple_arg a ≡ true → (a.overrides.items ≡ []) × (a.default_vals_ifs.items ≡ []) × (a.groups.items ≡ []) × (a.val_delim ≡ None)
simple_of a e =
    let b = and_right _ _ e in
    let g = and_right _ _ b in
    let v = and_right _ _ g in (
      no_items _ (and_left _ _ e),
      no_items _ (and_left _ _ b),
      no_items _ (and_left _ _ g),
      no_some _ (and_left _ _ v),
    )

free_of : (a : Arg) → is_free_arg a ≡ true → (a.exclusive ≡ false) × (a.conflicts.items ≡ [])
free_of a e = (not_true _ (and_left _ _ e), no_items _ (and_left _ _ (and_right _ _ e)))

fits : (c : Command) → app_of c ≡ program → (k : ℕ) (d : Arg) → k < 6 → Fits c k d
fits c e k d lt =
    let rule = rule_at c e k d lt in
    let simple = simple_of (slice_index_or (args_of c) k d) (ap (λ (r : Rule). r.is_simple) rule ∙ all_simple k) in
    let free = free_of (slice_index_or (args_of c) k d) (ap (λ (r : Rule). r.is_free) rule ∙ all_free k) in
    record {
      rule = rule;
      inside = subst (λ n. k < n) (sym (six c e)) lt;
      plain = (free.0, free.1, simple.0, simple.2);
      delimiter = simple.3;
      conditions = simple.1;
    }

is_plain : (c : Command) → app_of c ≡ program → IsPlain c
is_plain c e = (
  λ k d lt. (fits c e k d (subst (λ n. k < n) (six c e) lt)).plain,
  no_items _ (and_left _ _ (ap (λ (a : App). a.top.is_plain) e)),
)

no_globals : (c : Command) → app_of c ≡ program → (out-Command c).has_globals ≡ false
no_globals c e = not_true _ (and_left _ _ (and_right _ _ (and_right _ _ (ap (λ (a : App). a.top.is_plain) e))))

negates_nothing : (c : Command) → app_of c ≡ program → (out-Command c).subcommand_negates_reqs ≡ false
negates_nothing c e = ap (λ (a : App). a.top.subcommand_negates_reqs) e

an_arg : (xs : List Arg) → length xs ≡ 6 → Arg
an_arg [] e = absurd (omega arith)
an_arg (x ∷ xs) e = x

-- no other argument has the id
only : (c : Command) → app_of c ≡ program → (k : ℕ) (d : Arg) → k < 6 → (j : ℕ) (x : Arg) → j < length (args_of c)
    → bytes_eq (slice_index_or (args_of c) j x).id.now (slice_index_or (args_of c) k d).id.now ≡ true → j ≡ k
only c e k d lt j x inside same =
    let below : j < 6 = subst (λ n. j < n) (six c e) inside in
    let mine = ap (λ (r : Rule). r.id) (rule_at c e k d lt) in
    let its = ap (λ (r : Rule). r.id) (rule_at c e j x below) in
    let equal : (at j).id ≡ (at k).id = sym its ∙ ((bytes_eq-Decides _ _).0 same ∙ mine) in
    sym (placed j below) ∙ (ap place equal ∙ placed k lt)

-- ---- values

-- What was found for an option with a number: a text that is a decimal numeral below 2^bits.
pub record IsNumber (f : Found) (id : Text) (bits : ℕ) : Type 0 where
  pub text : Text
  pub read : one_text f id ≡ Some text
  pub numeral : IsNumeral 10 (without_leading_plus text)
  pub small : digits_value 10 (without_leading_plus text) < 2 ^ bits

-- what `from_str` of an unsigned type answers, including its errors
abbrev Parses : {E : Type 0} → (List ℕ → Result ℕ E → Type 0) → ℕ → List ℕ → Result ℕ E → Type 0
Parses explains bits t r = ParsesUnsigned bits 10 t r × explains t r × HasUnsignedDigitsIfOk t r

-- so the getter reads that number
pub number_read : {E : Type 0} (explains : List ℕ → Result ℕ E → Type 0) (f : Found) (id : Text) (bits : ℕ) (r : Option ℕ)
    → ((t : List ℕ) → one_text f id ≡ Some t → ReadsOne (Parses explains bits) t r)
    → (n : IsNumber f id bits) → r ≡ Some (digits_value 10 (without_leading_plus n.text))
number_read {E} explains f id bits r value n = go r (value n.text n.read)
  where
    go : (o : Option ℕ) → ReadsOne (Parses explains bits) n.text o → o ≡ Some (digits_value 10 (without_leading_plus n.text))
    go (Some x) h = ap Some h.0.1
    go None h = absurd (h.1.0 (n.numeral, n.small))

-- ---- the entry of an option that takes a value

no_group : (c : Command) (x : Entry) (id : Text) → groups_of c ≡ [] → (id ≡ [] → ⊥) → x.0.now ≡ id → EntryPasses c x → x.1.is_group ≡ true → ⊥
no_group c x id groups named key passes is = elim (passes.3 is) [
  | inl empty ↦ named (sym key ∙ empty)
  | inr some ↦
      let bad : 0 < 0 = rw groups at some in
      omega arith
]

-- all arguments with this id are read like `a`
abbrev AreAs : Command → Text → Arg → Type 0
AreAs c id a = (j : ℕ) (x : Arg) → j < length (args_of c) → slice_index_or (args_of c) j x ≡ x → bytes_eq x.id.now id ≡ true → SameRules a x

has_values : (c : Command) (x : Entry) (id : Text) (a : Arg) → groups_of c ≡ [] → (id ≡ [] → ⊥) → x.0.now ≡ id → EntryPasses c x → AreAs c id a
    → a.action ≡ Some Set → a.val_delim ≡ None → 1 ≤ least_values a → 0 < length x.1.vals.items
has_values c x id a groups named key passes same set delimiter least = elim passes.1 [
  | inl group ↦ absurd (no_group c x id groups named key passes group.0)
  | inr (inl some) ↦ some
  | inr (inr (inl counted)) ↦
      let its = counted.1 in
      let rules = same its.0 its.1 its.2 its.3 (subst (λ t. bytes_eq its.1.id.now t ≡ true) key its.4.0) in
      let bad : Set ≡ Count = rw (rules.action Set set) at its.4.1 in
      cc
  | inr (inr (inr its)) ↦
      let rules = same its.0 its.1 its.2 its.3 (subst (λ t. bytes_eq its.1.id.now t ≡ true) key its.4.0) in
      elim its.4.1 [
        | inl none ↦ let some = rules.least set least in absurd (omega arith)
        | inr split ↦
            let bad : false ≡ true = rw (rules.val_delim, delimiter) at split in
            cc
      ]
]

-- the first value passed the parser, and is read as the parser says
value_read : (c : Command) (x : Entry) (id : Text) (a : Arg) (q : ValueParser) → groups_of c ≡ [] → (id ≡ [] → ⊥) → x.0.now ≡ id → EntryPasses c x
    → AreAs c id a → a.value_parser ≡ Some q → 0 < length x.1.vals.items
    → (t : Text) × (option_map (λ s. read_as x.1.reading s.now) (slice_get x.1.vals.items 0) ≡ Some (read_as (reading_of q) t)) × Accepts a.ignore_case q t
value_read c x id a q groups named key passes same parser some = first x.1.vals.items some passing
  where
    parser_is : (y : Arg) → SameRules a y → parser_of y ≡ q
    parser_is y rules = ap parser_of_value (rules.parser q parser)

    not_group : x.1.is_group ≡ true → ⊥
    not_group = no_group c x id groups named key passes

    passing : All (λ v. PassesArg c id v.now) x.1.vals.items
    passing = elim passes.0 [
      | inl group ↦ absurd (not_group group)
      | inr all ↦ subst (λ t. All (λ v. PassesArg c t v.now) x.1.vals.items) key all
    ]

    reading_is : x.1.reading ≡ reading_of q
    reading_is = elim passes.4 [
      | inl group ↦ absurd (not_group group)
      | inr its ↦
          let rules = same its.0 its.1 its.2 its.3 (subst (λ t. bytes_eq its.1.id.now t ≡ true) key its.4.0) in
          sym its.4.1 ∙ ap reading_of (parser_is its.1 rules)
    ]

    accepted : (t : Text) → PassesArg c id t → Accepts a.ignore_case q t
    accepted t pass =
        let rules = same pass.0 pass.1 pass.2 pass.3 pass.4.0 in
        let as_q = subst (λ (w : ValueParser). Accepts pass.1.ignore_case w t) (parser_is pass.1 rules) pass.4.1 in
        subst (λ (b : Bool). Accepts b q t) rules.ignore_case as_q

    first : (vs : List (Bor Text)) → 0 < length vs → All (λ v. PassesArg c id v.now) vs
        → (t : Text) × (option_map (λ s. read_as x.1.reading s.now) (slice_get vs 0) ≡ Some (read_as (reading_of q) t)) × Accepts a.ignore_case q t
    first [] lt all = absurd (omega arith)
    first (v ∷ vs) lt all =
        (v.now, ap (λ how. Some (read_as how v.now)) reading_is, accepted v.now (All-get_or (λ y. PassesArg c id y.now) (v ∷ vs) 0 v (omega arith) all))

-- if an entry has an id, it is found
entry_found : (xs : List Entry) (id : Text) → HasIn xs id → is_some (option_map (λ e. e.1) (find (λ e. bytes_eq e.0.now id) xs)) ≡ true
entry_found [] id h = absurd (omega (arith, h.1))
entry_found (x ∷ xs) id h = go (bytes_eq x.0.now id) refl h.0 h.1 h.2 (λ i lt at_i. entry_found xs id (i, lt, at_i))
  where
    go : (b : Bool) → bytes_eq x.0.now id ≡ b → (i : ℕ) → i < length (x ∷ xs) → ((d : Entry) → bytes_eq (slice_index_or (x ∷ xs) i d).0.now id ≡ true)
        → ((k : ℕ) → k < length xs → ((d : Entry) → bytes_eq (slice_index_or xs k d).0.now id ≡ true)
        → is_some (option_map (λ e. e.1) (find (λ e. bytes_eq e.0.now id) xs)) ≡ true)
        → is_some (option_map (λ e. e.1) (find (λ e. bytes_eq e.0.now id) (x ∷ xs))) ≡ true
    go true e i lt at_i rest = rw e refl
    go false e zero lt at_i rest =
        let bad : false ≡ true = sym e ∙ at_i x in
        cc
    go false e (suc i) lt at_i rest = rw e (rest i (omega (arith, lt)) at_i)

-- ---- numerals

minus_off : (t : List ℕ) → without_minus t ≡ cond (starts_with_minus t) (drop 1 t) t
minus_off [] = refl
minus_off (x ∷ xs) = go (x == 45)
  where
    go : (b : Bool) → unwrap_or (cond b (Some xs) None) (x ∷ xs) ≡ cond b xs (x ∷ xs)
    go true = refl
    go false = refl

plus_off : (ds : List ℕ) → IsNumeral 10 ds → without_leading_plus ds ≡ ds
plus_off [] h = refl
plus_off (d ∷ ds) h =
    let digit : (d == 43) ≡ false = ne_eqb _ _ (λ e. omega (arith, digit_from_value d h.1.0)) in
    ap (λ (b : Bool). drop (cond b 1 0) (d ∷ ds)) digit

-- a value that passes the parser of an option is read as a numeral below 2^bits
abbrev ReadsBelow : ValueParser → ℕ → Type 0
ReadsBelow q bits = (b : Bool) (t : Text) → Accepts b q t
    → IsNumeral 10 (without_leading_plus (read_as (reading_of q) t)) × (digits_value 10 (without_leading_plus (read_as (reading_of q) t)) < 2 ^ bits)

unsigned_below : ReadsBelow (parser.Unsigned 0 18446744073709551615) 64
unsigned_below b t h = (h.0, h.1)

signed_below : ReadsBelow (parser.Signed (pos 0) (pos 4294967295)) 32
signed_below b t h = go (starts_with_minus t) refl
  where
    go : (m : Bool) → starts_with_minus t ≡ m
        → IsNumeral 10 (without_leading_plus (without_minus t)) × (digits_value 10 (without_leading_plus (without_minus t)) < 2 ^ 32)
    go true minus =
        let low = rw minus at h.2 in
        let numeral : IsNumeral 10 (drop 1 t) = rw minus at h.0 in
        let same = plus_off (drop 1 t) numeral in
        let small : digits_value 10 (drop 1 t) < 2 ^ 32 = omega (arith, ints) in
        rw (minus_off t, minus) (rw same numeral, rw same small)
    go false minus =
        let high = rw minus at h.3 in
        let numeral = rw minus at h.0 in
        rw (minus_off t, minus) (numeral, omega (arith, ints))

-- ---- the options

named_by : (t : Text) (x : ℕ) → letter t ≡ x → 0 < x → (t ≡ [] → ⊥)
named_by t x e lt empty =
    let bad : 0 ≡ x = ap letter (sym empty) ∙ e in
    omega arith

not_auto : (t : Text) (x : ℕ) → letter t ≡ x → x ≢ 104 → x ≢ 118 → (t ≡ codes "help") ⊎ (t ≡ codes "version") → ⊥
not_auto t x e h v (inl is) = h (sym e ∙ ap letter is)
not_auto t x e h v (inr is) = v (sym e ∙ ap letter is)

-- if an option has an entry, it has a number
number_found : (c : Command) (m : ArgMatches) → app_of c ≡ program → IsParsedFrom c m → (k : ℕ) (q : ValueParser) (x bits : ℕ) → k < 6
    → (at k).parser ≡ Some q → (at k).action ≡ Some Set → (at k).range ≡ None → letter (at k).id ≡ x → 0 < x → x ≢ 104 → x ≢ 118 → ReadsBelow q bits
    → is_some (matched_of (found_of m) (at k).id) ≡ true → IsNumber (found_of m) (at k).id bits
number_found c m e p k q x bits lt parser_is set range first named help version reads there = subst (λ t. IsNumber (found_of m) t bits) id_is found
  where
    d : Arg
    d = an_arg (args_of c) (six c e)

    a : Arg
    a = slice_index_or (args_of c) k d

    fit : Fits c k d
    fit = fits c e k d lt

    id_is : a.id.now ≡ (at k).id
    id_is = ap (λ (r : Rule). r.id) fit.rule

    parsed : IsParsed p.built (found_of m) (has_subcommand m)
    parsed = p.parsed (p.from.globals ∙ no_globals c e)

    same : AreAs p.built a.id.now a
    same = same_rules_by_id c m p k d fit.inside (only c e k d lt)
        (λ auto. not_auto (at k).id x first help version (subst (λ t. (t ≡ codes "help") ⊎ (t ≡ codes "version")) id_is auto))

    is_found : is_some (matched_of (found_of m) a.id.now) ≡ true
    is_found = subst (λ t. is_some (matched_of (found_of m) t) ≡ true) (sym id_is) there

    at_entry : (y : Entry) (g : MatchedArg) → matched_of (found_of m) a.id.now ≡ Some g → y.1 ≡ g → y.0.now ≡ a.id.now → EntryPasses p.built y
        → IsNumber (found_of m) a.id.now bits
    at_entry y g is of key passes =
        let groups = (p.from.plain (is_plain c e)).1 in
        let nameless = λ (empty : a.id.now ≡ []). named_by (at k).id x first named (sym id_is ∙ empty) in
        let action = ap (λ (r : Rule). r.action) fit.rule ∙ set in
        let least : 1 ≤ least_values a =
        subst (λ o. 1 ≤ (unwrap_or_range o).start_inclusive) (sym (ap (λ (r : Rule). r.range) fit.rule ∙ range)) (omega arith) in
        let values = has_values p.built y a.id.now a groups nameless key passes same action fit.delimiter least in
        let read = value_read p.built y a.id.now a q groups nameless key passes same (ap (λ (r : Rule). r.parser) fit.rule ∙ parser_is) values in
        let below = reads a.ignore_case read.0 read.2 in
        record {
          text = read_as (reading_of q) read.0;
          read = rw (is, sym of) read.1;
          numeral = below.0;
          small = below.1;
        }

    found : IsNumber (found_of m) a.id.now bits
    found = go (matched_of (found_of m) a.id.now) refl is_found
      where
        go : (o : Option MatchedArg) → matched_of (found_of m) a.id.now ≡ o → is_some (matched_of (found_of m) a.id.now) ≡ true
            → IsNumber (found_of m) a.id.now bits
        go None none is =
            let bad : false ≡ true = rw none at is in
            cc
        go (Some g) some is =
            let y = entry_by_id (EntryPasses p.built) (found_of m).entries.items a.id.now g parsed.values some in
            at_entry y.0 g some y.1 ((bytes_eq-Decides _ _).0 y.2) y.3

-- an option with a default has an entry, so it has a number
number_there : (c : Command) (m : ArgMatches) → app_of c ≡ program → IsParsedFrom c m → (k : ℕ) (q : ValueParser) (x bits : ℕ) → k < 6
    → (at k).parser ≡ Some q → (at k).action ≡ Some Set → (at k).range ≡ None → 0 < length (at k).defaults
    → letter (at k).id ≡ x → 0 < x → x ≢ 104 → x ≢ 118 → ReadsBelow q bits → IsNumber (found_of m) (at k).id bits
number_there c m e p k q x bits lt parser_is set range defaults first named help version reads =
    number_found c m e p k q x bits lt parser_is set range first named help version reads
    (subst (λ t. is_some (matched_of (found_of m) t) ≡ true) (ap (λ (r : Rule). r.id) fit.rule) is_found)
  where
    d : Arg
    d = an_arg (args_of c) (six c e)

    a : Arg
    a = slice_index_or (args_of c) k d

    fit : Fits c k d
    fit = fits c e k d lt

    some_defaults : 0 < length (items_of a.default_vals)
    some_defaults = subst (λ n. 0 < n) (ap (λ (r : Rule). length r.defaults) (sym fit.rule) ∙ length-map (items_of a.default_vals) (λ s. s.now)) defaults

    is_found : is_some (matched_of (found_of m) a.id.now) ≡ true
    is_found = entry_found (found_of m).entries.items a.id.now (default_present c m p (no_globals c e) k d fit.inside (fit.conditions, some_defaults))

pub stop_there : (c : Command) (m : ArgMatches) → app_of c ≡ program → IsParsedFrom c m → IsNumber (found_of m) (codes "stop") 64
stop_there c m e p =
    number_there c m e p 1 (parser.Unsigned 0 18446744073709551615) 115 64 (omega arith) refl refl refl (omega arith) refl (omega arith)
    (λ h. omega (arith, h)) (λ h. omega (arith, h)) unsigned_below

limit_found : (c : Command) (m : ArgMatches) → app_of c ≡ program → IsParsedFrom c m → is_some (matched_of (found_of m) (codes "limit")) ≡ true
    → IsNumber (found_of m) (codes "limit") 32
limit_found c m e p there =
    number_found c m e p 2 (parser.Signed (pos 0) (pos 4294967295)) 108 32 (omega arith) refl refl refl refl (omega arith)
    (λ h. omega (arith, h)) (λ h. omega (arith, h)) signed_below there

pub workers_there : (c : Command) (m : ArgMatches) → app_of c ≡ program → IsParsedFrom c m → IsNumber (found_of m) (codes "workers") 64
workers_there c m e p =
    number_there c m e p 3 (parser.Unsigned 0 18446744073709551615) 119 64 (omega arith) refl refl refl (omega arith) refl (omega arith)
    (λ h. omega (arith, h)) (λ h. omega (arith, h)) unsigned_below

-- the top is required, so it has a value
pub top_there : (c : Command) (m : ArgMatches) → app_of c ≡ program → IsParsedFrom c m → is_some (first_value (found_of m) (codes "top")) ≡ true
top_there c m e p =
    let lt : 0 < 6 = omega arith in
    let d = an_arg (args_of c) (six c e) in
    let fit = fits c e 0 d lt in
    let id_is = ap (λ (r : Rule). r.id) fit.rule in
    let least : 1 ≤ least_values (slice_index_or (args_of c) 0 d) =
    subst (λ o. 1 ≤ (unwrap_or_range o).start_inclusive) (sym (ap (λ (r : Rule). r.range) fit.rule)) (omega arith) in
    subst (λ t. is_some (first_value (found_of m) t) ≡ true) id_is
    (required_has_value c m p (is_plain c e) (no_globals c e) (negates_nothing c e) 0 d fit.inside (ap (λ (r : Rule). r.required) fit.rule)
    (ap (λ (r : Rule). r.action) fit.rule) fit.delimiter least (only c e 0 d lt)
    (λ empty. named_by (codes "top") 116 refl (omega arith) (sym id_is ∙ empty))
    (λ auto. not_auto (codes "top") 116 refl (λ h. omega (arith, h)) (λ h. omega (arith, h))
    (subst (λ t. (t ≡ codes "help") ⊎ (t ≡ codes "version")) id_is auto)))

-- ---- the answer

-- the command uses no setting that the model omits
simple_and_free : is_simple_and_free program ≡ true
simple_and_free = refl

pub kinds_known : (c : Command) → app_of c ≡ program → is_simple_and_free (app_of c) ≡ true
kinds_known c e = ap is_simple_and_free e ∙ simple_and_free

pub rows_known : (c : Command) (m : ArgMatches) (words : List Text) → app_of c ≡ program → HasMatchesOf (app_of c) words m
    → rows_of (found_of m) ≡ matches_of program words
rows_known c m words e has = (has (and_left _ _ (kinds_known c e))).0 ∙ ap (λ (a : App). matches_of a words) e

-- the number of an option is the one that the getter read
pub number_known : (f : Found) (id : Text) (bits : ℕ) (words : List Text) (n : IsNumber f id bits) → rows_of f ≡ matches_of program words
    → number_of id words ≡ Some (digits_value 10 (without_leading_plus n.text))
number_known f id bits words n rows =
    ap (option_map (λ t. digits_value 10 (without_leading_plus t))) (ap (one_of id) (sym rows) ∙ (sym (one_text-rows f id) ∙ n.read))

-- what the getter reads of the limit is its number, if it has one
pub limit_known : {E : Type 0} (explains : List ℕ → Result ℕ E → Type 0) (c : Command) (m : ArgMatches) → app_of c ≡ program → IsParsedFrom c m
    → (r : Option ℕ) → (one_text (found_of m) (codes "limit") ≡ None → r ≡ None)
    → ((t : List ℕ) → one_text (found_of m) (codes "limit") ≡ Some t → ReadsOne (Parses explains 32) t r)
    → (words : List Text) → rows_of (found_of m) ≡ matches_of program words → number_of (codes "limit") words ≡ r
limit_known explains c m e p r none value words rows = go (matched_of (found_of m) (codes "limit")) refl
  where
    text_is : one_of (codes "limit") (matches_of program words) ≡ one_text (found_of m) (codes "limit")
    text_is = ap (one_of (codes "limit")) (sym rows) ∙ sym (one_text-rows (found_of m) (codes "limit"))

    go : (o : Option MatchedArg) → matched_of (found_of m) (codes "limit") ≡ o → number_of (codes "limit") words ≡ r
    go None is =
        let no_text : one_text (found_of m) (codes "limit") ≡ None = rw is refl in
        ap (option_map (λ t. digits_value 10 (without_leading_plus t))) (text_is ∙ no_text) ∙ sym (none no_text)
    go (Some g) is =
        let n = limit_found c m e p (rw is refl) in
        number_known (found_of m) (codes "limit") 32 words n rows ∙ sym (number_read explains (found_of m) (codes "limit") 32 r value n)

pub explained : (words : List Text) (k : ErrorKind) (f : CliFault) → (k ≡ kind.OutOfMemory) ⊎ IsAmong k (fault_of program words) → Tells k f
    → Explains words f
explained words k (fault.Help text) (inl short) reported = let bad = sym short ∙ reported in cc
explained words k (fault.Help text) (inr among) reported = record { among = subst (λ x. IsAmong x (fault_of program words)) reported among }
explained words k (fault.Refused text) (inl short) reported = absurd (reported.1 short)
explained words k (fault.Refused text) (inr among) reported = record { kind = k; among = among; other = reported.0 }
explained words k fault.Memory h reported = tt
