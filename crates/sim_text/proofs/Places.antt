-- Where the faults of a file are among its tokens.
use Rattle.std.proofs.Common.{◌≡◌, ◌≢◌, ℕ, get_or, ◌+◌, ◌-◌, ◌<◌, ◌≤◌, ◌⊎◌, inl, inr, List, ◌∷◌, ◌++◌, length, Some, None, Err, refl, sym, ap, subst}
use Rattle.std.proofs.Common.{Result, Ok, IfOk, IfErr, ◌∙◌, arith, length-append}
use Rattle.std.specs.List.{slice_get, Contains}
use Rattle.std.proofs.lemmas.List.Elements.{Contains-get_or, Contains-append_right}
use Rattle.std.proofs.lemmas.Option.{slice_get_read, slice_get_cases}
use Rattle.std.proofs.Math.Seq.{get_or-append_seam}
use Rattle.sim_text_tokens.specs.Token.{Token}
use Rattle.sim_text_grammar.specs.declared.error.ParseError.{ParseError}
use Rattle.sim_text_grammar.specs.declared.error.ParseError.TheVariants as error
use Rattle.sim_text_tree.specs.Input.{Input}
use Rattle.sim_text_grammar.specs.Readers.{Reads}
use Rattle.sim_text_grammar.specs.Faults.{IsTooLarge, IsOpening}
use Rattle.sim_text_grammar.specs.Units.{file}
use Rattle.sim_text_grammar.proofs.WholeFiles.{is_found, is_only, is_refused, large_time, deep_opening}
use Rattle.sim_text_tree.specs.DesignFile.{DesignFile}
use Rattle.sim_text_tree.specs.Grammar.{IsFile}
use Rattle.sim_text.specs.Faults.{place_of, start_or, fault_of, HasLargeTime, OpensAt, IsPlace, AreNoFile, IsFaultOf}

seam : {X : Type 0} (front : List X) (x : X) (rest : List X) → slice_get (front ++ x ∷ rest) (length front) ≡ Some x
seam front x rest = slice_get_read (front ++ x ∷ rest) (length (front ++ x ∷ rest)) (length front) x refl (simp length-append (omega arith))
    (sym (get_or-append_seam front x rest x))

place_is : (tokens : List Token) (n end : ℕ) (l : IsTooLarge tokens n) → place_of tokens n end ≡ l.number.start
place_is tokens n end l =
    let e : length tokens ≡ length l.front + n = ap length l.whole ∙ length-append l.front (l.number ∷ l.word ∷ l.rest) ∙ ap (λ k. length l.front + k)
    l.count in
    let at : length tokens - n ≡ length l.front = omega arith in
    let found : slice_get tokens (length tokens - n) ≡ Some l.number = ap (slice_get tokens) at ∙ ap (λ ts. slice_get ts (length l.front)) l.whole ∙
    seam l.front l.number (l.word ∷ l.rest) in
    ap (λ o. start_or o end) found

large_at : (tokens : List Token) (n end : ℕ) → IsTooLarge tokens n → HasLargeTime tokens (place_of tokens n end)
large_at tokens n end l = record {
  front = l.front;
  number = l.number;
  word = l.word;
  rest = l.rest;
  unit = l.unit;
  whole = l.whole;
  place = sym
      (place_is tokens n end l);
  digits = l.digits;
  named = l.named;
  large = l.large;
}

opening_is : (tokens : List Token) (n end : ℕ) (o : IsOpening tokens n) → place_of tokens n end ≡ o.token.start
opening_is tokens n end o =
    let e : length tokens ≡ length o.front + n = ap length o.whole ∙ length-append o.front (o.token ∷ o.rest) ∙ ap (λ k. length o.front + k) o.count in
    let at : length tokens - n ≡ length o.front = omega arith in
    let found : slice_get tokens (length tokens - n) ≡ Some o.token =
    ap (slice_get tokens) at ∙ ap (λ ts. slice_get ts (length o.front)) o.whole ∙ seam o.front o.token o.rest in
    ap (λ t. start_or t end) found

opens_at : (tokens : List Token) (n end : ℕ) → IsOpening tokens n → OpensAt tokens (place_of tokens n end)
opens_at tokens n end o = record {
  token = o.token;
  among = subst (λ ts. Contains ts o.token) (sym o.whole) (Contains-append_right o.front (o.token ∷ o.rest) o.token (0, omega arith, refl));
  opens = o.opens;
  place = sym (opening_is tokens n end o);
}

place_in : (tokens : List Token) (i end : ℕ)
    → ((x : Token) × (i < length tokens) × (slice_get tokens i ≡ Some x) × (get_or tokens i x ≡ x)) ⊎
    ((length tokens ≤ i) × (slice_get tokens i ≡ None)) → IsPlace tokens end (start_or (slice_get tokens i) end)
place_in tokens i end (inl (x, inside, found, is)) = inr (
  x,
  subst (Contains tokens) is (Contains-get_or tokens i x inside),
  sym
      (ap (λ o. start_or o end) found),
)
place_in tokens i end (inr (past, none)) = inl (ap (λ o. start_or o end) none)

place_at : (tokens : List Token) (n end : ℕ) → IsPlace tokens end (place_of tokens n end)
place_at tokens n end = place_in tokens (length tokens - n) end (slice_get_cases tokens (length tokens - n)).1

no_file : (i m : Input) (e : ParseError) → e ≢ error.OutOfMemory → Reads (file i) (Err e) m → AreNoFile i
no_file i m e some r = λ other w. is_refused i e other (r some) w

-- the fault that is reported for the tokens is one of theirs
pub reported_of : (i m : Input) (end : ℕ) (e : ParseError) → Reads (file i) (Err e) m → IsFaultOf i end (fault_of i end e)
reported_of i m end error.OutOfMemory r = tt
reported_of i m end (error.Syntax n) r = (no_file i m (error.Syntax n) (λ p. absurd cc) r, place_at i n end)
reported_of i m end (error.TooDeep n) r = (no_file i m (error.TooDeep n) (λ p. absurd cc) r, opens_at i n end (deep_opening i n (r (λ q. absurd cc))))
reported_of i m end (error.TimeRange n) r = (no_file i m (error.TimeRange n) (λ p. absurd cc) r, large_at i n end (large_time i n (r (λ q. absurd cc))))

-- the answer of the file's reader for the tokens
pub found_of : (i m : Input) (r : Result DesignFile ParseError) → Reads (file i) r m → IfOk r (λ f. IsFile f i)
found_of i m (Ok f) h = is_found i m f h
found_of i m (Err e) h = tt

pub only_of : (i m : Input) (r : Result DesignFile ParseError) → Reads (file i) r m → IfOk r (λ f. (other : DesignFile) → IsFile other i → other ≡ f)
only_of i m (Ok f) h = λ other w. is_only i m f other h w
only_of i m (Err e) h = tt

pub refused_of : (i m : Input) (r : Result DesignFile ParseError) → Reads (file i) r m
    → IfErr r (λ e. (end : ℕ) → IsFaultOf i end (fault_of i end e))
refused_of i m (Ok f) h = tt
refused_of i m (Err e) h = λ end. reported_of i m end e h
