-- Each iteration of a parser's loop reads one item of a list, with or without separators. The invariant of a loop is a record with two
-- laws: one more iteration tests the next token and reads an item, and after the last one the list is complete. So the goals of a loop are
-- answered by naming one of the two.
use Rattle.std.proofs.Common.{◌≡◌, ℕ, ◌+◌, ◌-◌, ◌<◌, ◌≤◌, Bool, if◌then◌else◌, Ok, List, [], ◌∷◌, ◌++◌}
use Rattle.sim_text_tokens.specs.declared.kind.Kind.{Kind}
use Rattle.sim_text_tree.specs.Input.{Input, kind, next}
use Rattle.sim_text_grammar.specs.Readers.{ParseResult, Parser, ◌>>◌, take_token, same_kind, sees, many_from, and_then}
use Rattle.sim_text_tree.proofs.Turns as turns

-- At iteration `at` of `n`, the items found and those still to be read from this input are the whole.
pub record AsManyAsCome {A : Type 0} (whole : ParseResult (List A)) (goes_on : Kind → Bool) (item : Parser A) (n at : ℕ) (found : List A)
    (i : Input) : Type 0 where
  pub is : whole ≡ many_from goes_on item (n - at) found i

-- the same, where a token of this kind precedes each item
pub record AfterEach {A : Type 0} (whole : ParseResult (List A)) (x : Kind) (item : Parser A) (n at : ℕ) (found : List A) (i : Input) : Type 0 where
  pub is : whole ≡ many_from (λ y. same_kind y x) (take_token >> item) (n - at) found i

module _ {A : Type 0} {whole : ParseResult (List A)} {goes_on : Kind → Bool} {item : Parser A} {n at : ℕ} {found : List A} {i : Input} where
  pub one_more : AsManyAsCome whole goes_on item n at found i → at < n
      → whole ≡ (if goes_on (kind i) then and_then (item i) (λ a. many_from goes_on item (n - (at + 1)) (found ++ a ∷ [])) else Ok (found, i))
  unfolding many_from
  one_more rest below = turns.one_more {law = λ m. many_from goes_on item m found i} (record { is = rest.is }) below

  pub no_more : AsManyAsCome whole goes_on item n at found i → n ≤ at → whole ≡ Ok (found, i)
  unfolding many_from
  no_more rest done = turns.no_more {law = λ m. many_from goes_on item m found i} (record { is = rest.is }) done

module _ {A : Type 0} {whole : ParseResult (List A)} {x : Kind} {item : Parser A} {n at : ℕ} {found : List A} {i : Input} where
  pub one_after : AfterEach whole x item n at found i → at < n
      → whole ≡ (if sees x i then and_then (item (next i)) (λ a. many_from (λ y. same_kind y x) (take_token >> item) (n - (at + 1)) (found ++ a ∷ []))
      else Ok (found, i))
  unfolding sees
  one_after rest below = one_more {goes_on = λ y. same_kind y x} {item = take_token >> item} (record { is = rest.is }) below

  pub none_after : AfterEach whole x item n at found i → n ≤ at → whole ≡ Ok (found, i)
  none_after rest done = no_more {goes_on = λ y. same_kind y x} {item = take_token >> item} (record { is = rest.is }) done
