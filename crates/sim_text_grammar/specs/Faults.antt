-- The places of faults among the tokens of a text.
use Rattle.std.specs.Prelude.{◌≡◌, ℕ, ◌<◌, ◌⊎◌, List, ◌∷◌, ◌++◌, length}
use Rattle.sim_logic.specs.declared.time.Unit.{Unit as TimeUnit}
use Rattle.sim_logic.specs.Time.{largest_time}
use Rattle.sim_text_tokens.specs.Token.{Token}
use Rattle.sim_text_tokens.specs.declared.kind.Kind.TheVariants as k
use Rattle.sim_text_tree.specs.Times.{time_of}
use Rattle.sim_text_tree.specs.Writing.{UnitWord, Stands}

-- The n-th token from the end is the number of a time that, with the unit after it, is too large (5.2.4).
pub record IsTooLarge (tokens : List Token) (n : ℕ) : Type 0 where
  pub front : List Token
  pub number : Token
  pub word : Token
  pub rest : List Token
  pub unit : TimeUnit
  pub whole : tokens ≡ front ++ number ∷ word ∷ rest
  pub count : length (number ∷ word ∷ rest) ≡ n
  pub digits : number.kind ≡ k.Number
  pub named : Stands (UnitWord unit) word
  pub large : largest_time < time_of number.text unit

-- The n-th token from the end opens a pair of parentheses or an if statement.
pub record IsOpening (tokens : List Token) (n : ℕ) : Type 0 where
  pub front : List Token
  pub token : Token
  pub rest : List Token
  pub whole : tokens ≡ front ++ token ∷ rest
  pub count : length (token ∷ rest) ≡ n
  pub opens : (token.kind ≡ k.LeftParen) ⊎ (token.kind ≡ k.If)
