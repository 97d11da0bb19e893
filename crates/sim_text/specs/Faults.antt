-- The faults of a text's tokens, with their places.
use Rattle.std.specs.Prelude.{◌≡◌, ℕ, ◌-◌, ◌<◌, ◌⊎◌, List, ◌∷◌, ◌++◌, length, slice_get, Contains, Option, Some, None}
use Rattle.sim_logic.specs.declared.time.Unit.{Unit as TimeUnit}
use Rattle.sim_logic.specs.Time.{largest_time}
use Rattle.sim_text_tokens.specs.declared.kind.Kind.TheVariants as k
use Rattle.sim_text_tokens.specs.Token.{Token}
use Rattle.sim_text_tokens.specs.declared.error.TextError.{TextError}
use Rattle.sim_text_tokens.specs.declared.error.TextError.TheVariants as fault
use Rattle.sim_text_grammar.specs.declared.error.ParseError.{ParseError}
use Rattle.sim_text_grammar.specs.declared.error.ParseError.TheVariants as error
use Rattle.sim_text_tree.specs.DesignFile.{DesignFile}
use Rattle.sim_text_tree.specs.Grammar.{IsFile}
use Rattle.sim_text_tree.specs.Times.{time_of}
use Rattle.sim_text_tree.specs.Writing.{UnitWord, Stands}

abbrev pub start_or : Option Token → ℕ → ℕ
start_or (Some t) end = t.start
start_or None end = end

-- the start of the token at which this many tokens remain; the end of the text after the last one
abbrev pub place_of : List Token → ℕ → ℕ → ℕ
place_of tokens left end = start_or (slice_get tokens (length tokens - left)) end

-- the fault of a text, by its tokens and its length
abbrev pub fault_of : List Token → ℕ → ParseError → TextError
fault_of tokens end error.OutOfMemory = fault.Memory
fault_of tokens end (error.Syntax left) = fault.Syntax (place_of tokens left end)
fault_of tokens end (error.TooDeep left) = fault.TooDeep (place_of tokens left end)
fault_of tokens end (error.TimeRange left) = fault.TimeRange (place_of tokens left end)

-- A token starts at this byte, or the text ends there.
abbrev pub IsPlace : List Token → ℕ → ℕ → Type 0
IsPlace tokens end at = (at ≡ end) ⊎ ((t : Token) × Contains tokens t × (t.start ≡ at))

-- The number of a time starts at this byte; with the unit after it, the time is larger than the largest (5.2.4).
pub record HasLargeTime (tokens : List Token) (at : ℕ) : Type 0 where
  pub front : List Token
  pub number : Token
  pub word : Token
  pub rest : List Token
  pub unit : TimeUnit
  pub whole : tokens ≡ front ++ number ∷ word ∷ rest
  pub place : number.start ≡ at
  pub digits : number.kind ≡ k.Number
  pub named : Stands (UnitWord unit) word
  pub large : largest_time < time_of number.text unit

-- A token that opens a pair of parentheses or an if statement starts at this byte.
pub record OpensAt (tokens : List Token) (at : ℕ) : Type 0 where
  pub token : Token
  pub among : Contains tokens token
  pub opens : (token.kind ≡ k.LeftParen) ⊎ (token.kind ≡ k.If)
  pub place : token.start ≡ at

-- The tokens spell no file within the limits.
abbrev pub AreNoFile : List Token → Type 0
AreNoFile tokens = (file : DesignFile) → IsFile file tokens → ⊥

-- Why the tokens of a text of this length spell no file.
abbrev pub IsFaultOf : List Token → ℕ → TextError → Type 0
IsFaultOf tokens end fault.Memory = Unit {0}
IsFaultOf tokens end (fault.Syntax at) = AreNoFile tokens × IsPlace tokens end at
IsFaultOf tokens end (fault.TooDeep at) = AreNoFile tokens × OpensAt tokens at
IsFaultOf tokens end (fault.TimeRange at) = AreNoFile tokens × HasLargeTime tokens at
IsFaultOf tokens end _ = ⊥
