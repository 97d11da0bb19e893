-- When a text is a file, and its faults.
use Rattle.std.specs.Prelude.{◌≢◌, ℕ, ◌<◌, ◌≤◌, List, length}
use Rattle.sim_text_tokens.specs.Limits.{most_bytes}
use Rattle.sim_text_tokens.specs.Token.{Token}
use Rattle.sim_text_tokens.specs.declared.error.TextError.{TextError}
use Rattle.sim_text_tokens.specs.declared.error.TextError.TheVariants as fault
use Rattle.sim_text_tokens.specs.Cutting.{AreTokens, IsLexicalFault}
use Rattle.sim_text_tree.specs.DesignFile.{DesignFile}
use Rattle.sim_text_tree.specs.Grammar.{IsFile}
use Rattle.sim_text.specs.Faults.{IsFaultOf}

-- The text has at most `bytes` bytes, and it has tokens for which this holds.
pub record HasTokens (bytes : ℕ) (text : List ℕ) (Holds : List Token → Type 0) : Type 0 where
  pub short : length text ≤ bytes
  pub tokens : List Token
  pub are_tokens : AreTokens text tokens
  pub holds : Holds tokens

-- The text is this file (IEEE 1076-2008, 13.1): it has at most `bytes` bytes, and its tokens spell the file, within the limits.
abbrev pub IsTextWithin : ℕ → List ℕ → DesignFile → Type 0
IsTextWithin bytes text file = HasTokens bytes text (λ tokens. IsFile file tokens)

-- The text has at most `bytes` bytes, and this is its leftmost lexical fault (15.3).
pub record HasLexicalFault (bytes : ℕ) (text : List ℕ) (found : TextError) : Type 0 where
  pub short : length text ≤ bytes
  pub is : IsLexicalFault text found

-- Why the text is no file, where `bytes` bytes are allowed.
abbrev pub IsFaultWithin : ℕ → List ℕ → TextError → Type 0
IsFaultWithin bytes text fault.Memory = Unit {0}
IsFaultWithin bytes text fault.TooLong = bytes < length text
IsFaultWithin bytes text (fault.BadByte at) = HasLexicalFault bytes text (fault.BadByte at)
IsFaultWithin bytes text (fault.OpenComment at) = HasLexicalFault bytes text (fault.OpenComment at)
IsFaultWithin bytes text (fault.BadLiteral at) = HasLexicalFault bytes text (fault.BadLiteral at)
IsFaultWithin bytes text (fault.Syntax at) = HasTokens bytes text (λ tokens. IsFaultOf tokens (length text) (fault.Syntax at))
IsFaultWithin bytes text (fault.TooDeep at) = HasTokens bytes text (λ tokens. IsFaultOf tokens (length text) (fault.TooDeep at))
IsFaultWithin bytes text (fault.TimeRange at) = HasTokens bytes text (λ tokens. IsFaultOf tokens (length text) (fault.TimeRange at))

-- The text is at fault, where `bytes` bytes are allowed.
pub record IsFaultyWithin (bytes : ℕ) (text : List ℕ) : Type 0 where
  pub found : TextError
  pub known : found ≢ fault.Memory
  pub is : IsFaultWithin bytes text found

-- The same with the number of bytes that a text may have by itself.
abbrev pub IsText : List ℕ → DesignFile → Type 0
IsText = IsTextWithin most_bytes

abbrev pub IsFault : List ℕ → TextError → Type 0
IsFault = IsFaultWithin most_bytes

abbrev pub IsFaulty : List ℕ → Type 0
IsFaulty = IsFaultyWithin most_bytes
