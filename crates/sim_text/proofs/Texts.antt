-- The file of a text's tokens is the text's only file, and their fault is the text's.
use Rattle.std.proofs.Common.{◌≡◌, ℕ, suc, ◌≤◌, ◌<◌, ◌↔◌, List, length, Result, Ok, Err, IfOk, IfErr, subst, sym, ◌∙◌, arith}
use Rattle.std.specs.Result.{MatchResult}
use Rattle.std.proofs.Math.Nat.{lt_of_not-le}
use Rattle.sim_text_tokens.specs.Token.{Token}
use Rattle.sim_text_tokens.specs.declared.error.TextError.{TextError}
use Rattle.sim_text_tokens.specs.declared.error.TextError.TheVariants as fault
use Rattle.sim_text_tokens.specs.Cutting.{AreTokens}
use Rattle.sim_text_tokens.proofs.Cuts.{one_cutting}
use Rattle.sim_text_tree.specs.DesignFile.{DesignFile}
use Rattle.sim_text_tree.specs.Grammar.{IsFile}
use Rattle.sim_text.specs.Faults.{IsFaultOf}
use Rattle.sim_text.specs.Texts.{IsTextWithin, IsFaultWithin}

pub only_in : (bytes : ℕ) (text : List ℕ) (ts : List Token) → AreTokens text ts → (r : Result DesignFile TextError)
    → IfOk r (λ file. (other : DesignFile) → IsFile other ts → other ≡ file)
    → IfOk r (λ file. (other : DesignFile) → IsTextWithin bytes text other → other ≡ file)
only_in bytes text ts are (Ok file) h = λ other w. h other (subst (IsFile other) (one_cutting text w.tokens ts w.are_tokens are) w.holds)
only_in bytes text ts are (Err e) h = tt

-- A fault of the tokens is one of their text.
pub fault_within : (bytes : ℕ) (text : List ℕ) (ts : List Token) → length text ≤ bytes → AreTokens text ts → (e : TextError)
    → IsFaultOf ts (length text) e → IsFaultWithin bytes text e
fault_within bytes text ts short are fault.Memory h = tt
fault_within bytes text ts short are (fault.Syntax at) h = record { short = short; tokens = ts; are_tokens = are; holds = h }
fault_within bytes text ts short are (fault.TooDeep at) h = record { short = short; tokens = ts; are_tokens = are; holds = h }
fault_within bytes text ts short are (fault.TimeRange at) h = record { short = short; tokens = ts; are_tokens = are; holds = h }
fault_within bytes text ts short are fault.TooLong h = absurd h
fault_within bytes text ts short are (fault.BadByte at) h = absurd h
fault_within bytes text ts short are (fault.OpenComment at) h = absurd h
fault_within bytes text ts short are (fault.BadLiteral at) h = absurd h

-- The tokens of a text that is not too long are its file or at fault.
pub read_within : (bytes : ℕ) (text : List ℕ) (ts : List Token) → length text ≤ bytes → AreTokens text ts → (r : Result DesignFile TextError)
    → IfOk r (λ file. IsFile file ts) → IfErr r (λ e. IsFaultOf ts (length text) e)
    → MatchResult r (λ file. IsTextWithin bytes text file) (λ e. IsFaultWithin bytes text e)
read_within bytes text ts short are (Ok file) found refused = record { short = short; tokens = ts; are_tokens = are; holds = found }
read_within bytes text ts short are (Err e) found refused = fault_within bytes text ts short are e refused

-- It is not refused as too long.
pub not_too_long : (ts : List Token) (end : ℕ) (r : Result DesignFile TextError) → IfErr r (λ e. IsFaultOf ts end e) → r ≡ Err fault.TooLong → ⊥
not_too_long ts end (Ok file) refused e = absurd cc
not_too_long ts end (Err e) refused same =
    let too_long : e ≡ fault.TooLong = cc in
    absurd (subst (IsFaultOf ts end) too_long refused)

-- A text that is not refused as too long is short enough.
pub is_short : {A : Type 0} (bytes n : ℕ) (r : Result A TextError) (x : A) → r ≡ Ok x → (r ≡ Err fault.TooLong) ↔ (bytes < n) → n ≤ bytes
is_short {A} bytes n r x ok long =
    let beyond : n < suc bytes = lt_of_not-le (λ (h : suc bytes ≤ n). no_error ok (long.1 (omega (arith, h)))) in
    omega (arith, beyond)
  where
    no_error : r ≡ Ok x → r ≡ Err fault.TooLong → ⊥
    no_error a b = let c : Ok x ≡ Err fault.TooLong = sym a ∙ b in absurd cc
