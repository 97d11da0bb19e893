-- The test that compares two values.
use Rattle.std.proofs.Common.{◌≡◌, ◌≢◌, Bool, true, false, refl, ap, sym, ◌∙◌, arith}
use Rattle.std.proofs.lemmas.Bool.Decides.{nat_tests}
use Rattle.sim_logic.specs.declared.logic.Logic.{Logic}
use Rattle.sim_logic.specs.declared.logic.Logic.TheVariants.{U, X, Zero, One, Z, W, L, H, Dash}
use Rattle.sim_logic.specs.Logic.{byte_of, is_same, value_of}

pub value_of-byte_of : (value : Logic) → value_of (byte_of value) ≡ value
value_of-byte_of U = refl
value_of-byte_of X = refl
value_of-byte_of Zero = refl
value_of-byte_of One = refl
value_of-byte_of Z = refl
value_of-byte_of W = refl
value_of-byte_of L = refl
value_of-byte_of H = refl
value_of-byte_of Dash = refl

-- values that pass are the same
pub same_from_is_same : (a b : Logic) → is_same a b ≡ true → a ≡ b
same_from_is_same a b e =
    let bytes : byte_of a ≡ byte_of b = grind (arith, nat_tests) in
    sym (value_of-byte_of a) ∙ (ap value_of bytes ∙ value_of-byte_of b)

-- the same values pass
pub is_same_from_same : (a b : Logic) → a ≡ b → is_same a b ≡ true
is_same_from_same a b e =
    let bytes : byte_of a ≡ byte_of b = ap byte_of e in
    grind (arith, nat_tests)

-- other values do not pass
pub is_same_from_other : (a b : Logic) → a ≢ b → is_same a b ≡ false
is_same_from_other a b other = go (is_same a b) refl
  where
    go : (test : Bool) → is_same a b ≡ test → is_same a b ≡ false
    go true e = absurd (other (same_from_is_same a b e))
    go false e = e
