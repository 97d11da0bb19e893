-- On ASCII, case folding by Unicode gives the lower-case letters of the names of a text.
use Rattle.std.proofs.Common.{ℕ, ◌≡◌, ◌<◌, List, [], ◌∷◌, ◌++◌, map, chars, encode_utf8_all, IsAscii, All, zero, suc, refl, ap, ap₂, ◌∙◌}
use Rattle.std.proofs.Common.{suc-le-suc, zero-le, arith}
use Rattle.std.proofs.lemmas.Bool.Decides.{nat_tests}
use Rattle.std.proofs.lemmas.Str.{chars-IsAscii, encode_ascii}
use Rattle.std.specs.Char.{to_ascii_lowercase}
use Rattle.std.specs.Str.{IsNotAscii}
use Rattle.caseless.specs.Caseless.{default_case_fold}
use Rattle.caseless.proofs.CaselessLemmas.{default_case_fold-ascii, All-chars}

-- a lower-case ASCII character is ASCII
small_ascii : (c : ℕ) → c < 128 → to_ascii_lowercase c < 128
small_ascii c h = grind (arith, nat_tests)

-- each lower-case ASCII character is encoded as one byte
encoded : (cs : List ℕ) → All (λ c. c < 128) cs → encode_utf8_all (map to_ascii_lowercase cs) ≡ map to_ascii_lowercase cs
encoded [] all = refl
encoded (c ∷ cs) all =
    ap₂ ◌++◌ (encode_ascii (to_ascii_lowercase c) (small_ascii c (all zero 0 (suc-le-suc zero-le))))
    (encoded cs (λ k d lt. all (suc k) d (suc-le-suc lt)))

-- a folded ASCII name is the name in lower case
pub folded_is_small : (name : List ℕ) → IsAscii name → encode_utf8_all (default_case_fold (chars name)) ≡ map to_ascii_lowercase name
folded_is_small name ascii =
    ap encode_utf8_all (default_case_fold-ascii (chars name) (All-chars name ascii))
    ∙ (encoded (chars name) (All-chars name ascii) ∙ ap (map to_ascii_lowercase) (chars-IsAscii name ascii))

-- a name cannot both be ASCII and not
pub not_both : (name : List ℕ) → IsNotAscii name → IsAscii name → ⊥
not_both name other ascii = let e = ascii other.0 in let f = other.1 in omega arith
