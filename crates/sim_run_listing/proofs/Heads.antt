-- The start of a line: the digits of a time that end at place 20, a space, a delta number and a space.
use Rattle.std.proofs.Common.{◌≡◌, ℕ, ◌+◌, ◌-◌, ◌<◌, ◌≤◌, List, [], ◌∷◌, ◌++◌, length, take, drop, set, refl, sym, ap, ◌∙◌, arith}
use Rattle.std.proofs.Common.{append_assoc, length-take, take-take, take_at}
use Rattle.std.proofs.lemmas.List.{drop-append-le}
use Rattle.std.proofs.lemmas.Grind.{take-set_at}
use Rattle.std.proofs.lemmas.Slice.{between_is}
use Rattle.std.specs.List.{slice_range}
use Rattle.std.specs.Fmt.{decimal}

-- more behind a part
lengthened : (from at end : ℕ) (old new more : List ℕ) → from ≤ at → at ≤ length old → take end new ≡ take at old ++ more
    → slice_range new from end ≡ slice_range old from at ++ more
lengthened from at end old new more order within is =
    between_is new from end ∙ (ap (drop from) is ∙ (drop-append-le from (take at old) more (omega (arith, length-take at old)) ∙
    ap (λ (l : List ℕ). l ++ more) (sym (between_is old from at))))

-- a part before the place of a write stays
pub kept : (from at end : ℕ) (old new more : List ℕ) → at ≤ end → at ≤ length old → take end new ≡ take at old ++ more
    → slice_range new from at ≡ slice_range old from at
kept from at end old new more order within is =
    let long : length (take at old) ≡ at = omega (arith, length-take at old) in
    let front : take at new ≡ take at old = sym (take-take at end new order) ∙ (ap (take at) is ∙ take_at (take at old) more at long) in
    between_is new from at ∙ (ap (drop from) front ∙ sym (between_is old from at))

-- digits that end at a place, and a byte there
pub ended : (from at x : ℕ) (digits rest bytes : List ℕ) → from + length digits ≡ at → at < length bytes → drop from bytes ≡ digits ++ rest
    → slice_range (set bytes at x) from (at + 1) ≡ digits ++ x ∷ []
ended from at x digits rest bytes place within is =
    let n : at - from ≡ length digits = omega arith in
    let before : slice_range bytes from at ≡ digits = ap (λ (k : ℕ). take k (drop from bytes)) n ∙
    (ap (take (length digits)) is ∙ take_at digits rest (length digits) refl) in
    lengthened from at (at + 1) bytes (set bytes at x) (x ∷ []) (omega arith) (omega arith) (take-set_at bytes at (at + 1) x refl within) ∙
    ap (λ (l : List ℕ). l ++ x ∷ []) before

-- a delta number of any length, and a space
pub delta_is : (delta : ℕ) (old new digits : List ℕ) → digits ≡ decimal delta → take (21 + length digits) new ≡ take 21 old ++ digits
    → 21 + length digits < length new
    → take (21 + length digits + 1) (set new (21 + length digits) 32) ≡ take 21 old ++ (decimal delta ++ 32 ∷ [])
delta_is delta old new digits is_digits is room =
    take-set_at new (21 + length digits) (21 + length digits + 1) 32 refl room ∙ (ap (λ (l : List ℕ). l ++ 32 ∷ []) is ∙
    (append_assoc (take 21 old) digits (32 ∷ []) ∙ ap (λ (l : List ℕ). take 21 old ++ (l ++ 32 ∷ [])) is_digits))

-- such a delta number after the time
pub start_is : (from end time delta : ℕ) (old new : List ℕ) → from ≤ 20 → length old ≡ 68 → slice_range old from 21 ≡ decimal time ++ 32 ∷ []
    → take end new ≡ take 21 old ++ (decimal delta ++ 32 ∷ []) → slice_range new from end ≡ ((decimal time ++ 32 ∷ []) ++ decimal delta) ++ 32 ∷ []
start_is from end time delta old new order within is_time is_delta =
    lengthened from 21 end old new (decimal delta ++ 32 ∷ []) (omega arith) (omega arith) is_delta ∙
    (ap (λ (l : List ℕ). l ++ (decimal delta ++ 32 ∷ [])) is_time ∙ sym (append_assoc (decimal time ++ 32 ∷ []) (decimal delta) (32 ∷ [])))
