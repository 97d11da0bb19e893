-- The last six digits of a number stay where those of the next number are the same.
use Rattle.std.proofs.Common.{◌≡◌, ℕ, ◌+◌, ◌-◌, ◌/◌, ◌%◌, ◌^◌, ◌<◌, ◌≤◌, List, [], ◌∷◌, ◌++◌, length, take, drop, refl, sym, ap, ◌∙◌, arith}
use Rattle.std.proofs.Common.{append_assoc, length-append, length-drop, length-take}
use Rattle.std.proofs.Math.Seq.{drop_at, drop-drop, take-append-add}
use Rattle.std.proofs.lemmas.Slice.{between_is}
use Rattle.std.specs.List.{slice_range}
use Rattle.std.specs.Fmt.{decimal}
use Rattle.itoa.proofs.Decimal.{pair, decimal_pair, decimal_four}

-- the last six digits of a number that has more, from its remainder
abbrev six : ℕ → List ℕ
six low = pair (low / 10000) ++ (pair (low % 10000 / 100) ++ pair (low % 10000 % 100))

decimal_six : (n : ℕ) → 1000000 ≤ n → n < 2 ^ 64 → decimal n ≡ decimal (n / 1000000) ++ six (n % 1000000)
decimal_six n large fits =
    let a : n / 10000 / 100 ≡ n / 1000000 = omega arith in
    let b : n / 10000 % 100 ≡ n % 1000000 / 10000 = omega arith in
    let c : n % 10000 ≡ n % 1000000 % 10000 = omega arith in
    rw (decimal_four n (omega arith) fits, decimal_pair (n / 10000) (omega arith) (omega arith), append_assoc, a, b, ← c)

-- digits and a space
text_six : (n : ℕ) → 1000000 ≤ n → n < 2 ^ 64 → decimal n ++ 32 ∷ [] ≡ decimal (n / 1000000) ++ (six (n % 1000000) ++ 32 ∷ [])
text_six n large fits = ap (λ (l : List ℕ). l ++ 32 ∷ []) (decimal_six n large fits) ∙ append_assoc (decimal (n / 1000000)) (six (n % 1000000)) (32 ∷ [])

-- where the last seven bytes of a text that ends at place 21 stand
last_seven : (start : ℕ) (bytes front rest : List ℕ) → start ≤ 20 → length bytes ≡ 68 → slice_range bytes start 21 ≡ front ++ rest → length rest ≡ 7
    → slice_range bytes 14 21 ≡ rest
last_seven start bytes front rest order long is seven =
    let text = take 21 bytes in
    let all : drop start text ≡ front ++ rest = sym (between_is bytes start 21) ∙ is in
    let lengths : length (drop start text) ≡ length front + length rest = ap length all ∙ length-append front rest in
    let place : start + length front ≡ 14 = omega (arith, length-drop start text, length-take 21 bytes) in
    between_is bytes 14 21 ∙ (ap (λ (k : ℕ). drop k text) (sym place) ∙ (sym (drop-drop (length front) start text) ∙
    (ap (drop (length front)) all ∙ drop_at front rest (length front) refl)))

-- a text whose bytes before place 14 were written anew
joined : (start : ℕ) (old new front rest : List ℕ) → start + length front ≡ 14 → drop start new ≡ front ++ drop 14 old → slice_range old 14 21 ≡ rest
    → slice_range new start 21 ≡ front ++ rest
joined start old new front rest place is is_rest =
    let n : 21 - start ≡ length front + 7 = omega arith in
    ap (λ (k : ℕ). take k (drop start new)) n ∙ (ap (take (length front + 7)) is ∙ (take-append-add front (drop 14 old) 7 ∙
    ap (λ (l : List ℕ). front ++ l) is_rest))

-- the digits of a time, of which those before the last six were written over those of an earlier time
pub high_digits : (from start time earlier : ℕ) (old new : List ℕ) → start ≤ 20 → length old ≡ 68 → slice_range old start 21 ≡ decimal earlier ++ 32 ∷ []
    → 1000000 ≤ time → time < 2 ^ 64 → 1000000 ≤ earlier → earlier < 2 ^ 64 → earlier % 1000000 ≡ time % 1000000
    → from + length (decimal (time / 1000000)) ≡ 14 → drop from new ≡ decimal (time / 1000000) ++ drop 14 old
    → slice_range new from 21 ≡ decimal time ++ 32 ∷ []
high_digits from start time earlier old new order long is large fits large_earlier fits_earlier same place is_new =
    let rest = six (time % 1000000) ++ 32 ∷ [] in
    let was : slice_range old start 21 ≡ decimal (earlier / 1000000) ++ rest = is ∙ (text_six earlier large_earlier fits_earlier ∙
    ap (λ (k : ℕ). decimal (earlier / 1000000) ++ (six k ++ 32 ∷ [])) same) in
    joined from old new (decimal (time / 1000000)) rest place is_new (last_seven start old (decimal (earlier / 1000000)) rest order long was refl) ∙
    sym (text_six time large fits)
