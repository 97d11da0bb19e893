-- Texts that are copied to a place of a longer text. What is behind the end of a copy is not said.
use Rattle.std.proofs.Common.{◌≡◌, ℕ, ◌+◌, ◌-◌, ◌≤◌, List, [], ◌∷◌, ◌++◌, length, take, drop, set, refl, sym, ap, ◌∙◌, arith, subst}
use Rattle.std.proofs.Common.{append_assoc, length-take, length-drop, length-set, take-append-drop, take-take, take_at}
use Rattle.std.proofs.Math.Seq.{take-append-add}
use Rattle.std.proofs.lemmas.List.{take-append-le, take_all}
use Rattle.std.proofs.lemmas.Grind.{take-set_at}
use Rattle.std.proofs.lemmas.Slice.{take-put_mid}
use Rattle.std.specs.List.{slice_range}
use borrow.Rule.Slice.PartMut.{put_mid}

-- the front of what was copied
shorter : (at n m : ℕ) (to all from : List ℕ) → at ≤ length to → m ≤ n → take (at + n) all ≡ take at to ++ from
    → take (at + m) all ≡ take at to ++ take m from
shorter at n m to all from within less is =
    let long : length (take at to) ≡ at = omega (arith, length-take at to) in
    sym (take-take (at + m) (at + n) all (omega arith)) ∙ (ap (take (at + m)) is ∙
    subst (λ (k : ℕ). take (k + m) (take at to ++ from) ≡ take at to ++ take m from) long (take-append-add (take at to) from m))

-- a text at the start of a window, which begins at a place
pub in_window : (at k : ℕ) (to window text : List ℕ) → at ≤ length to → take (length text) window ≡ text
    → take (at + length text) (put_mid at k to window) ≡ take at to ++ text
in_window at k to window text within is =
    let long : length text ≤ length window = omega (arith, ap length is, length-take (length text) window) in
    shorter at (length window) (length text) to (put_mid at k to window) window within long
    (take-put_mid at k to window (at + length window) refl within) ∙ ap (λ (l : List ℕ). take at to ++ l) is

-- the first n bytes of a text, and then its last n
pub both_ends : (n k : ℕ) (to from mid window rest more : List ℕ) → n ≤ length from → length from ≤ n + n → length from ≤ length mid
    → mid ≡ take n from ++ drop n to → window ≡ take n rest ++ more → rest ≡ take (length from - (length from - n)) (drop (length from - n) from)
    → take (length from) (put_mid (length from - n) k mid window) ≡ from
both_ends n k to from mid window rest more least most long is_mid is_window is_rest =
    let last = length from - n in
    let part = take n rest in
    let end : rest ≡ drop last from = is_rest ∙ take_all (length from - last) (drop last from) (omega (arith, length-drop last from)) in
    let whole : part ≡ drop last from = ap (take n) end ∙ take_all n (drop last from) (omega (arith, length-drop last from)) in
    let len : length part ≡ n = ap length whole ∙ omega (arith, length-drop last from) in
    let is_part : take (length part) window ≡ part = ap (take (length part)) is_window ∙ take_at part more (length part) refl in
    let placed : take (last + length part) (put_mid last k mid window) ≡ take last mid ++ part =
    in_window last k mid window part (omega arith) is_part in
    let place : length from ≡ last + length part = omega arith in
    let front : take last mid ≡ take last from = ap (take last) is_mid ∙
    (take-append-le last (take n from) (drop n to) (omega (arith, length-take n from)) ∙ take-take last n from (omega arith)) in
    ap (λ (i : ℕ). take i (put_mid last k mid window)) place ∙ (placed ∙ (ap (λ (l : List ℕ). l ++ part) front ∙
    (ap (λ (l : List ℕ). take last from ++ l) whole ∙ take-append-drop last from)))

-- the front of n bytes that were copied from a place
pub first_bytes : (at k from end n : ℕ) (to window bytes longer more text : List ℕ) → at ≤ length to → from ≤ end → end ≤ from + n
    → from + n ≤ length bytes → window ≡ take n longer ++ more → longer ≡ slice_range bytes from (from + n) → text ≡ slice_range bytes from end
    → take (at + length text) (put_mid at k to window) ≡ take at to ++ text
first_bytes at k from end n to window bytes longer more text within order less long is_window is_longer is_text =
    let rest = drop from bytes in
    let short : length text ≡ end - from = ap length is_text ∙ omega (arith, length-take (end - from) rest, length-drop from bytes) in
    let len : length longer ≡ n = ap length is_longer ∙ omega (arith, length-take (from + n - from) rest, length-drop from bytes) in
    let part : take (length text) longer ≡ text = ap (take (length text)) is_longer ∙
    (ap (λ (i : ℕ). take i (take (from + n - from) rest)) short ∙ (take-take (end - from) (from + n - from) rest (omega arith) ∙ sym is_text)) in
    in_window at k to window text within (ap (take (length text)) is_window ∙
    (take-append-le (length text) (take n longer) more (omega (arith, length-take n longer)) ∙ (take-take (length text) n longer (omega arith) ∙ part)))

-- ---- bytes that are written one by one

pub two_more : (at a b : ℕ) (xs : List ℕ) → at + 2 ≤ length xs → take (at + 2) (set (set xs at a) (at + 1) b) ≡ take at xs ++ a ∷ b ∷ []
two_more at a b xs long =
    let len : length (set xs at a) ≡ length xs = length-set xs at a in
    take-set_at (set xs at a) (at + 1) (at + 2) b (omega arith) (omega arith) ∙
    (ap (λ (l : List ℕ). l ++ b ∷ []) (take-set_at xs at (at + 1) a refl (omega arith)) ∙ append_assoc (take at xs) (a ∷ []) (b ∷ []))

pub three_more : (at a b c : ℕ) (xs : List ℕ) → at + 3 ≤ length xs
    → take (at + 3) (set (set (set xs at a) (at + 1) b) (at + 2) c) ≡ take at xs ++ a ∷ b ∷ c ∷ []
three_more at a b c xs long =
    let two = set (set xs at a) (at + 1) b in
    let len : length two ≡ length xs = length-set (set xs at a) (at + 1) b ∙ length-set xs at a in
    take-set_at two (at + 2) (at + 3) c (omega arith) (omega arith) ∙
    (ap (λ (l : List ℕ). l ++ c ∷ []) (two_more at a b xs (omega arith)) ∙ append_assoc (take at xs) (a ∷ b ∷ []) (c ∷ []))

-- a line: its start, a name in two pieces, and three bytes
pub a_line : (at n a b c byte : ℕ) (old xs ys zs us text path name : List ℕ) → take at xs ≡ old → n ≡ length text
    → take (at + length text) ys ≡ take at xs ++ text
    → take (at + n + length path) zs ≡ take (at + n) ys ++ path
    → take (at + n + length path + length name) us ≡ take (at + n + length path) zs ++ name
    → at + n + length path + length name + 3 ≤ length us → b ≡ byte
    → take (at + n + length path + length name + 3) (set (set (set us (at + n + length path + length name) a) (at + n + length path + length name + 1) b)
    (at + n + length path + length name + 2) c) ≡ old ++ (text ++ ((path ++ name) ++ a ∷ byte ∷ c ∷ []))
a_line at n a b c byte old xs ys zs us text path name is_old is_n is_text is_path is_name long is_byte =
    let end = at + n + length path + length name in
    let tail = a ∷ byte ∷ c ∷ [] in
    let start : take (at + n) ys ≡ old ++ text = ap (λ (k : ℕ). take (at + k) ys) is_n ∙ (is_text ∙ ap (λ (l : List ℕ). l ++ text) is_old) in
    let named : take end us ≡ ((old ++ text) ++ path) ++ name = is_name ∙ ap (λ (l : List ℕ). l ++ name) (is_path ∙ ap (λ (l : List ℕ). l ++ path) start) in
    three_more end a b c us long ∙ (ap (λ (x : ℕ). take end us ++ a ∷ x ∷ c ∷ []) is_byte ∙ (ap (λ (l : List ℕ). l ++ tail) named ∙
    (append_assoc ((old ++ text) ++ path) name tail ∙ (append_assoc (old ++ text) path (name ++ tail) ∙
    (append_assoc old text (path ++ (name ++ tail)) ∙ ap (λ (l : List ℕ). old ++ (text ++ l)) (sym (append_assoc path name tail)))))))
