-- Short names: what their bytes hold, and what is appended to them.
use Rattle.std.proofs.Common.{◌≡◌, ℕ, zero, suc, ◌+◌, ◌<◌, ◌≤◌, List, [], ◌∷◌, ◌++◌, length, take, set, refl, sym, ap, ◌∙◌, arith, subst}
use Rattle.std.proofs.Common.{get_or, append_assoc, append-nil, length-take, take-take}
use Rattle.std.specs.Prelude.{Option, None, Some, IfSome, nat_lt, if◌then◌else◌, Bool, true, false}
use Rattle.std.specs.List.{concat}
use Rattle.std.proofs.lemmas.Bool.{lt-ltb, ltb-true, le-ltb}
use Rattle.std.proofs.lemmas.List.{get_or-set_same, take-append-le, take-set-le, take_more}
use Rattle.std.proofs.lemmas.List.Folds.{concat-append}
use Rattle.std.proofs.lemmas.Option.{none-some, same_Some, cond_some}
use Rattle.sim_run_listing.proofs.Copies.{in_window, three_more}
use Rattle.sim_logic.specs.declared.logic.Logic.{Logic}
use Rattle.sim_logic.specs.Logic.{byte_of}
use Rattle.sim_run_listing.specs.Listing.{line_of, pieces_of}
use Rattle.sim_run_listing.specs.ShortNames.{short_of, length_of, extended, IsAtMost, AreNames, with_line}
use borrow.Rule.Slice.PartMut.{put_mid}

-- ---- names of nets

-- what is true of each element of a list, and of no element, is true with one more
one_more : (P : ℕ → Option (List ℕ) → Type 0) (known : List (Option (List ℕ))) (x : Option (List ℕ)) → ((n : ℕ) → P n (get_or known n None))
    → P (length known) x → ((n : ℕ) → P n None) → (n : ℕ) → P n (get_or (known ++ x ∷ []) n None)
one_more P [] x all last none zero = last
one_more P [] x all last none (suc n) = none (suc n)
one_more P (k ∷ ks) x all last none zero = all zero
one_more P (k ∷ ks) x all last none (suc n) = one_more (λ m. P (suc m)) ks x (λ m. all (suc m)) last (λ m. none (suc m)) n

-- the name of one more net
pub more_names : (names : List (List ℕ)) (known : List (Option (List ℕ))) (x : Option (List ℕ)) → AreNames names known
    → IsAtMost x (get_or names (length known) []) → AreNames names (known ++ x ∷ [])
more_names names known x all last = one_more (λ n o. IsAtMost o (get_or names n [])) known x all last (λ n. tt)

-- no names are known
pub no_names : (names : List (List ℕ)) → AreNames names []
no_names names zero = tt
no_names names (suc n) = tt

-- ---- pieces of a name

extended_if : (b : Bool) (name all : List ℕ) → name ≡ all → IsAtMost (if b then Some name else None) all
extended_if true name all is = is
extended_if false name all is = tt

-- one more piece
pub one_piece : (short : Option (List ℕ)) (name piece : List ℕ) → IsAtMost short name → IsAtMost (extended short piece) (name ++ piece)
one_piece None name piece is = tt
one_piece (Some text) name piece is = extended_if _ (text ++ piece) (name ++ piece) (ap (λ (l : List ℕ). l ++ piece) is)

-- one more piece of a path
pub one_of_path : (short : Option (List ℕ)) (path : List (List ℕ)) (i : ℕ) (piece : List ℕ) → piece ≡ get_or path i piece → i < length path
    → IsAtMost short (concat (take i path)) → IsAtMost (extended short piece) (concat (take (i + 1) path))
one_of_path short path i piece is within known =
    let joined : concat (take (i + 1) path) ≡ concat (take i path) ++ piece =
    ap concat (take_more path i piece within) ∙ (concat-append (take i path) (get_or path i piece ∷ []) ∙
    (ap (λ (l : List ℕ). concat (take i path) ++ l) (append-nil (get_or path i piece) ∙ sym is))) in
    subst (λ (l : List ℕ). IsAtMost (extended short piece) l) (sym joined) (one_piece short (concat (take i path)) piece known)

-- ---- the bytes of a name

-- bytes whose last one is small
short_at : (bytes : List ℕ) (end : ℕ) → get_or bytes 31 0 ≡ end → end < 32 → short_of bytes ≡ Some (take end bytes)
short_at bytes end is less =
    ap (λ (n : ℕ). if nat_lt n 32 then Some (take n bytes) else None) is ∙
    ap (λ (b : Bool). if b then Some (take end bytes) else None) (lt-ltb end 32 less)

-- bytes that hold a name
holds : (bytes text : List ℕ) → short_of bytes ≡ Some text → (get_or bytes 31 0 < 32) × (take (get_or bytes 31 0) bytes ≡ text)
holds bytes text is =
    let p = cond_some (nat_lt (get_or bytes 31 0) 32) (take (get_or bytes 31 0) bytes) text is in (ltb-true (get_or bytes 31 0) 32 p.0, p.1)

-- a name that is none stays
pub stays_none : (name : Option (List ℕ)) (piece : List ℕ) → None ≡ length_of name → name ≡ extended name piece
stays_none None piece is = refl
stays_none (Some text) piece is = absurd (none-some (length text) is)

-- a piece for which there is room
pub appended : (bytes piece all : List ℕ) (name : Option (List ℕ)) (len : ℕ) → length bytes ≡ 32 → 31 < length all → short_of bytes ≡ name
    → Some len ≡ length_of name → len + length piece < 32 → take (len + length piece) all ≡ take len bytes ++ piece
    → short_of (set all 31 (len + length piece)) ≡ extended name piece
appended bytes piece all None len whole within is has fits copied = absurd (none-some len (sym has))
appended bytes piece all (Some text) len whole within is has fits copied =
    let end = len + length piece in
    let count = get_or bytes 31 0 in
    let held = holds bytes text is in
    let long : length text ≡ count = omega (arith, ap length held.1, length-take count bytes, held.0) in
    let has_len : len ≡ length text = same_Some len (length text) has in
    let name : take len bytes ≡ text = ap (λ (k : ℕ). take k bytes) (has_len ∙ long) ∙ held.1 in
    let sum : length text + length piece < 32 = omega arith in
    short_at (set all 31 end) end (get_or-set_same all 31 end 0 within) fits ∙
    (ap Some (take-set-le end all 31 end (omega arith) ∙ (copied ∙ ap (λ (l : List ℕ). l ++ piece) name)) ∙
    sym (ap (λ (b : Bool). if b then Some (text ++ piece) else None) (lt-ltb (length text + length piece) 32 sum)))

-- a piece that is too long
pub too_long : (bytes piece : List ℕ) (name : Option (List ℕ)) (len : ℕ) → 31 < length bytes → Some len ≡ length_of name → 32 ≤ len + length piece
    → short_of (set bytes 31 255) ≡ extended name piece
too_long bytes piece None len within has long = absurd (none-some len (sym has))
too_long bytes piece (Some text) len within has long =
    let has_len : len ≡ length text = same_Some len (length text) has in
    let sum : 32 ≤ length text + length piece = omega arith in
    ap (λ (n : ℕ). if nat_lt n 32 then Some (take n (set bytes 31 255)) else None) (get_or-set_same bytes 31 255 0 within) ∙
    sym (ap (λ (b : Bool). if b then Some (text ++ piece) else None) (le-ltb (length text + length piece) 32 sum))

-- a name whose bytes were all copied, in a window that begins at a place
pub name_in_window : (at k : ℕ) (to window bytes more : List ℕ) (name : Option (List ℕ)) → at ≤ length to → length bytes ≡ 32 → short_of bytes ≡ name
    → window ≡ take 32 bytes ++ more → IfSome name (λ t. take (at + length t) (put_mid at k to window) ≡ take at to ++ t)
name_in_window at k to window bytes more None within whole is is_window = tt
name_in_window at k to window bytes more (Some text) within whole is is_window =
    let count = get_or bytes 31 0 in
    let held = holds bytes text is in
    let long : length text ≡ count = omega (arith, ap length held.1, length-take count bytes, held.0) in
    let front : take (length text) window ≡ text =
    ap (take (length text)) is_window ∙ (take-append-le (length text) (take 32 bytes) more (omega (arith, length-take 32 bytes, held.0)) ∙
    (take-take (length text) 32 bytes (omega (arith, held.0)) ∙ (ap (λ (n : ℕ). take n bytes) long ∙ held.1))) in
    in_window at k to window text within front

-- ---- the line of a name

-- a line: its start, a name and three bytes
short_line : (at n a b c byte : ℕ) (old xs ys us text name : List ℕ) → take at xs ≡ old → n ≡ length text
    → take (at + length text) ys ≡ take at xs ++ text → take (at + n + length name) us ≡ take (at + n) ys ++ name
    → at + n + length name + 3 ≤ length us → b ≡ byte
    → take (at + n + length name + 3) (set (set (set us (at + n + length name) a) (at + n + length name + 1) b) (at + n + length name + 2) c)
    ≡ old ++ (text ++ (name ++ a ∷ byte ∷ c ∷ []))
short_line at n a b c byte old xs ys us text name is_old is_n is_text is_name long is_byte =
    let end = at + n + length name in
    let tail = a ∷ byte ∷ c ∷ [] in
    let start : take (at + n) ys ≡ old ++ text = ap (λ (k : ℕ). take (at + k) ys) is_n ∙ (is_text ∙ ap (λ (l : List ℕ). l ++ text) is_old) in
    let named : take end us ≡ (old ++ text) ++ name = is_name ∙ ap (λ (l : List ℕ). l ++ name) start in
    three_more end a b c us long ∙ (ap (λ (x : ℕ). take end us ++ a ∷ x ∷ c ∷ []) is_byte ∙ (ap (λ (l : List ℕ). l ++ tail) named ∙
    (append_assoc (old ++ text) name tail ∙ append_assoc old text (name ++ tail))))

-- the line of a name with this number of bytes
pub whole_line : (at n len b : ℕ) (value : Logic) (old xs ys us text : List ℕ) (name : Option (List ℕ)) → length_of name ≡ Some len
    → take at xs ≡ old → n ≡ length text → take (at + length text) ys ≡ take at xs ++ text
    → IfSome name (λ t. take (at + n + length t) us ≡ take (at + n) ys ++ t) → at + n + len + 3 ≤ length us → b ≡ byte_of value
    → Some (take (at + n + len + 3) (set (set (set us (at + n + len) 32) (at + n + len + 1) b) (at + n + len + 2) 10)) ≡ with_line old text name value
whole_line at n len b value old xs ys us text None has is_old is_n is_text is_name long is_byte = absurd (none-some len has)
whole_line at n len b value old xs ys us text (Some name) has is_old is_n is_text is_name long is_byte =
    let e : length name ≡ len = same_Some (length name) len has in
    let line = short_line at n 32 b 10 (byte_of value) old xs ys us text name is_old is_n is_text is_name (omega arith) is_byte in
    subst (λ (k : ℕ). Some (take (at + n + k + 3) (set (set (set us (at + n + k) 32) (at + n + k + 1) b) (at + n + k + 2) 10))
    ≡ with_line old text (Some name) value) e (ap Some line)

-- the line of a net whose name is known
pub line_known : (names : List (List ℕ)) (known : List (Option (List ℕ))) (net : ℕ) (name : Option (List ℕ)) (head old new : List ℕ) (value : Logic)
    → AreNames names known → name ≡ get_or known net None → Some new ≡ with_line old head name value → new ≡ old ++ line_of head names (net, value)
line_known names known net None head old new value are is line = absurd (none-some new (sym line))
line_known names known net (Some text) head old new value are is line =
    let named : text ≡ get_or names net [] = subst (λ (o : Option (List ℕ)). IsAtMost o (get_or names net [])) (sym is) (are net) in
    same_Some new (old ++ pieces_of head text value) line ∙ ap (λ (t : List ℕ). old ++ pieces_of head t value) named
