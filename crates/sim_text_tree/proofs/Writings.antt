-- Writings one after the other. `Fits p n w i j` says that the tokens from i up to j are the writing w, with at most p parentheses and n ifs open;
-- writings in a row are put together by `◌&◌` and taken apart by `split`.
use Rattle.std.proofs.Common.{◌≡◌, ℕ, suc, ◌≤◌, List, [], ◌∷◌, ◌++◌, length, ◌+◌, refl, sym, subst, arith}
use Rattle.sim_logic.specs.declared.logic.Logic.{Logic}
use Rattle.sim_text_tokens.specs.declared.kind.Kind.{Kind}
use Rattle.sim_text_tokens.specs.declared.kind.Kind.TheVariants as k
use Rattle.sim_text_tree.specs.Name.{Name}
use Rattle.sim_text_tree.specs.Input.{Input, kind, place, next}
use Rattle.sim_text_tree.specs.Writing.{Piece, Mark, MarkAt, LiteralAt, Takes, Writing, nothing, just, mark, never, ◌▸◌, in_parentheses, in_if, word_at, Fits}

pub takes_append : (ps qs : List Piece) (i j m : Input) → Takes ps i j → Takes qs j m → Takes (ps ++ qs) i m
takes_append [] qs i j m h t = subst (λ (x : Input). Takes qs x m) (sym h) t
takes_append (p ∷ ps) qs [] j m h t = absurd h
takes_append (p ∷ ps) qs (c ∷ cs) j m h t = (h.0, takes_append ps qs cs j m h.1 t)

pub takes_split : (ps qs : List Piece) (i m : Input) → Takes (ps ++ qs) i m → (j : Input) × (Takes ps i j × Takes qs j m)
takes_split [] qs i m h = (i, (refl, h))
takes_split (p ∷ ps) qs [] m h = absurd h
takes_split (p ∷ ps) qs (c ∷ cs) m h = let r = takes_split ps qs cs m h.1 in (r.0, ((h.0, r.1.0), r.1.1))

infixr 9 ◌&◌
pub ◌&◌ : {p n : ℕ} {a b : Writing} {i j m : Input} → Fits p n a i j → Fits p n b j m → Fits p n (a ▸ b) i m
unfolding ◌▸◌
◌&◌ {p} {n} {a} {b} {i} {j} {m} x y = record {
  takes = takes_append a.pieces b.pieces i j m x.takes y.takes;
  parentheses_fit = omega
      (arith, x.parentheses_fit, y.parentheses_fit);
  ifs_fit = omega (arith, x.ifs_fit, y.ifs_fit);
  latest_fits = omega
      (arith, x.latest_fits, y.latest_fits);
}

-- where one writing ends and the next begins
pub record Halves (p n : ℕ) (a b : Writing) (i m : Input) : Type 0 where
  pub mid : Input
  pub front : Fits p n a i mid
  pub back : Fits p n b mid m

pub split : {p n : ℕ} {a b : Writing} {i m : Input} → Fits p n (a ▸ b) i m → Halves p n a b i m
unfolding ◌▸◌
split {p} {n} {a} {b} {i} {m} x =
    let r = takes_split a.pieces b.pieces i m x.takes in
    let y = x.parentheses_fit in
    let z = x.ifs_fit in
    let l = x.latest_fits in
    record {
      mid = r.0;
      front = record { takes = r.1.0; parentheses_fit = omega arith; ifs_fit = omega arith; latest_fits = omega arith };
      back =
          record { takes = r.1.1; parentheses_fit = omega arith; ifs_fit = omega arith; latest_fits = omega arith };
    }

pub one : {p n : ℕ} (x : Piece) (i j : Input) → Takes (x ∷ []) i j → Fits p n (just x) i j
one x i j t = record { takes = t; parentheses_fit = omega arith; ifs_fit = omega arith; latest_fits = omega arith }

pub none : {p n : ℕ} {i : Input} → Fits p n nothing i i
none = record { takes = refl; parentheses_fit = omega arith; ifs_fit = omega arith; latest_fits = omega arith }

pub none_to : {p n : ℕ} {i j : Input} → i ≡ j → Fits p n nothing i j
none_to e = record { takes = e; parentheses_fit = omega arith; ifs_fit = omega arith; latest_fits = omega arith }

pub none_read : {p n : ℕ} {i j : Input} → Fits p n nothing i j → i ≡ j
none_read x = x.takes

-- nothing precedes it
pub only : {p n : ℕ} {w : Writing} {i j m : Input} → i ≡ j → Fits p n w j m → Fits p n w i m
only {p} {n} {w} {i} {j} {m} e h = subst (λ (x : Input). Fits p n w x m) (sym e) h

pub never_fits : {p n : ℕ} (i j : Input) → Fits p n never i j → ⊥
never_fits [] j x = x.takes
never_fits (t ∷ ts) j x = x.takes.0

pub opened_fits : {p n : ℕ} {a : Writing} {i j : Input} → Fits p n a i j → Fits (suc p) n (in_parentheses a) i j
opened_fits x = record { takes = x.takes; parentheses_fit = omega (arith, x.parentheses_fit); ifs_fit = x.ifs_fit; latest_fits = x.latest_fits }

pub opened_read : {p n : ℕ} {a : Writing} {i j : Input} → Fits (suc p) n (in_parentheses a) i j → Fits p n a i j
opened_read x = record { takes = x.takes; parentheses_fit = omega (arith, x.parentheses_fit); ifs_fit = x.ifs_fit; latest_fits = x.latest_fits }

pub opened_none : {n : ℕ} {a : Writing} {i j : Input} → Fits 0 n (in_parentheses a) i j → ⊥
opened_none x = omega (arith, x.parentheses_fit)

pub if_fits : {p n : ℕ} {a : Writing} {i j : Input} → Fits p n a i j → Fits p (suc n) (in_if a) i j
if_fits x = record { takes = x.takes; parentheses_fit = x.parentheses_fit; ifs_fit = omega (arith, x.ifs_fit); latest_fits = x.latest_fits }

pub if_read : {p n : ℕ} {a : Writing} {i j : Input} → Fits p (suc n) (in_if a) i j → Fits p n a i j
if_read x = record { takes = x.takes; parentheses_fit = x.parentheses_fit; ifs_fit = omega (arith, x.ifs_fit); latest_fits = x.latest_fits }

pub if_none : {p : ℕ} {a : Writing} {i j : Input} → Fits p 0 (in_if a) i j → ⊥
if_none x = omega (arith, x.ifs_fit)

-- it also fits where more ifs may be open
pub deeper_fits : {p n m : ℕ} {a : Writing} {i j : Input} → n ≤ m → Fits p n a i j → Fits p m a i j
deeper_fits e x = record { takes = x.takes; parentheses_fit = x.parentheses_fit; ifs_fit = omega (arith, x.ifs_fit, e); latest_fits = x.latest_fits }

takes_length : (ps : List Piece) (i j : Input) → Takes ps i j → length j + length ps ≡ length i
takes_length [] i j h = rw h (omega arith)
takes_length (p ∷ ps) [] j h = absurd h
takes_length (p ∷ ps) (c ∷ cs) j h = omega (arith, takes_length ps cs j h.1)

pub shorter : {p n : ℕ} {w : Writing} (i j : Input) → Fits p n w i j → length j + length w.pieces ≡ length i
shorter {p} {n} {w} i j h = takes_length w.pieces i j h.takes

-- a spelling that begins with a token uses at least one token
pub less : {p n : ℕ} (x : Piece) (w : Writing) (i m : Input) → Fits p n (just x ▸ w) i m → suc (length m) ≤ length i
less {p} {n} x w i m h =
    let s = split h in
    let a = shorter i s.mid s.front in
    let b = shorter s.mid m s.back in
    omega (arith, a, b)

pub less_then : {p n : ℕ} {a w : Writing} (i m : Input) (s : Halves p n a w i m) → suc (length s.mid) ≤ length i → suc (length m) ≤ length i
less_then i m s e = omega (arith, shorter s.mid m s.back, e)

pub then_less : {p n : ℕ} {a w : Writing} (i m : Input) (s : Halves p n a w i m) → suc (length m) ≤ length s.mid → suc (length m) ≤ length i
then_less i m s e = omega (arith, shorter i s.mid s.front, e)

-- ---- single tokens by their kind

pub mark_at : {p n : ℕ} (i : Input) (x : Kind) → kind i ≡ x → (k.EndOfText ≡ x → ⊥) → Fits p n (just (MarkAt x (place i))) i (next i)
unfolding kind place next
mark_at [] x e n = absurd (n e)
mark_at (c ∷ cs) x e n = one (MarkAt x c.start) (c ∷ cs) cs ((e, refl), refl)

pub marks : {p n : ℕ} (i : Input) (x : Kind) → kind i ≡ x → (k.EndOfText ≡ x → ⊥) → Fits p n (mark x) i (next i)
unfolding kind next
marks [] x e n = absurd (n e)
marks (c ∷ cs) x e n = one (Mark x) (c ∷ cs) cs (e, refl)

pub mark_at_read : {p n : ℕ} (i j : Input) (x : Kind) (at : ℕ) → Fits p n (just (MarkAt x at)) i j → (kind i ≡ x) × ((place i ≡ at) × (next i ≡ j))
unfolding kind place next
mark_at_read [] j x at h = absurd h.takes
mark_at_read (c ∷ cs) j x at h = (h.takes.0.0, (h.takes.0.1, h.takes.1))

pub mark_read : {p n : ℕ} (i j : Input) (x : Kind) → Fits p n (mark x) i j → (kind i ≡ x) × (next i ≡ j)
unfolding kind next
mark_read [] j x h = absurd h.takes
mark_read (c ∷ cs) j x h = (h.takes.0, h.takes.1)

pub word_place : {p n : ℕ} (i j : Input) (x : Name) → Fits p n (word_at x) i j → place i ≡ x.at
unfolding place
word_place [] j x h = absurd h.takes
word_place (c ∷ cs) j x h = h.takes.0.2

pub literal_place : {p n : ℕ} (i j : Input) (v : Logic) (at : ℕ) → Fits p n (just (LiteralAt v at)) i j → place i ≡ at
unfolding place
literal_place [] j v at h = absurd h.takes
literal_place (c ∷ cs) j v at h = h.takes.0.2
