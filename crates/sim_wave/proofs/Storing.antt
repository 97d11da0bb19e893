-- Lists of transactions whose first part has been taken.
use Rattle.std.proofs.Common.{ℕ, zero, suc, ◌+◌, ◌-◌, ◌<◌, ◌≤◌, ◌≡◌, List, [], ◌∷◌, ◌++◌, length, take, drop, refl, ap, sym, ◌∙◌, arith, length-append}
use Rattle.std.proofs.Common.{length-drop}
use Rattle.std.specs.List.{remove_range}
use Rattle.std.proofs.lemmas.List.{get_or-drop, length-take-le}
use Rattle.sim_logic.specs.declared.logic.Logic.{Logic}
use Rattle.sim_logic.specs.declared.logic.Logic.TheVariants.{U}
use Rattle.sim_standard.specs.Drivers.{Transaction, transaction_at}
use Rattle.sim_standard.specs.declared.delay.Delay.{Delay}
use Rattle.sim_standard.specs.Editing.{before, edited, kept_of}
use Rattle.sim_wave.specs.Rising.{RisesFrom, scheduled}
use Rattle.sim_wave.specs.Run.{IsRun}
use Rattle.sim_wave.proofs.Rising.{RisesFrom-earlier}

pub drop_one-drop : (h h' : ℕ) (xs : List Transaction) → h' ≡ h + 1 → drop h' xs ≡ drop 1 (drop h xs)
drop_one-drop zero zero xs e = absurd (omega arith)
drop_one-drop (suc h) zero xs e = absurd (omega arith)
drop_one-drop zero (suc h') [] e = refl
drop_one-drop (suc h) (suc h') [] e = refl
drop_one-drop zero (suc zero) (x ∷ xs) e = refl
drop_one-drop zero (suc (suc h')) (x ∷ xs) e = absurd (omega arith)
drop_one-drop (suc h) (suc h') (x ∷ xs) e = drop_one-drop h h' xs (omega arith)

-- an edit beyond the first `h` transactions is an edit of the list without them
pub drop-remove_range : (h f b e f' b' e' : ℕ) (xs ys : List Transaction) → f ≤ b → b ≤ e → e' ≤ length xs
    → f' ≡ h + f → b' ≡ h + b → e' ≡ h + e
    → drop h (remove_range (take e' xs) f' b' ++ ys) ≡ remove_range (take e (drop h xs)) f b ++ ys
drop-remove_range zero f b e f' b' e' xs ys fb be fits p q r =
    let pf : f' ≡ f = omega arith in
    let pb : b' ≡ b = omega arith in
    let pe : e' ≡ e = omega arith in
    rw (pf, pb, pe) refl
drop-remove_range (suc h) f b e zero b' e' xs ys fb be fits p q r = absurd (omega arith)
drop-remove_range (suc h) f b e (suc f') zero e' xs ys fb be fits p q r = absurd (omega arith)
drop-remove_range (suc h) f b e (suc f') (suc b') zero xs ys fb be fits p q r = absurd (omega arith)
drop-remove_range (suc h) f b e (suc f') (suc b') (suc e') [] ys fb be fits p q r = absurd (omega arith)
drop-remove_range (suc h) f b e (suc f') (suc b') (suc e') (x ∷ xs) ys fb be fits p q r =
    drop-remove_range h f b e f' b' e' xs ys fb be (omega arith) (omega arith) (omega arith) (omega arith)

-- the number of transactions that are kept
pub length-remove_range : (f b e : ℕ) (xs : List Transaction) → f ≤ b → b ≤ e → e ≤ length xs → length (remove_range (take e xs) f b) ≡ f + (e - b)
length-remove_range f b e xs fb be fits =
    let taken : length (take e xs) ≡ e = length-take-le e xs fits in
    let front : length (take f (take e xs)) ≡ f = length-take-le f (take e xs) (omega arith) in
    omega (arith, length-append (take f (take e xs)) (drop b (take e xs)), length-drop b (take e xs))

-- the run in a list without its first transactions
pub IsRun-drop : (h s e : ℕ) (v : Logic) (xs : List Transaction) → IsRun xs s e v → IsRun (drop h xs) (s - h) (e - h) v
IsRun-drop h s e v xs run k g l = rw (get_or-drop h xs k (0, U)) (run (h + k) (omega arith) (omega arith))

-- a run up to the first new transaction
pub IsRun-first : (f b e end : ℕ) (v : Logic) (xs : List Transaction) (n : Transaction) (ns : List Transaction) → f ≤ b → b ≤ e → e ≤ length xs
    → IsRun xs b e v → n.1 ≡ v → end ≡ f + (e - b) + 1 → IsRun (remove_range (take e xs) f b ++ n ∷ ns) f end v
IsRun-first zero zero zero end v xs n ns fb be fits run same q zero g l = same
IsRun-first zero zero zero end v xs n ns fb be fits run same q (suc k) g l = absurd (omega arith)
IsRun-first zero zero (suc e) end v [] n ns fb be fits run same q k g l = absurd (omega arith)
IsRun-first zero zero (suc e) end v (x ∷ xs) n ns fb be fits run same q zero g l = run 0 (omega arith) (omega arith)
IsRun-first zero zero (suc e) end v (x ∷ xs) n ns fb be fits run same q (suc k) g l =
    IsRun-first zero zero e (end - 1) v xs n ns (omega arith) (omega arith) (omega arith) (λ i a c. run (suc i) (omega arith) (omega arith)) same
    (omega arith) k (omega arith) (omega arith)
IsRun-first zero (suc b) zero end v xs n ns fb be fits run same q k g l = absurd (omega arith)
IsRun-first zero (suc b) (suc e) end v [] n ns fb be fits run same q k g l = absurd (omega arith)
IsRun-first zero (suc b) (suc e) end v (x ∷ xs) n ns fb be fits run same q k g l =
    IsRun-first zero b e end v xs n ns (omega arith) (omega arith) (omega arith) (λ i a c. run (suc i) (omega arith) (omega arith)) same (omega arith) k g l
IsRun-first (suc f) zero e end v xs n ns fb be fits run same q k g l = absurd (omega arith)
IsRun-first (suc f) (suc b) zero end v xs n ns fb be fits run same q k g l = absurd (omega arith)
IsRun-first (suc f) (suc b) (suc e) end v [] n ns fb be fits run same q k g l = absurd (omega arith)
IsRun-first (suc f) (suc b) (suc e) end v (x ∷ xs) n ns fb be fits run same q zero g l = absurd (omega arith)
IsRun-first (suc f) (suc b) (suc e) end v (x ∷ xs) n ns fb be fits run same q (suc k) g l =
    IsRun-first f b e (end - 1) v xs n ns (omega arith) (omega arith) (omega arith) (λ i a c. run (suc i) (omega arith) (omega arith)) same (omega arith) k
    (omega arith) (omega arith)

-- the others ascend too
pub rises-drop_one : (xs : List Transaction) → RisesFrom 0 xs → RisesFrom 0 (drop 1 xs)
rises-drop_one [] r = tt
rises-drop_one (x ∷ xs) r = RisesFrom-earlier 0 (suc x.0) xs (omega arith) r.1

pub length-scheduled : (now : ℕ) (es : List Transaction) → length (scheduled now es) ≡ length es
length-scheduled now [] = refl
length-scheduled now (e ∷ es) = ap suc (length-scheduled now es)

-- those kept and the new ones are pending afterwards
pub kept-edited : (now : ℕ) (old : List Transaction) (delay : Delay) (es kept : List Transaction) → 0 < length es
    → kept ≡ kept_of delay (now + (transaction_at es 0).0, (transaction_at es 0).1) (before (now + (transaction_at es 0).0) old)
    → kept ++ scheduled now es ≡ edited old now delay es
kept-edited now old delay [] kept some e = absurd (omega arith)
kept-edited now old delay (x ∷ xs) kept some e = ap (λ (w : List Transaction). w ++ scheduled now (x ∷ xs)) e

-- the number of transactions that are pending afterwards
pub length-left : (now f b e : ℕ) (xs es : List Transaction) → f ≤ b → b ≤ e → e ≤ length xs
    → length (remove_range (take e xs) f b ++ scheduled now es) ≡ f + (e - b) + length es
length-left now f b e xs es fb be fits =
    let front = length-remove_range f b e xs fb be fits in
    omega (arith, length-append (remove_range (take e xs) f b) (scheduled now es), length-scheduled now es)

-- a run of a list without its first transactions is a run of the list
pub IsRun-undrop : (h s e s' e' : ℕ) (v : Logic) (xs : List Transaction) → IsRun (drop h xs) s e v → s' ≡ h + s → e' ≡ h + e → IsRun xs s' e' v
IsRun-undrop h s e s' e' v xs run p q k g l =
    let at : transaction_at (drop h xs) (k - h) ≡ transaction_at xs (h + (k - h)) = get_or-drop h xs (k - h) (0, U) in
    let place : h + (k - h) ≡ k = omega arith in
    let there : (transaction_at (drop h xs) (k - h)).1 ≡ v = run (k - h) (omega arith) (omega arith) in
    ap (λ (i : ℕ). (transaction_at xs i).1) (sym place) ∙ (ap (λ (t : Transaction). t.1) (sym at) ∙ there)

-- the run up to the first new transaction, after an edit of the pending part of a list
pub IsRun-edited : (now h b e f' b' e' end : ℕ) (xs pending es : List Transaction) → 0 < length es → pending ≡ drop h xs
    → f' ≤ b' → b' ≤ e' → e' ≤ length xs → b' ≡ h + b → e' ≡ h + e
    → IsRun pending b e (transaction_at es 0).1 → end ≡ f' + (e' - b') + 1
    → IsRun (remove_range (take e' xs) f' b' ++ scheduled now es) f' end (transaction_at es 0).1
IsRun-edited now h b e f' b' e' end xs pending [] some is fb be fits p q run last = absurd (omega arith)
IsRun-edited now h b e f' b' e' end xs pending (x ∷ es) some is fb be fits p q run last =
    IsRun-first f' b' e' end x.1 xs (now + x.0, x.1) (scheduled now es) fb be fits
    (IsRun-undrop h b e b' e' x.1 xs (rw is at run) p q) refl last
