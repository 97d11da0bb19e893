-- Which drivers are due: those whose first pending time is the least of all.
use Rattle.std.proofs.Common.{ℕ, zero, suc, ◌+◌, ◌<◌, ◌≤◌, ◌≡◌, ◌≢◌, ◌++◌, eqb, Bool, true, false, cond, min, List, [], ◌∷◌, length, set, map}
use Rattle.std.proofs.Common.{refl, ap, sym, ◌∙◌, arith}
use Rattle.std.proofs.Common.{Option, Some, None, fold}
use Rattle.std.proofs.lemmas.Bool.Decides.{nat_tests}
use Rattle.std.proofs.lemmas.List.{length-map, same_lists, get_or_default, get_or-set_same, get_or-set_other}
use Rattle.std.proofs.lemmas.Option.{same_Some}
use Rattle.sim_logic.specs.declared.logic.Logic.{Logic}
use Rattle.sim_standard.specs.Drivers.{Transaction, DriverState, taken, next_time}
use Rattle.sim_containers.specs.Numbers.{is_in}
use Rattle.sim_containers.specs.Times.{time_of, is_at, earliest, those_at, clear, cleared, earlier}
use Rattle.sim_containers.proofs.Queues.{at_cleared}
use Rattle.sim_containers.proofs.Taking.{in_those_at}
use Rattle.sim_store_share.specs.Shares.{time_at}
use Rattle.sim_store_share.proofs.Times.{none_next, next_append, times}
use Rattle.sim_containers.specs.Words.{IsNext}
use Rattle.sim_store_nets.proofs.Walks.{Walked, walk_more}

-- ---- the times of all drivers

abbrev pub first_times : List DriverState → List (Option ℕ)
first_times drivers = map (λ (d : DriverState). next_time (d ∷ [])) drivers

-- the least of them is the time of the next cycle
pub earliest-next : (ds : List DriverState) → earliest (first_times ds) ≡ next_time ds
earliest-next [] = sym none_next
earliest-next (d ∷ ds) =
    ap (earlier (next_time (d ∷ []))) (earliest-next ds) ∙ sym (next_append (d ∷ []) ds)

pub time-of-first : (ds : List DriverState) (d : ℕ) → time_of (first_times ds) d ≡ time_at ds d
unfolding next_time
time-of-first [] d = refl
time-of-first (w ∷ ds) zero = refl
time-of-first (w ∷ ds) (suc d) = time-of-first ds d

pub first-count : (ds : List DriverState) → length (first_times ds) ≡ length ds
first-count ds = length-map ds (λ (d : DriverState). next_time (d ∷ []))

-- none is earlier than the least
earlier-left : (a b : Option ℕ) (s t : ℕ) → earlier a b ≡ Some s → a ≡ Some t → s ≤ t
earlier-left None b s t e f = absurd cc
earlier-left (Some m) None s t e f = let g : m ≡ s = same_Some m s e in let h : m ≡ t = same_Some m t f in omega arith
earlier-left (Some m) (Some n) s t e f = let g : min m n ≡ s = same_Some (min m n) s e in let h : m ≡ t = same_Some m t f in omega arith

earlier-right : (a b : Option ℕ) (s t : ℕ) → earlier a b ≡ Some s → ((u : ℕ) → b ≡ Some u → u ≤ t) → b ≢ None → s ≤ t
earlier-right None None s t e f g = absurd cc
earlier-right None (Some n) s t e f g = let h : n ≡ s = same_Some n s e in let k = f n refl in omega (arith, k)
earlier-right (Some m) None s t e f g = absurd (g refl)
earlier-right (Some m) (Some n) s t e f g = let h : min m n ≡ s = same_Some (min m n) s e in let k = f n refl in omega (arith, k)

some-not-none : (ts : List (Option ℕ)) (d t : ℕ) → time_of ts d ≡ Some t → earliest ts ≢ None
some-not-none [] d t e = absurd cc
some-not-none (None ∷ ts) zero t e = absurd cc
some-not-none (Some m ∷ ts) zero t e = λ f. go (earliest ts) f
  where
    go : (o : Option ℕ) → earlier (Some m) o ≡ None → ⊥
    go None f = absurd cc
    go (Some n) f = absurd cc
some-not-none (None ∷ ts) (suc d) t e = some-not-none ts d t e
some-not-none (Some m ∷ ts) (suc d) t e = λ f. go (earliest ts) f
  where
    go : (o : Option ℕ) → earlier (Some m) o ≡ None → ⊥
    go None f = absurd cc
    go (Some n) f = absurd cc

pub least-of-times : (ts : List (Option ℕ)) (d s t : ℕ) → earliest ts ≡ Some s → time_of ts d ≡ Some t → s ≤ t
least-of-times [] d s t e f = absurd cc
least-of-times (o ∷ ts) zero s t e f = earlier-left o (earliest ts) s t e f
least-of-times (o ∷ ts) (suc d) s t e f =
    earlier-right o (earliest ts) s t e (λ u g. least-of-times ts d u t g f) (some-not-none ts d t f)

-- ---- drivers that are not due take nothing

abbrev driver_state : Logic → List Transaction → DriverState
driver_state value pending = record { value = value; pending = pending }

pub keeps : (time : ℕ) (v : Logic) (xs : List Transaction) → ((x : Transaction) (rest : List Transaction) → xs ≡ x ∷ rest → x.0 ≢ time)
    → taken time (driver_state v xs) ≡ driver_state v xs
keeps time v [] f = refl
keeps time v (x ∷ xs) f = go (eqb x.0 time) refl
  where
    go : (b : Bool) → eqb x.0 time ≡ b → (cond b (driver_state x.1 xs) (driver_state v (x ∷ xs))) ≡ driver_state v (x ∷ xs)
    go true e = absurd (f x xs refl (grind (arith, nat_tests)))
    go false e = refl

-- the first pending time is no earlier than the least of its driver
pub first-of : (w : DriverState) (x : Transaction) (rest : List Transaction) → w.pending ≡ x ∷ rest → next_time (w ∷ []) ≡ Some (fold min x.0
    (times rest ++ []))
unfolding next_time
first-of w x rest e = ap (λ (xs : List Transaction). next_time (driver_state w.value xs ∷ [])) e

-- ---- after the due drivers took their transactions

clear-same : (time : ℕ) (o : Option ℕ) → is_at time o ≡ true → clear time o ≡ None
clear-same time o e = ap (λ b. cond b None o) e

-- the queue has let go of the times of the due drivers
pub due-cleared : (times times' : List (Option ℕ)) (due : List Bool) (time d : ℕ) → due ≡ those_at time times → times' ≡ cleared time times
    → is_in due d ≡ true → time_of times' d ≡ None
due-cleared times times' due time d ed ec e =
    ap (λ w. time_of w d) ec ∙ (at_cleared time times d ∙ clear-same time (time_of times d) (sym (in_those_at time times d)
    ∙ (ap (λ w. is_in w d) (sym ed) ∙ e)))

-- ---- bringing up to date

pub all-times : (times : List (Option ℕ)) (ds : List DriverState) → length times ≡ length ds → ((d : ℕ) → time_of times d ≡ time_at ds d)
    → times ≡ first_times ds
all-times times ds l same =
    same_lists times (first_times ds) (l ∙ sym (first-count ds))
    (λ d x lt. get_or_default times d x None lt ∙ (same d ∙ (sym (time-of-first ds d)
    ∙ get_or_default (first_times ds) d None x (omega (arith, l, lt, first-count ds)))))

-- one more has its time
pub times-more : (times times' : List (Option ℕ)) (ds : List DriverState) (t : Option ℕ) {stale : List Bool} {from n : ℕ}
    → Walked stale from (λ (d : ℕ). time_of times d ≡ time_at ds d) → IsNext (is_in stale) from n → n < length times → times' ≡ set times n t
    → t ≡ time_at ds n → Walked stale (n + 1) (λ (d : ℕ). time_of times' d ≡ time_at ds d)
times-more times times' ds t {stale} {from} {n} w next lt en et =
    walk_more w next (λ d apart e. ap (λ w. time_of w d) en ∙ (get_or-set_other times n d t None apart ∙ e))
    (ap (λ w. time_of w n) en ∙ (get_or-set_same times n t None lt ∙ et))
