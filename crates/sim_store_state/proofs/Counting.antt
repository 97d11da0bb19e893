-- The changes of nets that get the values of their sources one after another, and how they are counted.
use Rattle.std.proofs.Common.{ℕ, ◌+◌, ◌<◌, ◌≤◌, ◌≡◌, ◌++◌, List, [], ◌∷◌, length, map, set}
use Rattle.std.proofs.Common.{refl, ap, sym, ◌∙◌, subst, arith, append_assoc}
use Rattle.std.proofs.Math.Decide.{dec_lt}
use Rattle.std.specs.Prelude.{filter}
use Rattle.std.proofs.lemmas.List.{get_or_past, length-append, map-append}
use Rattle.std.proofs.lemmas.List.Elements.{filter-append}
use Rattle.std.proofs.lemmas.List.Sums.{count_by-le-length, length-filter}
use Rattle.sim_logic.specs.declared.logic.Logic.{Logic}
use Rattle.sim_standard.specs.Agreement.{is_of}
use Rattle.sim_standard.specs.Records.{changes_from}
use Rattle.sim_store_nets.specs.Lists.{NetValues}
use Rattle.sim_store_nets.specs.Nets.{changed_to, value_at, views_of}
use Rattle.sim_store_state.specs.Counting.{AreCountable, AreCounted, change_of}
use Rattle.sim_store_state.specs.Log.{changed}
use Rattle.sim_store_state.specs.declared.log.Entry.{Entry}
use Rattle.sim_store_state.proofs.Skips.{changes-none, changes-set}

-- ---- how changes are counted

pub counted-none : (totals : List ℕ) → AreCounted [] totals totals
counted-none totals = record { sized = refl; counted = λ n lt. omega arith }

pub counted-more : {cs ds : List (ℕ × Logic)} {t u w : List ℕ} → AreCounted cs t u → AreCounted ds u w → AreCounted (cs ++ ds) t w
counted-more {cs} {ds} before after = record {
  sized = after.sized ∙ before.sized;
  counted = λ n lt. omega (
    arith,
    before.counted n lt,
    after.counted n (omega (arith, lt, before.sized)),
    ap length (filter-append (is_of n) cs ds),
    length-append (filter (is_of n) cs) (filter (is_of n) ds),
  );
}

-- one more change can be counted
pub countable-more : (totals totals' : List ℕ) (changes : List (ℕ × Logic)) (most : ℕ) → AreCounted changes totals totals' → length changes + 1 ≤ most
    → AreCountable most totals → AreCountable 1 totals'
countable-more totals totals' changes most r few room n = elim (dec_lt n (length totals)) [
  | yes h ↦ omega (arith, r.counted n h, length-filter (is_of n) changes, count_by-le-length (is_of n) changes, few, room n)
  | no h ↦ omega (arith, get_or_past totals' n 0 (omega (arith, h, r.sized)), few, room n)
]

-- ---- the changes of nets, one after another

-- at first no net has an event
pub changes-start : (v : NetValues) → v.before ≡ v.present → changes_from 0 (views_of v.present v.before) ≡ []
changes-start v e = ap (λ ys. changes_from 0 (views_of v.present ys)) e ∙ changes-none 0 v.present

-- then one more net has the value of its sources
pub changes-step : (v v' : NetValues) (n : ℕ) (value : Logic) → v' ≡ record v { present = set v.present n value } → length v.present ≡ length v.before
    → n < length v.present → ((m : ℕ) → n ≤ m → value_at v.present m ≡ value_at v.before m)
    → changes_from 0 (views_of v'.present v'.before) ≡ changes_from 0 (views_of v.present v.before) ++ change_of n value (value_at v.before n)
changes-step v v' n value e l lt same =
    let at : 0 + n ≡ n = omega arith in
    ap (λ (w : NetValues). changes_from 0 (views_of w.present w.before)) e
    ∙ (changes-set 0 n v.present v.before value l lt same
    ∙ ap (λ i. changes_from 0 (views_of v.present v.before) ++ changes_from i (changed_to value (value_at v.before n) ∷ [])) at)

-- and its change is recorded
pub appended-step : (es fs gs : List Entry) (cs ds all : List (ℕ × Logic)) → all ≡ cs ++ ds → fs ≡ es ++ map changed cs → gs ≡ fs ++ map changed ds
    → gs ≡ es ++ map changed all
appended-step es fs gs cs ds all e before after =
    after ∙ (ap (λ xs. xs ++ map changed ds) before ∙ (append_assoc es (map changed cs) (map changed ds)
    ∙ ap (λ xs. es ++ xs) (sym (ap (map changed) e ∙ map-append changed cs ds))))

-- and counted
pub counted-step : {t u w : List ℕ} (cs ds all : List (ℕ × Logic)) → all ≡ cs ++ ds → AreCounted cs t u → AreCounted ds u w → AreCounted all t w
counted-step {t} {u} {w} cs ds all e before after = subst (λ (xs : List (ℕ × Logic)). AreCounted xs t w) (sym e) (counted-more before after)
