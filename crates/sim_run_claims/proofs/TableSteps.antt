-- Each step keeps the rule of the table.
use Rattle.std.proofs.Common.{◌≡◌, ℕ, ◌+◌, ◌%◌, ◌^◌, ◌<◌, ◌≤◌, List, [], ◌∷◌, length, min, sym, refl, ap, ◌∙◌, subst, arith}
use Rattle.std.proofs.Common.{slice_index, slice_set, lt_of_not-le}
use mathlib.Core.Logic.{dite}
use native.Mathlib.Decide.{dec_le}
use mathlib.Core.Option.{some, none, some-injective}
use lib.ListN.{get_elem?}
use Rattle.atomic_table.specs.Table.{Me, step, Allows, Splits, Joins, Final, Seen, keeps}
use Rattle.atomic_table.proofs.Lists.{set_again}
use Rattle.sim_run_claims.specs.declared.view.SeatView.{SeatView}
use Rattle.sim_run_claims.specs.Lawful.{IsLawful, AreThoseBelow, one_if_below}
use Rattle.sim_run_claims.specs.Rule.{Holds, Drew, Looked}
use Rattle.sim_run_claims.specs.Views.{with_number, overdrawn, kept_half, handed_half, joined, spent_view}
use Rattle.sim_run_claims.proofs.StaysLawful.{number_stays_lawful, overdraw_stays_lawful, split_stays_lawful, join_stays_lawful}
use Rattle.sim_run_claims.proofs.StaysLawful.{allowance_le, whole, whole_length, all_were}

counted_up : (ws : List ℕ) (k : ℕ) → ws ≡ k ∷ [] → k < 2 ^ 63 → slice_set ws 0 ((slice_index ws 0 + 1) % 2 ^ 64) ≡ (k + 1) ∷ []
counted_up ws k e h = let stays : (k + 1) % 2 ^ 64 ≡ k + 1 = omega arith in rw e (ap (λ (m : ℕ). m ∷ []) stays)

small : (n word : ℕ) (views : List SeatView) → IsLawful n word views → n ≤ 1000000 → word < 2 ^ 63
small n word views l few = omega (arith, l.counted, l.allowed, l.within)

pub draws : (n slots id : ℕ) (me : Me ℕ SeatView) → 0 < me.0.allowance → me.0.limit ≡ n
    → Allows (Holds n) slots id me 0 (λ k. (k + 1) % 2 ^ 64) (Drew (step slots 0 1 0 none) me)
draws n slots id me may lim s h len at fits =
    let up = counted_up s.words h.word h.words (small n h.word s.views h.lawful h.few) in
    let found : slice_index s.words 0 ≡ h.word = rw h.words refl in
    dite (dec_le n h.word)
    (λ le. (
      overdrawn me.0,
      keeps,
      tt,
      record { word = h.word + 1; words = up; few = h.few; lawful = overdraw_stays_lawful n h.word s.views h.lawful id me.0 at may le },
      (refl, λ lt. absurd (omega arith), λ _. refl),
    ))
    (λ no. let lt : h.word < n = lt_of_not-le no in (
      with_number me.0 h.word,
      keeps,
      tt,
      record { word = h.word + 1; words = up; few = h.few; lawful = number_stays_lawful n h.word s.views h.lawful id me.0 at may lt },
      (refl, (λ _. ap (with_number me.0) (sym found)), λ le. absurd (omega arith)),
    ))

pub looks : (n slots id : ℕ) (me : Me ℕ SeatView) → Allows (Holds n) slots id me 0 (λ k. k) (Looked (step slots 0 0 0 none) me)
looks n slots id me s h len at fits =
    let same : slice_set s.words 0 (slice_index s.words 0) ≡ h.word ∷ [] = rw h.words refl in (
      me.0,
      keeps,
      tt,
      record { word = h.word; words = same; few = h.few; lawful = subst (IsLawful n h.word) (sym (set_again s.views id me.0 at)) h.lawful },
      (refl, allowance_le n h.word s.views h.lawful id me.0 at),
    )

pub splits : (n id : ℕ) (v : SeatView) → Splits (Holds n) id v (kept_half v) (handed_half v)
splits n id v s h at = record { word = h.word; words = h.words; few = h.few; lawful = split_stays_lawful n h.word s.views h.lawful id v at }

pub joins : (n id : ℕ) (v : SeatView) (other : ℕ) (w : SeatView) → Joins (Holds n) id v other w (joined v w) spent_view
joins n id v other w s h at apart there = record {
  word = h.word;
  words = h.words;
  few = h.few;
  lawful = join_stays_lawful n h.word s.views h.lawful id other v w at apart there;
}

-- What `close` reads: if a seat has the whole allowance, used or not, the word says what it drew.
module _ (n id : ℕ) (v : SeatView) (ws xs : List ℕ) (word : ℕ) (final : Final (Seen (Holds n) id v) ws xs) (read : get_elem? ws 0 ≡ some word) where
  word_is : final.1.0.word ≡ word
  word_is = some-injective final.1.0.word word (subst (λ (l : List ℕ). get_elem? l 0 ≡ some word) (sym final.2 ∙ final.1.0.words) read)

  pub last_each_once : v.allowance + v.overdraws ≡ 64 → AreThoseBelow (min word n) v.drawn
  last_each_once full x =
      whole n final.1.0.word final.0.views final.1.0.lawful id v final.1.1 full x ∙ ap (λ (k : ℕ). one_if_below x (min k n)) word_is

  pub last_all : v.allowance + v.overdraws ≡ 64 → min word n ≡ length v.drawn
  last_all full = ap (λ (k : ℕ). min k n) (sym word_is) ∙ whole_length n final.1.0.word final.0.views final.1.0.lawful id v final.1.1 full

  pub last_overdrawn : 0 < v.overdraws → min word n ≡ n
  last_overdrawn has = ap (λ (k : ℕ). min k n) (sym word_is) ∙ all_were n final.1.0.word final.0.views final.1.0.lawful id v final.1.1 has
