-- Orders of a phase, and the answers to them.
use Rattle.std.proofs.Common.{ℕ, suc, ◌+◌, ◌<◌, ◌≤◌, ◌≡◌, ◌++◌, List, [], ◌∷◌, length, drop, take, get_or, refl, ap, sym, ◌∙◌, subst, arith, append_assoc, sum}
use Rattle.std.proofs.Math.Decide.{dec_lt}
use Rattle.std.proofs.Math.Seq.{take-suc}
use Rattle.std.proofs.lemmas.List.{drop_all, drop_more, length-append, map-append}
use Rattle.std.proofs.lemmas.List.Sums.{sum_by-cons}
use Rattle.sim_standard.specs.State.{Owned}
use Rattle.sim_containers.specs.RowArray.{joined}
use Rattle.sim_store_state.specs.FlatState.{counts}
use Rattle.sim_store_simulation.specs.declared.phase.Phase.{Phase}
use Rattle.sim_store_simulation.specs.Simulation.{Simulation}
use Rattle.sim_store.specs.Handing.{IsRange, Range, AreInOrder, AreParts, lengths}

-- ---- handed out from the last one on

counts-more : (ss : List (List Owned)) (s : List Owned) → counts (ss ++ s ∷ []) ≡ counts ss ++ length s ∷ []
counts-more ss s = map-append (λ (xs : List Owned). length xs) ss (s ∷ [])

-- one more
pub more-handed : (ss : List (List Owned)) (s : List Owned) (o : Range) (os : List Range) (ns : List ℕ) → length o.owned ≡ length s
    → counts (ss ++ s ∷ []) ++ lengths os ≡ ns → counts ss ++ lengths (o ∷ os) ≡ ns
more-handed ss s o os ns l e =
    ap (λ n. counts ss ++ n ∷ lengths os) l
    ∙ (sym (append_assoc (counts ss) (length s ∷ []) (lengths os)) ∙ (ap (λ w. w ++ lengths os) (sym (counts-more ss s)) ∙ e))

-- none is left
pub all-handed : {cycles : ℕ} {phase : Phase} (ss : List (List Owned)) (from : ℕ) (os : List Range) (ns : List ℕ) → length ss ≡ 0
    → from ≡ length (joined ss) → counts ss ++ lengths os ≡ ns → AreInOrder cycles phase from os → AreParts cycles phase ns os
all-handed {cycles} {phase} [] from os ns l ef e w = record { counts_are = e; in_order = subst (λ n. AreInOrder cycles phase n os) ef w }
all-handed (s ∷ ss) from os ns l ef e w = absurd (omega (arith, l))

-- ---- taken back from the first one on

-- no processes own nothing
pub range-none : {h : Simulation} {all : List Owned} (owned : List Owned) → owned ≡ [] → IsRange h all 0 owned
range-none owned e = record {
  within = omega (arith, ap length e);
  owned_are = λ i lt. absurd (omega (arith, lt, ap length e));
  ready = λ i lt. absurd (omega (arith, lt, ap length e));
}

-- These are left after so many parts have been taken, whose processes are those below a number.
pub record AreLeft (cycles : ℕ) (phase : Phase) (parts : List ℕ) (count from : ℕ) (rs : List Range) : Type 0 where
  pub counts_are : lengths rs ≡ drop count parts
  pub in_order : AreInOrder cycles phase from rs

-- The next one is for the next part.
pub record IsFirst (cycles : ℕ) (phase : Phase) (parts : List ℕ) (count from : ℕ) (r : Range) (rs : List Range) : Type 0 where
  pub within : count < length parts
  pub cycles_are : r.cycles ≡ cycles
  pub phase_is : r.phase ≡ phase
  pub from_is : r.from ≡ from
  pub count_is : length r.owned ≡ get_or parts count 0
  pub others : AreLeft cycles phase parts (count + 1) (from + get_or parts count 0) rs

module _ {cycles : ℕ} {phase : Phase} {parts : List ℕ} {count from : ℕ} where
  pub first-left : (r : Range) (rs all : List Range) → all ≡ r ∷ rs → AreLeft cycles phase parts count from all
      → IsFirst cycles phase parts count from r rs
  first-left r rs all e w = elim (dec_lt count (length parts)) [
    | yes lt ↦
        let here : lengths (r ∷ rs) ≡ drop count parts = ap lengths (sym e) ∙ w.counts_are in
        let both : lengths (r ∷ rs) ≡ get_or parts count 0 ∷ drop (count + 1) parts = here ∙ drop_more parts count 0 lt in
        let order : AreInOrder cycles phase from (r ∷ rs) = subst (AreInOrder cycles phase from) e w.in_order in
        let own : length r.owned ≡ get_or parts count 0 = ap (λ ns. get_or ns 0 0) both in
        record {
          within = lt;
          cycles_are = order.0;
          phase_is = order.1;
          from_is = order.2;
          count_is = own;
          others = record {
            counts_are = ap (λ ns. drop 1 ns) both;
            in_order = subst (λ n. AreInOrder cycles phase (from + n) rs) own order.3;
          };
        }
    | no ge ↦
        let here : lengths (r ∷ rs) ≡ [] = ap lengths (sym e) ∙ (w.counts_are ∙ drop_all count parts (omega (arith, ge))) in
        absurd (omega (arith, ap length here))
  ]

-- if none is left, all parts have been taken
pub none-left : {cycles : ℕ} {phase : Phase} (parts : List ℕ) (count from : ℕ) (rs : List Range) → length rs ≡ 0
    → AreLeft cycles phase parts count from rs → length parts ≤ count
none-left parts count from [] none w = elim (dec_lt count (length parts)) [
  | yes lt ↦ absurd (omega (arith, ap length (w.counts_are ∙ drop_more parts count 0 lt)))
  | no ge ↦ omega (arith, ge)
]
none-left parts count from (r ∷ rs) none w = absurd (omega (arith, none))

-- the shares of the parts before one, and of that one
pub taken-more : (ss : List (List Owned)) (s : List Owned) (parts : List ℕ) → length ss < length parts → length s ≡ get_or parts (length ss) 0
    → counts ss ≡ take (length ss) parts → counts (ss ++ s ∷ []) ≡ take (length (ss ++ s ∷ [])) parts
taken-more ss s parts lt l e =
    let more : length (ss ++ s ∷ []) ≡ suc (length ss) = omega (arith, length-append ss (s ∷ [])) in
    counts-more ss s
    ∙ (ap (λ w. w ++ length s ∷ []) e
    ∙ (ap (λ n. take (length ss) parts ++ n ∷ []) l ∙ (sym (take-suc parts (length ss) 0 lt) ∙ ap (λ n. take n parts) (sym more))))

-- how many there are in all
pub sum-counts : {A : Type 0} (xss : List (List A)) → sum (counts xss) ≡ length (joined xss)
sum-counts [] = refl
sum-counts (xs ∷ xss) =
    let first : sum (counts (xs ∷ xss)) ≡ length xs + sum (counts xss) = sum_by-cons (λ n. n) (length xs) (counts xss) in
    let all : length (joined (xs ∷ xss)) ≡ length xs + length (joined xss) = length-append xs (joined xss) in
    omega (arith, first, all, sum-counts xss)
