-- Each change is of one net, so the changes of all nets are all changes.
use Rattle.std.proofs.Common.{◌≡◌, ◌≢◌, ◌⊎◌, ℕ, zero, suc, ◌+◌, ◌<◌, ◌≤◌, ◌==◌, Bool, true, false, List, [], ◌∷◌}
use Rattle.std.proofs.Common.{ap, arith, cond, drop, inl, inr, length, refl, ◌∙◌}
use Rattle.std.proofs.lemmas.Bool.{ne_eqb}
use Rattle.std.proofs.lemmas.Bool.Decides.{eqb_tells}
use Rattle.std.proofs.lemmas.List.Concat.{length-flat_map}
use Rattle.std.proofs.lemmas.List.Elements.{All-append, All-drop, All-nil, recursion_from_All}
use Rattle.std.proofs.lemmas.List.Sums.{sum_by-cons}
use Rattle.std.specs.List.{All, AllByRecursion, filter, range_with_len, sum_by}
use Rattle.sim_logic.specs.declared.logic.Logic.{Logic}
use Rattle.sim_flat_design.specs.Designs.{Design}
use Rattle.sim_flat_design.specs.Processes.{IsProcess}
use Rattle.sim_standard.specs.declared.record.Record.{Record}
use Rattle.sim_standard.specs.Agreement.{is_of, total_of}
use Rattle.sim_standard.specs.Records.{IsNamed, all_changes, event_count, records_to}
use Rattle.sim_standard.proofs.Records.{all_named}

-- 1 for one net, 0 for each other
abbrev marked : ℕ → ℕ → ℕ
marked net k = cond (net == k) 1 0

other_unmarked : (net k : ℕ) → net ≢ k → marked net k ≡ 0
other_unmarked net k other = ap (λ (b : Bool). cond b 1 0) (ne_eqb net k other)

-- a net before a range is not in it
none_marked : (net a n : ℕ) → net < a → sum_by (marked net) (range_with_len a n) ≡ 0
none_marked net a zero below = refl
none_marked net a (suc n) below =
    let here = other_unmarked net a (λ e. omega (arith, e, below)) in
    let later = none_marked net (a + 1) n (omega (arith, below)) in
    omega (arith, sum_by-cons (marked net) a (range_with_len (a + 1) n), here, later)

-- a net of a range is in it once
one_marked : (net a n : ℕ) → a ≤ net → net < a + n → sum_by (marked net) (range_with_len a n) ≡ 1
one_marked net a zero from to = absurd (omega (arith, from, to))
one_marked net a (suc n) from to = go (eqb_tells net a) (λ other. one_marked net (a + 1) n (omega (arith, from, other)) (omega (arith, to)))
  where
    go : ((net == a ≡ true) × (net ≡ a)) ⊎ ((net == a ≡ false) × (net ≢ a)) → (net ≢ a → sum_by (marked net) (range_with_len (a + 1) n) ≡ 1)
        → sum_by (marked net) (range_with_len a (suc n)) ≡ 1
    go (inl h) later =
        let here : marked net a ≡ 1 = ap (λ (b : Bool). cond b 1 0) h.0 in
        let none = none_marked net (a + 1) n (omega (arith, h.1)) in
        omega (arith, sum_by-cons (marked net) a (range_with_len (a + 1) n), here, none)
    go (inr h) later =
        let here = other_unmarked net a h.1 in
        let one = later h.1 in
        omega (arith, sum_by-cons (marked net) a (range_with_len (a + 1) n), here, one)

-- how many changes are of a net
abbrev counted : List (ℕ × Logic) → ℕ → ℕ
counted changes k = length (filter (is_of k) changes)

counted_more : (change : ℕ × Logic) (changes : List (ℕ × Logic)) (k : ℕ) → counted (change ∷ changes) k ≡ marked change.0 k + counted changes k
counted_more change changes k = go (change.0 == k)
  where
    go : (b : Bool) → length (cond b (change ∷ filter (is_of k) changes) (filter (is_of k) changes)) ≡ cond b 1 0 + counted changes k
    go true = omega arith
    go false = omega arith

one_more : (change : ℕ × Logic) (changes : List (ℕ × Logic)) (ns : List ℕ)
    → sum_by (counted (change ∷ changes)) ns ≡ sum_by (marked change.0) ns + sum_by (counted changes) ns
one_more change changes [] = refl
one_more change changes (k ∷ ns) =
    omega (
      arith,
      sum_by-cons (counted (change ∷ changes)) k ns,
      sum_by-cons (marked change.0) k ns,
      sum_by-cons (counted changes) k ns,
      counted_more change changes k,
      one_more change changes ns,
    )

none_counted : (ns : List ℕ) → sum_by (counted []) ns ≡ 0
none_counted [] = refl
none_counted (k ∷ ns) = none_counted ns

-- the changes of all nets are all changes
all_counted : (nets : ℕ) (changes : List (ℕ × Logic)) → AllByRecursion (λ c. c.0 < nets) changes
    → sum_by (counted changes) (range_with_len 0 nets) ≡ length changes
all_counted nets [] below = none_counted (range_with_len 0 nets)
all_counted nets (change ∷ changes) below =
    let one = one_marked change.0 0 nets (omega arith) (omega (arith, below.0)) in
    omega (arith, one_more change changes (range_with_len 0 nets), one, all_counted nets changes below.1)

named_changes : (nets : ℕ) (rs : List Record) → AllByRecursion (IsNamed nets) rs → All (λ c. c.0 < nets) (all_changes rs)
named_changes nets [] named = All-nil (λ c. c.0 < nets)
named_changes nets (r ∷ rs) named = All-append (λ c. c.0 < nets) r.changes (all_changes rs) named.0 (named_changes nets rs named.1)

-- the totals of all nets are the events
pub totals_of_all : (design : Design) → All IsProcess design.processes → (cycles : ℕ)
    → sum_by (total_of (records_to design cycles)) (range_with_len 0 (length design.nets)) ≡ event_count (records_to design cycles)
totals_of_all design are cycles =
    let nets = length design.nets in
    let rs = drop 1 (records_to design cycles) in
    let named : All (IsNamed nets) rs = All-drop (IsNamed nets) 1 (records_to design cycles) (all_named design are cycles) in
    let below = named_changes nets rs (recursion_from_All (IsNamed nets) rs named) in
    all_counted nets (all_changes rs) (recursion_from_All (λ c. c.0 < nets) (all_changes rs) below)
    ∙ length-flat_map (λ (r : Record). r.changes) rs
