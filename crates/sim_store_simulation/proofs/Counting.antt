-- The totals and the values of a simulation are those of its records.
use Rattle.std.proofs.Common.{ℕ, ◌+◌, ◌<◌, ◌≤◌, ◌≡◌, nat_lt, Bool, true, false, List, [], ◌∷◌, ◌++◌, Option, None, Some, MatchOption, IfSome}
use Rattle.std.proofs.Common.{length, get_or, replicate, refl, ap, sym, ◌∙◌, subst, arith}
use Rattle.std.specs.List.{filter}
use Rattle.std.proofs.lemmas.Bool.Decides.{nat_tests}
use Rattle.std.proofs.lemmas.List.{get_or-replicate, get_or_past, length-replicate}
use Rattle.sim_logic.specs.declared.logic.Logic.{Logic}
use Rattle.sim_standard.specs.declared.net_view.NetView.{NetView}
use Rattle.sim_standard.specs.State.{net_at}
use Rattle.sim_standard.specs.declared.record.Record.{Record}
use Rattle.sim_store_state.specs.FlatState.{FlatState}
use Rattle.sim_store_state.specs.Counting.{AreCounted}
use Rattle.sim_standard.specs.Records.{records_to}
use Rattle.sim_standard.specs.Agreement.{is_of, total_of, value_by}
use Rattle.sim_store_simulation.specs.Simulation.{AreTotals, IsStateOf, Simulation, updated_last}
use Rattle.sim_standard.proofs.Agreement.{records-give-values, total-few, total-more}
use Rattle.sim_store_simulation.proofs.Going.{net-count}

-- a number in the list, to which a test applies, or else the value beyond its end
get_or-all : (P : ℕ → Type 0) (xs : List ℕ) (n : ℕ) → P 0 → (n < length xs → P (get_or xs n 0)) → P (get_or xs n 0)
get_or-all P xs n out within = go (nat_lt n (length xs)) refl
  where
    go : (b : Bool) → nat_lt n (length xs) ≡ b → P (get_or xs n 0)
    go true e = within (grind (arith, nat_tests))
    go false e = subst P (sym (get_or_past xs n 0 (grind (arith, nat_tests)))) out

-- ---- the start

-- at first no net had an event
pub totals-begin : (nets : ℕ) (first : Record) (records : List Record) (totals : List ℕ) → records ≡ first ∷ [] → totals ≡ replicate nets 0
    → AreTotals nets records totals
totals-begin nets first records totals er et = rw (er, et) (record {
  sized = length-replicate nets 0;
  counted = λ n lt. get_or-replicate nets n 0 0 lt;
})

-- ---- one more cycle

-- the totals, with each change of the new record counted
pub totals-go-on : (nets : ℕ) (records now : List Record) (one : Record) (totals totals' : List ℕ) → 0 < length records → now ≡ records ++ one ∷ []
    → AreTotals nets records totals → AreCounted one.changes totals totals' → AreTotals nets now totals'
totals-go-on nets records now one totals totals' begun e t c = record {
  sized = c.sized ∙ t.sized;
  counted = λ n lt.
      c.counted n (omega (arith, lt, t.sized)) ∙ (ap (λ m. m + length (filter (is_of n) one.changes)) (t.counted n lt)
      ∙ (sym (total-more records one n begun) ∙ ap (λ rs. total_of rs n) (sym e)));
}

-- a net had no more events than there were cycles
pub totals-few : {h : Simulation} {time delta : ℕ} {held : FlatState} {due waiting : List Bool}
    (i : IsStateOf h time delta held due waiting)
    (totals : List ℕ) → AreTotals (length h.design.nets) (records_to h.design h.cycles) totals → (n : ℕ) → get_or totals n 0 ≤ h.cycles
totals-few {h} i totals t n =
    get_or-all (λ m. m ≤ h.cycles) totals n (omega arith)
    (λ lt. let there : n < length h.design.nets = omega (arith, lt, t.sized) in
    let few = total-few h.design i.processes h.cycles n (updated_last h) i.there there in
    omega (arith, t.counted n there, few))

-- ---- values

-- the value that a net has is that of its last change in the records
pub known-value : {h : Simulation} {time delta : ℕ} {held : FlatState} {due waiting : List Bool}
    (i : IsStateOf h time delta held due waiting)
    (n : ℕ) (o : Option Logic) → MatchOption o (length held.nets ≤ n) (λ v. (n < length held.nets) × (v ≡ (net_at held.nets n).value))
    → IfSome o (λ v. value_by (records_to h.design h.cycles) n ≡ Some v)
known-value i n None m = tt
known-value {h} {held = held} i n (Some v) m =
    records-give-values h.design i.processes h.cycles n (updated_last h) i.there (omega (arith, m.0, net-count i))
    ∙ ap Some (sym (m.1 ∙ ap (λ (ns : List NetView). (net_at ns n).value) i.nets_are))
