-- The due processes that are missing.
use Rattle.std.proofs.Common.{ℕ, ◌<◌, ◌≡◌, ◌≢◌, ◌&&◌, not, Bool, true, false, List, length, refl, sym, ◌∙◌, arith}
use Rattle.std.proofs.Common.{Option, None, Some, MatchOption}
use Rattle.std.proofs.lemmas.List.{get_or-set_other, get_or-set_same}
use Rattle.sim_containers.specs.Numbers.{is_beside}
use Rattle.sim_containers.specs.Words.{IsNext, NoneFrom}
use Rattle.sim_store_state.specs.FlatState.{FlatState}
use Rattle.sim_store_nets.proofs.Walks.{member_within, not_both}
use Rattle.sim_store_simulation.specs.Simulation.{Simulation, IsStateOf, IsComplete, IsLeastMissing, IsMissing, those_in, with_one}
use Rattle.sim_store_simulation.proofs.Going.{complete-where-none}

pub due-beside : (b c : Bool) → (b && not c) ≡ true → b ≡ true
due-beside true c e = refl
due-beside false c e = absurd cc

pub fresh-beside : (b c : Bool) → (b && not c) ≡ true → c ≡ false
fresh-beside true true e = absurd cc
fresh-beside true false e = refl
fresh-beside false c e = absurd cc

module _ {h : Simulation} {time delta : ℕ} {held : FlatState} {due waiting : List Bool}
    (i : IsStateOf h time delta held due waiting) where
  -- a due process is one of the design
  pub due-within : (p : ℕ) → those_in due p ≡ true → p < length h.design.processes
  due-within p e = omega (arith, member_within due p e, i.due_sized)

  -- a missing process is due and has not been executed
  beside : (p : ℕ) → IsMissing h p → is_beside due h.deposited p ≡ true
  beside p m = rw (i.due_are p m.due.number ∙ m.due.resumed, m.fresh) refl

  -- and the other way round
  pub missing-beside : (p : ℕ) → is_beside due h.deposited p ≡ true → IsMissing h p
  missing-beside p e =
      let is_due : those_in due p ≡ true = due-beside (those_in due p) (those_in h.deposited p) e in
      let lt : p < length h.design.processes = due-within p is_due in
      record {
        due = record { number = lt; resumed = sym (i.due_are p lt) ∙ is_due };
        fresh = fresh-beside (those_in due p) (those_in h.deposited p) e;
      }

  -- the first such one is the least missing
  pub least-missing : (o : Option ℕ) → MatchOption o (NoneFrom (is_beside due h.deposited) 0) (IsNext (is_beside due h.deposited) 0)
      → MatchOption o (IsComplete h) (IsLeastMissing h)
  least-missing None none = complete-where-none h (λ p lt m. not_both (is_beside due h.deposited p) (none p (omega arith)) (beside p m))
  least-missing (Some n) next = record {
    missing = missing-beside n next.passes;
    least = λ q before m. not_both (is_beside due h.deposited q) (next.first q (omega arith) before) (beside q m);
  }

-- one more executed process is no longer missing
pub one-gone : (h : Simulation) (n : ℕ) → n < length h.deposited → IsMissing (with_one h n) n → ⊥
one-gone h n lt m = cc (m.fresh, get_or-set_same h.deposited n true false lt)

-- and the others still are
pub others-missing : (h : Simulation) (n p : ℕ) → p ≢ n → IsMissing h p → IsMissing (with_one h n) p
others-missing h n p apart m = record {
  due = record { number = m.due.number; resumed = m.due.resumed };
  fresh = get_or-set_other h.deposited n p true false apart ∙ m.fresh;
}
