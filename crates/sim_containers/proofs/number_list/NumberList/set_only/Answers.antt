use Rattle.std.proofs.Common.{◌∙◌, ◌≡◌, ◌≤◌, ◌++◌, ap, arith, length, subst, sym, vec_capacity, List, [], ◌∷◌, ℕ}
use Rattle.sim_containers.specs.Numbers.{is_in, set_with, IsListOf}
use Rattle.sim_containers.proofs.Lists.{one_in, one_not_in, rising_list, sized}
use Rattle.sim_containers.proofs.number_list.NumberList.set_only.Goals as goal

pub invariant_of-self : goal.invariant_of-self
invariant_of-self c =
    let items : c.push_reserved.new.self.items ≡ c.args.number ∷ [] = c.push_reserved.ensures.items
    ∙ ap (λ (xs : List ℕ). xs ++ c.args.number ∷ []) c.clear.ensures.items in
    let room : c.self.inside.bound ≤ vec_capacity c.push_reserved.new.self = omega (
      arith,
      c.push_reserved.ensures.capacity,
      c.clear.ensures.capacity,
      c.self.invariant.room,
    ) in
    subst (λ (xs : List ℕ). IsListOf xs (vec_capacity c.push_reserved.new.self) c.self.inside.bound) (sym items)
    (rising_list (c.args.number ∷ []) (vec_capacity c.push_reserved.new.self) c.self.inside.bound
    (omega arith, omega (arith, c.if-number-self.true), tt) room)

pub invariant_of-self-else-number-self : goal.invariant_of-self-else-number-self
invariant_of-self-else-number-self c =
    let room : c.self.inside.bound ≤ vec_capacity c.clear.new.self = omega (arith, c.clear.ensures.capacity, c.self.invariant.room) in
    subst (λ (xs : List ℕ). IsListOf xs (vec_capacity c.clear.new.self) c.self.inside.bound) (sym c.clear.ensures.items)
    (rising_list [] (vec_capacity c.clear.new.self) c.self.inside.bound tt room)

pub returns-then-number-self-clause-sized : goal.returns-then-number-self-clause-sized
returns-then-number-self-clause-sized c = sized c.push_reserved.new.self.items c.self.inside.bound
    ∙ (sym (sized c.self.inside.numbers.items c.self.inside.bound) ∙ ap length c.self.view_is)

pub returns-then-number-self-clause-only : goal.returns-then-number-self-clause-only
returns-then-number-self-clause-only c n lt =
    let len : c.self.inside.bound ≡ length c.args.self.now = sym (sized c.self.inside.numbers.items c.self.inside.bound) ∙ ap length c.self.view_is in
    ap (λ (xs : List ℕ). is_in (set_with xs c.self.inside.bound) n)
    (c.push_reserved.ensures.items ∙ ap (λ (xs : List ℕ). xs ++ c.args.number ∷ []) c.clear.ensures.items)
    ∙ one_in c.args.number c.self.inside.bound n (omega (arith, lt, len))

pub returns-else-number-self-clause-sized : goal.returns-else-number-self-clause-sized
returns-else-number-self-clause-sized c = sized c.clear.new.self.items c.self.inside.bound
    ∙ (sym (sized c.self.inside.numbers.items c.self.inside.bound) ∙ ap length c.self.view_is)

pub returns-else-number-self-clause-only : goal.returns-else-number-self-clause-only
returns-else-number-self-clause-only c n lt =
    let len : c.self.inside.bound ≡ length c.args.self.now = sym (sized c.self.inside.numbers.items c.self.inside.bound) ∙ ap length c.self.view_is in
    ap (λ (xs : List ℕ). is_in (set_with xs c.self.inside.bound) n) c.clear.ensures.items
    ∙ one_not_in c.args.number c.self.inside.bound n (omega (arith, c.if-number-self.false)) (omega (arith, lt, len))
