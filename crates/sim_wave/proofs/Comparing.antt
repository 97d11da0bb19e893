-- The comparison of two drivers.
use Rattle.std.proofs.Common.{◌≡◌, ◌↔◌, Bool, true, false, ◌&&◌, eqb, List, refl, ap, sym, ◌∙◌, arith, IsTrue, Decides}
use Rattle.std.proofs.lemmas.Bool.Decides.{nat_tests}
use denote.Enum.Bare.{sameb, same_true, true_same}
use Rattle.sim_logic.specs.contracts.logic.Logic.{the_type}
use Rattle.sim_standard.specs.Drivers.{Transaction, DriverState}

both-true : (a b : Bool) → (a && b) ≡ true → (a ≡ true) × (b ≡ true)
both-true true b e = (refl, e)
both-true false b e = absurd cc

from-both : (a b : Bool) → a ≡ true → b ≡ true → (a && b) ≡ true
from-both a b p q = rw (p, q)

-- the test of two transactions
abbrev pub are_same : Transaction → Transaction → Bool
are_same x y = eqb x.0 y.0 && sameb the_type x.1 y.1

pub are_same-Decides : (x y : Transaction) → Decides (are_same x y) (x ≡ y)
are_same-Decides x y = (there, back)
  where
    there : are_same x y ≡ true → x ≡ y
    there e =
        let both = both-true (eqb x.0 y.0) (sameb the_type x.1 y.1) e in
        let first : eqb x.0 y.0 ≡ true = both.0 in
        let times : x.0 ≡ y.0 = grind (arith, nat_tests) in
        let values : x.1 ≡ y.1 = same_true the_type tt x.1 y.1 both.1 in
        λ i. (times i, values i)

    back : x ≡ y → are_same x y ≡ true
    back e =
        let times : x.0 ≡ y.0 = ap (λ (t : Transaction). t.0) e in
        let first : eqb x.0 y.0 ≡ true = grind (arith, nat_tests) in
        from-both (eqb x.0 y.0) (sameb the_type x.1 y.1) first (true_same the_type x.1 y.1 (ap (λ (t : Transaction). t.1) e))

-- drivers of equal value are equal if their transactions are
pub same-pending : (a b : DriverState) (r : Bool) (xs ys : List Transaction) → xs ≡ a.pending → ys ≡ b.pending → a.value ≡ b.value → Decides r (xs ≡ ys)
    → IsTrue r ↔ (a ≡ b)
same-pending a b r xs ys p q values d = (there, back)
  where
    there : IsTrue r → a ≡ b
    there t =
        let pendings : a.pending ≡ b.pending = sym p ∙ (d.0 t ∙ q) in
        λ i. record { value = values i; pending = pendings i }

    back : a ≡ b → IsTrue r
    back e = d.1 (p ∙ (ap (λ (w : DriverState). w.pending) e ∙ sym q))
