-- Laws of tables. Each law is one computed test over a whole table.
use Rattle.std.proofs.Common.{◌≡◌, Bool, true, false, ◌&&◌, refl}
use Rattle.sim_logic.specs.declared.logic.Logic.{Logic}
use Rattle.sim_logic.specs.declared.logic.Logic.TheVariants.{U, X, Zero, One, Z, W, L, H, Dash}
use Rattle.sim_logic.specs.Logic.{is_same}
use Rattle.sim_logic.specs.Tables.{resolution_table}
use Rattle.sim_logic.proofs.SameValues.{same_from_is_same}

-- whether a test holds of each value
abbrev pub holds_of_all : (Logic → Bool) → Bool
holds_of_all p = p U && (p X && (p Zero && (p One && (p Z && (p W && (p L && (p H && p Dash)))))))

and-left : (a b : Bool) → (a && b) ≡ true → a ≡ true
and-left true b e = refl
and-left false b e = e

and-right : (a b : Bool) → (a && b) ≡ true → b ≡ true
and-right true b e = e
and-right false b e = absurd cc

holds_of_all-at : (p : Logic → Bool) → holds_of_all p ≡ true → (v : Logic) → p v ≡ true
holds_of_all-at p all U = and-left (p U) _ all
holds_of_all-at p all X = and-left (p X) _ (and-right (p U) _ all)
holds_of_all-at p all Zero = and-left (p Zero) _ (and-right (p X) _ (and-right (p U) _ all))
holds_of_all-at p all One = and-left (p One) _ (and-right (p Zero) _ (and-right (p X) _ (and-right (p U) _ all)))
holds_of_all-at p all Z =
    and-left (p Z) _ (and-right (p One) _ (and-right (p Zero) _ (and-right (p X) _ (and-right (p U) _ all))))
holds_of_all-at p all W =
    and-left (p W) _ (and-right (p Z) _ (and-right (p One) _ (and-right (p Zero) _ (and-right (p X) _ (and-right (p U) _ all)))))
holds_of_all-at p all L =
    and-left (p L) _ (and-right (p W) _ (and-right (p Z) _ (and-right (p One) _ (and-right (p Zero) _ (and-right (p X) _ (and-right (p U) _ all))))))
holds_of_all-at p all H =
    and-left (p H) _ (and-right (p L) _
    (and-right (p W) _ (and-right (p Z) _ (and-right (p One) _ (and-right (p Zero) _ (and-right (p X) _ (and-right (p U) _ all)))))))
holds_of_all-at p all Dash =
    and-right (p H) _ (and-right (p L) _
    (and-right (p W) _ (and-right (p Z) _ (and-right (p One) _ (and-right (p Zero) _ (and-right (p X) _ (and-right (p U) _ all)))))))

-- Two tables with the same entries give the same.
pub same_tables : (f g : Logic → Logic → Logic) → holds_of_all (λ x. holds_of_all (λ y. is_same (f x y) (g x y))) ≡ true → (a b : Logic) → f a b ≡ g a b
same_tables f g all a b =
    let at_a = holds_of_all-at (λ x. holds_of_all (λ y. is_same (f x y) (g x y))) all a in
    same_from_is_same _ _ (holds_of_all-at (λ y. is_same (f a y) (g a y)) at_a b)

abbrev is_associative_at : Logic → Logic → Logic → Bool
is_associative_at a b c =
    is_same (resolution_table (resolution_table a b) c) (resolution_table a (resolution_table b c))

pub resolution_table-assoc : (a b c : Logic) → resolution_table (resolution_table a b) c ≡ resolution_table a (resolution_table b c)
resolution_table-assoc a b c =
    let all : holds_of_all (λ x. holds_of_all (λ y. holds_of_all (λ z. is_associative_at x y z))) ≡ true = refl in
    let at_a = holds_of_all-at (λ x. holds_of_all (λ y. holds_of_all (λ z. is_associative_at x y z))) all a in
    let at_b = holds_of_all-at (λ y. holds_of_all (λ z. is_associative_at a y z)) at_a b in
    same_from_is_same _ _ (holds_of_all-at (λ z. is_associative_at a b z) at_b c)

pub resolution_table-comm : (a b : Logic) → resolution_table a b ≡ resolution_table b a
resolution_table-comm = same_tables resolution_table (λ x y. resolution_table y x) refl

-- a 'Z' between two values changes nothing
pub resolution_table-passes_z : (a b : Logic) → resolution_table a (resolution_table Z b) ≡ resolution_table a b
resolution_table-passes_z = same_tables (λ x y. resolution_table x (resolution_table Z y)) resolution_table refl
