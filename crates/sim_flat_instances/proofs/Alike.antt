-- Lists of ports of different lengths are not alike.
use Rattle.std.proofs.Common.{◌≡◌, ◌&&◌, suc, List, [], ◌∷◌, length, Bool, true, false, refl, ap}
use Rattle.sim_flat_scope.specs.Ports.{Port}
use Rattle.sim_flat_instances.specs.Interfaces.{is_like, are_alike}

second_true : (a b : Bool) → (a && b) ≡ true → b ≡ true
second_true true b h = h
second_true false b h = cc

as_many : (ps qs : List Port) → are_alike ps qs ≡ true → length ps ≡ length qs
unfolding are_alike
as_many [] [] h = refl
as_many [] (q ∷ qs) h = cc
as_many (p ∷ ps) [] h = cc
as_many (p ∷ ps) (q ∷ qs) h = ap suc (as_many ps qs (second_true (is_like p q) (are_alike ps qs) h))

decided : (b : Bool) → (b ≡ true → ⊥) → false ≡ b
decided true h = absurd (h refl)
decided false h = refl

pub other_counts : (ps qs : List Port) → (length ps ≡ length qs → ⊥) → false ≡ are_alike ps qs
other_counts ps qs h = decided (are_alike ps qs) (λ t. h (as_many ps qs t))
