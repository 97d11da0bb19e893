-- Lists of names, built piece by piece.
use Rattle.std.proofs.Common.{◌≡◌, suc, length, List, [], ◌∷◌, ◌++◌, refl, ap, append_assoc, Bor}
use Rattle.std.proofs.lemmas.List.{append-nil}
use Rattle.sim_text_tree.specs.Name.{Name}
use Rattle.sim_flat_scope.specs.DeclaredNames.{named_by}

pub named_by_more : (ns : List (Bor Name)) (n : Bor Name) → named_by (ns ++ n ∷ []) ≡ named_by ns ++ n.now ∷ []
unfolding named_by
named_by_more [] n = refl
named_by_more (m ∷ ns) n = ap (λ (x : List Name). m.now ∷ x) (named_by_more ns n)

pub length_named : (ns : List (Bor Name)) → length (named_by ns) ≡ length ns
unfolding named_by
length_named [] = refl
length_named (n ∷ ns) = ap suc (length_named ns)

pub ruleset appends = (append_assoc, append-nil)
