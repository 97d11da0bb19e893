-- Architectures are read through lists of references: by recursion on the lists.
use Rattle.std.proofs.Common.{◌≡◌, ℕ, ◌+◌, ◌<◌, List, [], ◌∷◌, ◌++◌, map, length, drop, get_or}
use Rattle.std.proofs.Common.{Bor, refl, ap, ◌∙◌, append_assoc}
use Rattle.sim_text_tree.specs.declared.unit.Architecture.{Architecture}
use Rattle.sim_flat_blocks.specs.declared.parts.Block.{Block}
use Rattle.sim_flat_instances.specs.Libraries.{bodies_at}
use Rattle.sim_flat_instances.proofs.PlaceLoops.{opened}

pub architectures_count : (xs : List (Bor Architecture)) → length xs ≡ length (bodies_at xs)
unfolding bodies_at
architectures_count [] = refl
architectures_count (a ∷ xs) = rw (architectures_count xs) refl

-- one more architecture whose block is made
pub one_more : (f : Architecture → Block) (xs : List (Bor Architecture)) (i : ℕ) (x : Bor Architecture) → i < length xs → x ≡ get_or xs i x
    → (found more all : List Block) (b : Block) → b ≡ f x.now → more ≡ found ++ b ∷ [] → found ++ map f (bodies_at (drop i xs)) ≡ all
    → more ++ map f (bodies_at (drop (i + 1) xs)) ≡ all
unfolding bodies_at
one_more f xs i x below at found more all b is made so_far = rw (made, is)
    (append_assoc found (f x.now ∷ []) (map f (bodies_at (drop (i + 1) xs)))
    ∙ (ap (λ (rest : List (Bor Architecture)). found ++ map f (bodies_at rest)) (opened xs i x below at) ∙ so_far))
