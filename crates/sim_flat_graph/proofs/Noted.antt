-- Lists that are counted one after another.
use Rattle.std.proofs.Common.{◌≡◌, ℕ, ◌+◌, ◌<◌, List, [], ◌∷◌, ◌++◌, Option, Some, length, get_or, drop, refl, ap, sym, ◌∙◌}
use Rattle.std.proofs.lemmas.List.{drop_more}
use Rattle.sim_flat_blocks.specs.declared.parts.BlockProcess.{BlockProcess}
use Rattle.sim_flat_blocks.specs.declared.parts.Instance.{Instance}
use Rattle.sim_flat_blocks.specs.declared.parts.Block.{Block}
use Rattle.sim_flat_blocks.specs.Blocks.{block_of, targets_of}
use Rattle.sim_flat_graph.specs.Least.{lesser, least_of}
use Rattle.sim_flat_graph.specs.Sources.{noted, all_noted, targets_of_ports, targets_of_instances}

pub noted_both : (counts xs ys : List ℕ) → all_noted counts (xs ++ ys) ≡ all_noted (all_noted counts xs) ys
unfolding all_noted
noted_both counts [] ys = refl
noted_both counts (x ∷ xs) ys = noted_both (noted counts x) xs ys

pub least_both : (known : Option ℕ) (xs ys : List ℕ) → least_of known (xs ++ ys) ≡ least_of (least_of known xs) ys
unfolding least_of
least_both known [] ys = refl
least_both known (x ∷ xs) ys = least_both (Some (lesser known x)) xs ys

-- one iteration of a loop over items, each of which has its own list
pub one_more : {X : Type 0} (places : List X → List ℕ) (each : X → List ℕ) → ((x : X) (xs : List X) → places (x ∷ xs) ≡ each x ++ places xs)
    → (xs : List X) (i : ℕ) (x : X) → i < length xs → x ≡ get_or xs i x → (counts more total : List ℕ) → more ≡ all_noted counts (each x)
    → all_noted counts (places (drop i xs)) ≡ total → all_noted more (places (drop (i + 1) xs)) ≡ total
one_more places each opens xs i x below is counts more total step so_far =
    ap (λ (c : List ℕ). all_noted c (places (drop (i + 1) xs))) step
    ∙ (sym (noted_both counts (each x) (places (drop (i + 1) xs)))
    ∙ (ap (all_noted counts) (sym (opens x (drop (i + 1) xs)) ∙ ap places opened) ∙ so_far))
  where
    opened : x ∷ drop (i + 1) xs ≡ drop i xs
    opened = ap (λ y. y ∷ drop (i + 1) xs) is ∙ sym (drop_more xs i x below)

pub targets_open : (t : BlockProcess) (ts : List BlockProcess) → targets_of (t ∷ ts) ≡ t.targets ++ targets_of ts
unfolding targets_of
targets_open t ts = refl

pub instances_open : (blocks : List Block) (i : Instance) (is : List Instance)
    → targets_of_instances blocks (i ∷ is) ≡ targets_of_ports i.links 0 (block_of blocks i).ports ++ targets_of_instances blocks is
unfolding targets_of_instances
instances_open blocks i is = refl
