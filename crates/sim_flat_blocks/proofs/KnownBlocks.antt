-- Each block of a plan is consistent with the list: its processes fit blocks of its size, its instances are in range.
use Rattle.std.proofs.Common.{◌≡◌, ℕ, List, [], ◌∷◌, ◌++◌, All, sym, subst}
use Rattle.std.proofs.lemmas.List.Elements.{All-nil, All-push}
use Rattle.sim_text_tree.specs.declared.declaration.Declaration.{Declaration}
use Rattle.sim_text_tree.specs.declared.declaration.PortDeclaration.{PortDeclaration}
use Rattle.sim_text_tree.specs.declared.unit.Concurrent.{Concurrent}
use Rattle.sim_flat_scope.specs.Scopes.{Region}
use Rattle.sim_flat_instances.specs.Libraries.{Library}
use Rattle.sim_flat_blocks.specs.Below.{AreBelow, object_count}
use Rattle.sim_flat_blocks.specs.BlockProcesses.{FitsBlocks}
use Rattle.sim_flat_blocks.specs.declared.parts.Block.{Block}
use Rattle.sim_flat_blocks.specs.declared.parts.Instance.{Instance}
use Rattle.sim_flat_blocks.specs.Blocks.{IsBlock, IsInstance, IsBlockProcess, no_block, size}
use Rattle.sim_flat_blocks.specs.Plans.{block_ports, blocks_of, instances_of, seen, signals_of}
use Rattle.sim_flat_blocks.proofs.KnownInstances.{instances_known}
use Rattle.sim_flat_blocks.proofs.Sizes.{size_is}

module _ (l : Library) (region : Region) (declared : List PortDeclaration) (ds : List Declaration) (cs : List Concurrent) (objects : ℕ) (b : Block)
    (counted : objects ≡ object_count declared ds) (ports : b.ports ≡ block_ports declared)
    (signals : b.signals ≡ signals_of (seen region) ds) (instances : b.instances ≡ instances_of l (seen region) cs) where
  size_counted : size b ≡ objects
  size_counted = rw (ports, signals, counted) (size_is (seen region) declared ds)

  pub block_known : AreBelow objects region → All (FitsBlocks objects) b.processes → IsBlock (blocks_of l) b
  block_known below fits = record {
    processes = λ k d lt. fits k d lt b size_counted;
    instances = subst (λ (is : List Instance). All (IsInstance (blocks_of l) b) is) (sym instances)
        (instances_known l region b (subst (λ (n : ℕ). AreBelow n region) (sym size_counted) below) cs);
  }

pub blocks_known : (l : Library) (found blocks : List Block) → All (IsBlock (blocks_of l)) found → blocks ≡ found ++ no_block ∷ []
    → blocks ≡ blocks_of l → All (IsBlock blocks) blocks
blocks_known l found blocks known made is =
    let empty : IsBlock (blocks_of l) no_block =
    record { processes = All-nil (IsBlockProcess no_block); instances = All-nil (IsInstance (blocks_of l) no_block) } in
    subst (λ (bs : List Block). All (IsBlock bs) blocks) (sym is)
    (subst (λ (bs : List Block). All (IsBlock (blocks_of l)) bs) (sym made) (All-push (IsBlock (blocks_of l)) found no_block known empty))
