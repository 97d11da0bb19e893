-- A process made from a block process is a process of a flat design.
use Rattle.std.proofs.Common.{◌≡◌, ℕ, ◌<◌, Bool, List, length, get_or, All, ap, sym, ◌∙◌, subst}
use Rattle.sim_flat_design.specs.Bodies.{Body, objects_of}
use Rattle.sim_flat_design.specs.Processes.{IsProcess, rising, nets_of}
use Rattle.sim_flat_blocks.specs.declared.parts.Block.{Block}
use Rattle.sim_flat_blocks.specs.Blocks.{IsBlock}
use Rattle.sim_flat_blocks.proofs.Rises.{sensitivity_rises, reads_rise}

pub is_process : (s x r us vs object_nets h reads : List ℕ) (b body : Body) (first : ℕ) (postponed : Bool)
    → s ≡ rising x → r ≡ rising (nets_of us vs) → us ≡ object_nets → vs ≡ reads → h ≡ object_nets → b ≡ body
    → length object_nets ≡ body.objects → reads ≡ rising (objects_of body.statements)
    → IsProcess (record { sensitivity = s; reads = r; nets = h; first_driver = first; postponed = postponed; body = b })
is_process s x r us vs object_nets h reads b body first postponed e d eu ev eh eb placed names =
    let there : length h ≡ b.objects = ap (λ (xs : List ℕ). length xs) eh ∙ (placed ∙ ap (λ (y : Body). y.objects) (sym eb)) in
    let one : r ≡ rising (nets_of object_nets reads) =
    d ∙ (ap (λ (xs : List ℕ). rising (nets_of xs vs)) eu ∙ ap (λ (xs : List ℕ). rising (nets_of object_nets xs)) ev) in
    let two : rising (nets_of object_nets (objects_of body.statements)) ≡ rising (nets_of h (objects_of b.statements)) =
    ap (λ (xs : List ℕ). rising (nets_of xs (objects_of body.statements))) (sym eh)
    ∙ ap (λ (y : Body). rising (nets_of h (objects_of y.statements))) (sym eb) in
    record { placed = there; sensitive = sensitivity_rises s x e; reads = reads_rise r object_nets reads (objects_of body.statements) one names ∙ two }

pub block_at : (blocks : List Block) (n : ℕ) (b : Block) → All (IsBlock blocks) blocks → n < length blocks → b ≡ get_or blocks n b → IsBlock blocks b
block_at blocks n b all lt e = subst (IsBlock blocks) (sym e) (all n b lt)
