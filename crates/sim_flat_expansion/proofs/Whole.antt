-- The result of the walk from the top is a design.
use Rattle.std.proofs.Common.{◌≡◌, ℕ, ◌<◌, List, [], length, get_or, All, ap, sym, ◌∙◌, subst, arith, refl}
use Rattle.std.proofs.lemmas.List.{get_or_read}
use Rattle.sim_flat_design.specs.declared.design.DriverOf.{DriverOf}
use Rattle.sim_flat_design.specs.Designs.{Net, Design, IsDesign, IsNet, IsPlaced}
use Rattle.sim_flat_design.specs.Processes.{Process}
use Rattle.sim_flat_blocks.specs.declared.links.Link.{Link}
use Rattle.sim_flat_blocks.specs.declared.parts.Block.{Block}
use Rattle.sim_flat_expansion.specs.declared.processes.PartialDesign.{PartialDesign}
use Rattle.sim_flat_blocks.specs.Blocks.{IsBlock, IsWithinLimits, no_block, levels}
use Rattle.sim_flat_expansion.specs.Expanding.{FlatSources, block_expanded, expanded}
use Rattle.sim_flat_expansion.proofs.Sound.{all_of, Fine, block_expanded_sound}
use Rattle.sim_flat_expansion.specs.Flat.{flat}
use Rattle.sim_flat_expansion.proofs.Law.{expanded_is_flat}

abbrev Made : Type 0
Made = List Net × FlatSources × PartialDesign

abbrev start : PartialDesign
start = record { nets = 0; processes = []; drivers = [] }

abbrev pub design : Made → Design
design x = record { nets = x.0; processes = x.2.processes; drivers = x.2.drivers }

-- the walk from a block, in the form of the function
is_expanded : (blocks : List Block) (top : ℕ) (b : Block) (ps : List Process) (ds : List DriverOf) (x : Made)
    → top < length blocks → b ≡ get_or blocks top b → ps ≡ [] → ds ≡ []
    → x ≡ block_expanded blocks 33 [] [] [] b [] (record { nets = 0; processes = ps; drivers = ds }) → design x ≡ expanded blocks top
unfolding expanded
is_expanded blocks top b ps ds x lt eb ep ed e =
    let one : x ≡ block_expanded blocks 33 [] [] [] b [] start =
    e ∙ (ap (λ (qs : List Process). block_expanded blocks 33 [] [] [] b [] (record { nets = 0; processes = qs; drivers = ds })) ep
    ∙ ap (λ (qs : List DriverOf). block_expanded blocks 33 [] [] [] b [] (record { nets = 0; processes = []; drivers = qs })) ed) in
    let eb2 : b ≡ get_or blocks top no_block = get_or_read blocks top b lt eb no_block in
    ap design (one ∙ ap (λ (c : Block). block_expanded blocks 33 [] [] [] c [] start) eb2)

-- the result of the walk from the top is a flat design, if it is within the limits
expanded_is_design : (blocks : List Block) (top : ℕ) → All (IsBlock blocks) blocks → top < length blocks → IsWithinLimits (expanded blocks top)
    → IsDesign (expanded blocks top)
unfolding expanded
expanded_is_design blocks top known lt small =
    let b = get_or blocks top no_block in
    let x = block_expanded blocks levels [] [] [] b [] start in
    let a = block_expanded_sound blocks known levels [] [] [] b [] start (known top no_block lt) (omega arith) tt tt
    (record { placed = tt; owned = refl }) tt in
    let count : x.2.nets ≡ length x.0 = (let e = a.total in omega arith) in
    let fine : Fine (length x.0) x.2 = subst (λ (k : ℕ). Fine k x.2) count a.fine in
    record {
      nets_bound = small.nets;
      processes_bound = small.processes;
      drivers_bound = small.drivers;
      nets = all_of (IsNet (length x.2.drivers)) x.0 a.nets;
      processes = all_of (IsPlaced (length x.0)) x.2.processes fine.placed;
      drivers = fine.owned;
    }

-- the same for the flat design of the hierarchy
pub is_flat : (blocks : List Block) (top : ℕ) (b : Block) (path : List ℕ) (links : List Link) (ps : List Process) (ds : List DriverOf) (x : Made)
    → All (IsBlock blocks) blocks → top < length blocks → b ≡ get_or blocks top b → path ≡ [] → links ≡ [] → ps ≡ [] → ds ≡ []
    → x ≡ block_expanded blocks 33 path links [] b [] (record { nets = 0; processes = ps; drivers = ds }) → design x ≡ flat blocks top
is_flat blocks top b path links ps ds x known lt eb et el ep ed e =
    is_expanded blocks top b ps ds x lt eb ep ed
    (e ∙ (ap (λ (t : List ℕ). block_expanded blocks 33 t links [] b [] (record { nets = 0; processes = ps; drivers = ds })) et
    ∙ ap (λ (ls : List Link). block_expanded blocks 33 [] ls [] b [] (record { nets = 0; processes = ps; drivers = ds })) el))
    ∙ expanded_is_flat blocks top known lt

pub flat_is_design : (blocks : List Block) (top : ℕ) → All (IsBlock blocks) blocks → top < length blocks → IsWithinLimits (flat blocks top)
    → IsDesign (flat blocks top)
flat_is_design blocks top known lt small =
    let e = expanded_is_flat blocks top known lt in
    subst IsDesign e (expanded_is_design blocks top known lt (subst IsWithinLimits (sym e) small))
