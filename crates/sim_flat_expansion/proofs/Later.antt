-- The expansion of objects depends only on the flat sources at the remaining positions.
use Rattle.std.proofs.Common.{◌≡◌, ℕ, ◌+◌, ◌≤◌, List, [], ◌∷◌, ◌++◌, length, slice_index_or, refl, ap, ◌∙◌, arith}
use Rattle.sim_flat_design.specs.declared.design.Source.{Source}
use Rattle.sim_flat_design.specs.Designs.{Net}
use Rattle.sim_flat_blocks.specs.declared.links.Link.{Link}
use Rattle.sim_flat_blocks.specs.declared.parts.Object.{Object}
use Rattle.sim_flat_blocks.specs.declared.parts.Port.{Port}
use Rattle.sim_flat_blocks.specs.declared.parts.Block.{Block}
use Rattle.sim_flat_expansion.specs.Expanding.{FlatSources, finished, ports_expanded, signals_expanded, objects_expanded}

signals_later : (prefix : List ℕ) (own after : FlatSources) (n : ℕ) (os : List Object) (nets : List Net)
    → ((m : ℕ) → n ≤ m → slice_index_or after m [] ≡ slice_index_or own m [])
    → signals_expanded prefix after n os nets ≡ signals_expanded prefix own n os nets
unfolding signals_expanded
signals_later prefix own after n [] nets h = refl
signals_later prefix own after n (o ∷ os) nets h =
    ap (λ (ls : List Source). signals_expanded prefix after (n + 1) os
    (nets ++ record { name = prefix ++ o.name.text; sources = finished o.default ls } ∷ [])) (h n (omega arith))
    ∙ signals_later prefix own after (n + 1) os _ (λ m le. h m (omega arith))

-- the ports first, and then the remaining signals
pub objects_are : (prefix : List ℕ) (links : List Link) (own after : FlatSources) (b : Block) (outer up : FlatSources) (ps : List Port) (os : List Object)
    (nets all : List Net) → ps ≡ b.ports → os ≡ b.signals → (nets, up) ≡ ports_expanded prefix links own 0 ps [] outer
    → ((m : ℕ) → length ps ≤ m → slice_index_or after m [] ≡ slice_index_or own m [])
    → all ≡ signals_expanded prefix after (length ps) os nets → (all, up) ≡ objects_expanded prefix links own b outer
objects_are prefix links own after b outer up ps os nets all ep es e later f =
    let x = ports_expanded prefix links own 0 b.ports [] outer in
    let one : (nets, up) ≡ x = e ∙ ap (λ (qs : List Port). ports_expanded prefix links own 0 qs [] outer) ep in
    let first : nets ≡ x.0 = ap (λ (y : List Net × FlatSources). y.0) one in
    let second : up ≡ x.1 = ap (λ (y : List Net × FlatSources). y.1) one in
    let made : all ≡ signals_expanded prefix own (length b.ports) b.signals x.0 =
    f ∙ (signals_later prefix own after (length ps) os nets later
    ∙ (ap (λ (qs : List Port). signals_expanded prefix own (length qs) os nets) ep
    ∙ (ap (λ (qs : List Object). signals_expanded prefix own (length b.ports) qs nets) es
    ∙ ap (signals_expanded prefix own (length b.ports) b.signals) first))) in
    cc
