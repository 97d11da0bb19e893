-- A count up to the limit decides whether a number is within the limit.
use Rattle.std.proofs.Common.{◌≡◌, ℕ, ◌≤◌, ◌&&◌, not, List, Bool, true, false, Decides, slice_index_or, refl, ap, sym, ◌∙◌}
use Rattle.std.proofs.Common.{arith}
use Rattle.sim_flat_design.specs.Designs.{most}
use Rattle.sim_flat_design.specs.Limits.{AreBounded, Limits}
use Rattle.sim_flat_blocks.specs.declared.parts.Block.{Block}
use Rattle.sim_flat_expansion.specs.declared.counts.Kind.TheVariants.{Nets, Processes, Drivers, Instances}
use Rattle.sim_flat_blocks.specs.Blocks.{IsWithinLimits, no_block}
use Rattle.sim_flat_expansion.specs.Counts.{number, capped}
use Rattle.sim_flat_expansion.specs.Depth.{has_chain}
use Rattle.sim_flat_expansion.specs.Flat.{flat}
use Rattle.sim_flat_expansion.specs.Limits.{Fits, HasAtMost, all}

pub is_within : (n x limit : ℕ) (b : Bool) → x ≡ capped n → limit ≤ most → Decides b (x ≤ limit) → Decides b (n ≤ limit)
is_within n x limit b e l d = ((λ t. let k = d.0 t in omega arith), λ le. d.1 (omega arith))

both : (a b : Bool) → a && b ≡ true → (a ≡ true) × (b ≡ true)
both true b e = (refl, e)
both false b e = cc

is_false : (b : Bool) → not b ≡ true → b ≡ false
is_false true e = cc
is_false false e = refl

together : (a b : Bool) → a ≡ true → b ≡ true → a && b ≡ true
together a b e d = rw e d

pub all_holds : (a b c : Bool) {P Q R : Type 0} → Decides a P → Decides b Q → Decides c R → Decides (all a b c) (P × Q × R)
all_holds a b c p q r = (
  (λ t. let x = both a (b && c) t in let y = both b c x.1 in (p.0 x.0, q.0 y.0, r.0 y.1)),
  λ h. together a (b && c) (p.1 h.0) (together b c (q.1 h.1) (r.1 h.2)),
)

pub design_fits_is : (objects : ℕ) (blocks : List Block) (top : ℕ) (n p d : Bool) → Decides n (number Nets blocks top ≤ objects)
    → Decides p (number Processes blocks top ≤ objects) → Decides d (number Drivers blocks top ≤ objects)
    → Decides (all n p d) (HasAtMost objects (flat blocks top))
unfolding number
design_fits_is objects blocks top n p d hn hp hd =
    let h = all_holds n p d hn hp hd in
    ((λ t. let x = h.0 t in record { nets = x.0; processes = x.1; drivers = x.2 }), λ f. h.1 (f.nets, f.processes, f.drivers))

is_shallow : (deep b : Bool) → deep ≡ b → Decides (not deep) (b ≡ false)
is_shallow deep b e = ((λ t. sym e ∙ is_false deep t), λ f. ap not (e ∙ f))

pub fits_is : (limits : Limits) (blocks : List Block) (top : ℕ) (deep i d : Bool) → deep ≡ has_chain blocks 33 (slice_index_or blocks top no_block)
    → Decides i (number Instances blocks top ≤ limits.instances) → Decides d (HasAtMost limits.objects (flat blocks top))
    → Decides (all (not deep) i d) (Fits limits blocks top)
fits_is limits blocks top deep i d e hi hd =
    let h = all_holds (not deep) i d (is_shallow deep (has_chain blocks 33 (slice_index_or blocks top no_block)) e) hi hd in
    ((λ t. let x = h.0 t in record { design = x.2; instances = x.1; depth = x.0 }), λ f. h.1 (f.depth, f.instances, f.design))

pub within_limits : (limits : Limits) (blocks : List Block) (top : ℕ) (deep i d : Bool) → AreBounded limits
    → Decides d (HasAtMost limits.objects (flat blocks top)) → all (not deep) i d ≡ true → IsWithinLimits (flat blocks top)
within_limits limits blocks top deep i d bounded hd fit =
    let h = hd.0 (both i d (both (not deep) (i && d) fit).1).1 in
    let b = bounded.objects in
    record { nets = omega (arith, h.nets, b); processes = omega (arith, h.processes, b); drivers = omega (arith, h.drivers, b) }
